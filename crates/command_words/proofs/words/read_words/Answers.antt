use Rattle.std.proofs.Common.{IfOk, ap, map, subst, sym}
use Rattle.command_words.specs.Choice.{Found, IsChoiceOf, IsFit, misfit_in}
use Rattle.command_words.proofs.words.Reasons.{no_reasons, names_first, names_next}
use Rattle.command_words.proofs.words.Accepted.{met, parse_accepts, accepted_fits, parse_refuses}
use Rattle.command_words.proofs.words.read_words.Goals as goal

pub chosen_by-chosen-requires : goal.chosen_by-chosen-requires
chosen_by-chosen-requires c =
    let is = c.in_ok-program.ensures.app in
    let words = map (λ word. word.now) c.args.words.now in
    subst IsFit (sym (met _ words _ _ is c.in-Ok.ensures.matches)) (accepted_fits words (parse_accepts _ words is c.in-Ok.ensures.kinds))

pub returns-in-Ok-clause-chosen : goal.returns-in-Ok-clause-chosen
returns-in-Ok-clause-chosen c =
    let words = map (λ word. word.now) c.args.words.now in
    subst (λ (f : Found). IfOk c.chosen_by-chosen.result (IsChoiceOf words f)) (met _ words _ _ c.in_ok-program.ensures.app c.in-Ok.ensures.matches) c.chosen_by-chosen.ensures.holds

pub returns-in-Ok-clause-accepted : goal.returns-in-Ok-clause-accepted
returns-in-Ok-clause-accepted c =
    let is = c.in_ok-program.ensures.app in
    let words = map (λ word. word.now) c.args.words.now in
    no_reasons _ _ _ c.chosen_by-chosen.result (parse_accepts _ words is c.in-Ok.ensures.kinds) (ap (misfit_in words) (met _ words _ _ is c.in-Ok.ensures.matches)) c.chosen_by-chosen.ensures.fits

pub returns-in-Ok-clause-refused : goal.returns-in-Ok-clause-refused
returns-in-Ok-clause-refused c =
    let is = c.in_ok-program.ensures.app in
    let words = map (λ word. word.now) c.args.words.now in
    names_next _ _ _ c.chosen_by-chosen.result (parse_accepts _ words is c.in-Ok.ensures.kinds) (ap (misfit_in words) (met _ words _ _ is c.in-Ok.ensures.matches)) c.chosen_by-chosen.ensures.refused

pub returns-in-Err-clause-refused : goal.returns-in-Err-clause-refused
returns-in-Err-clause-refused c =
    names_first _ _ c.fault_of-fault.result (parse_refuses _ (map (λ word. word.now) c.args.words.now) c.in-Err.error c.fault_of-fault.result c.in_ok-program.ensures.app c.in-Err.ensures.kinds c.fault_of-fault.ensures)
