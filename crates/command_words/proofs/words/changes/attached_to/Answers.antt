use Rattle.std.proofs.Common.{◌∙◌, ap, map, sym}
use Rattle.clap.specs.Words.{found_of, rows_of}
use Rattle.clap.specs.declared.error.kind.ErrorKind.TheVariants.{ArgumentConflict}
use Rattle.command_words.specs.Given.{values_of}
use Rattle.command_words.specs.Changes.{rises}
use Rattle.command_words.proofs.words.Asking.{all_owned, is_used, none_misfit, none_owned, not_used, places_clash, places_fit}
use Rattle.command_words.proofs.words.Reasons.{names_only}
use Rattle.command_words.proofs.words.changes.attached_to.Goals as goal

pub returns-then-not-contains_id-clause-exact : goal.returns-then-not-contains_id-clause-exact
returns-then-not-contains_id-clause-exact c =
    let found = found_of c.args.matches.now in
    c.new.ensures.items
    ∙ none_owned c.args.name.now c.args.flag.now (map (λ word. word.now) c.args.words.now) (rows_of found) (not_used found c.args.name.now (sym c.contains_id.ensures ∙ c.if-not-contains_id.true))

pub returns-then-not-contains_id-clause-fits : goal.returns-then-not-contains_id-clause-fits
returns-then-not-contains_id-clause-fits c =
    let found = found_of c.args.matches.now in
    none_misfit c.args.name.now c.args.flag.now (map (λ word. word.now) c.args.words.now) (rows_of found) (not_used found c.args.name.now (sym c.contains_id.ensures ∙ c.if-not-contains_id.true))

pub returns-then-not-rises-clause-refused : goal.returns-then-not-rises-clause-refused
returns-then-not-rises-clause-refused c =
    let found = found_of c.args.matches.now in
    let owners = ap (rises (values_of c.args.name.now (rows_of found))) (c.deref.ensures.value ∙ c.in_ok-owners.ensures) in
    let used = is_used found c.args.name.now (sym c.contains_id.ensures ∙ c.if-not-contains_id.false) in
    let clash = places_clash c.args.name.now c.args.flag.now (map (λ word. word.now) c.args.words.now) (rows_of found) used (sym owners ∙ sym c.rises.ensures ∙ c.if-not-rises.true) in
    names_only ArgumentConflict _ c.misplaced.result clash c.misplaced.ensures

pub returns-clause-exact : goal.returns-clause-exact
returns-clause-exact c =
    let found = found_of c.args.matches.now in
    c.in_ok-owners.ensures
    ∙ all_owned c.args.name.now c.args.flag.now (map (λ word. word.now) c.args.words.now) (rows_of found) (is_used found c.args.name.now (sym c.contains_id.ensures ∙ c.if-not-contains_id.false))

pub returns-clause-fits : goal.returns-clause-fits
returns-clause-fits c =
    let found = found_of c.args.matches.now in
    let owners = ap (rises (values_of c.args.name.now (rows_of found))) (c.deref.ensures.value ∙ c.in_ok-owners.ensures) in
    let used = is_used found c.args.name.now (sym c.contains_id.ensures ∙ c.if-not-contains_id.false) in
    places_fit c.args.name.now c.args.flag.now (map (λ word. word.now) c.args.words.now) (rows_of found) used (sym owners ∙ sym c.rises.ensures ∙ c.if-not-rises.false)
