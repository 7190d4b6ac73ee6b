use Rattle.std.proofs.Common.{◌≡◌, [], IfErr, IfOk, map, subst, sym}
use Rattle.clap.specs.Words.{found_of, rows_of}
use Rattle.command_words.specs.Choice.{Found, NamesOneOf, misfit_in}
use Rattle.command_words.proofs.words.Reasons.{found_same}
use Rattle.command_words.proofs.words.chosen_by.Goals as goal

pub returns-in-Some-clause-refused : goal.returns-in-Some-clause-refused
returns-in-Some-clause-refused c =
    let words = map (λ word. word.now) c.args.words.now in
    let same = found_same c.args.matches.now c.in-Some.word.now (rows_of (found_of c.in-Some.matches.now)) c.in-Some.ensures.name c.in-Some.ensures.rows in
    subst (λ (found : Found). IfErr c.chosen_of.result (NamesOneOf (misfit_in words found))) (sym same) c.chosen_of.ensures.refused

pub returns-in-Some-clause-fits : goal.returns-in-Some-clause-fits
returns-in-Some-clause-fits c =
    let words = map (λ word. word.now) c.args.words.now in
    let same = found_same c.args.matches.now c.in-Some.word.now (rows_of (found_of c.in-Some.matches.now)) c.in-Some.ensures.name c.in-Some.ensures.rows in
    subst (λ (found : Found). IfOk c.chosen_of.result (λ _. misfit_in words found ≡ [])) (sym same) c.chosen_of.ensures.fits
