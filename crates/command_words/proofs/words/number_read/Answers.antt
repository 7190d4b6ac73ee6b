use Rattle.std.proofs.Common.{Some, ap}
use Rattle.clap.specs.declared.error.kind.ErrorKind.TheVariants.{ValueValidation}
use Rattle.command_words.proofs.words.GivenNumbers.{in_form, out_of_form}
use Rattle.command_words.proofs.words.Reasons.{names_only}
use Rattle.command_words.proofs.words.number_read.Goals as goal

pub returns-in-Some-clause-exact : goal.returns-in-Some-clause-exact
returns-in-Some-clause-exact c = ap Some c.in-Some.ensures.1

pub returns-in-Some-clause-fits : goal.returns-in-Some-clause-fits
returns-in-Some-clause-fits c = let form = c.args.form in in_form form.digits form.least form.most c.args.word.now c.in-Some.ensures.0

pub returns-in-None-clause-refused : goal.returns-in-None-clause-refused
returns-in-None-clause-refused c =
    let form = c.args.form in
    names_only ValueValidation _ c.no_number.result (out_of_form form.digits form.least form.most c.args.word.now c.in-None.ensures) c.no_number.ensures
