use Rattle.std.proofs.Common.{◌≡◌, [], IfOk, IfErr, Option, option_map, ap, refl, subst}
use Rattle.text_lines.specs.Numbers.{value_of}
use Rattle.clap.specs.Words.{Text, found_of}
use Rattle.command_words.specs.Choice.{NamesOneOf, number_misfit}
use Rattle.command_words.proofs.words.Getters.{text_given, text_left_out}
use Rattle.command_words.proofs.words.number_given.Goals as goal

pub returns-in-Some-clause-exact : goal.returns-in-Some-clause-exact
returns-in-Some-clause-exact c =
    let given = text_given (found_of c.args.matches.now) c.args.name.now _ c.get_str.result c.in-Some.word c.get_str.ensures c.in-Some.is refl in
    subst (λ (o : Option Text). IfOk c.number_read.result (λ number. number ≡ option_map value_of o)) given c.number_read.ensures.exact

pub returns-in-Some-clause-fits : goal.returns-in-Some-clause-fits
returns-in-Some-clause-fits c =
    let form = c.args.form in
    let given = text_given (found_of c.args.matches.now) c.args.name.now _ c.get_str.result c.in-Some.word c.get_str.ensures c.in-Some.is refl in
    subst (λ (o : Option Text). IfOk c.number_read.result (λ _. number_misfit form.digits form.least form.most o ≡ [])) given c.number_read.ensures.fits

pub returns-in-Some-clause-refused : goal.returns-in-Some-clause-refused
returns-in-Some-clause-refused c =
    let form = c.args.form in
    let given = text_given (found_of c.args.matches.now) c.args.name.now _ c.get_str.result c.in-Some.word c.get_str.ensures c.in-Some.is refl in
    subst (λ (o : Option Text). IfErr c.number_read.result (NamesOneOf (number_misfit form.digits form.least form.most o))) given c.number_read.ensures.refused

pub returns-in-None-clause-exact : goal.returns-in-None-clause-exact
returns-in-None-clause-exact c =
    let given = text_left_out (found_of c.args.matches.now) c.args.name.now c.get_str.result c.get_str.ensures c.in-None.is in
    ap (option_map value_of) given

pub returns-in-None-clause-fits : goal.returns-in-None-clause-fits
returns-in-None-clause-fits c =
    let form = c.args.form in
    let given = text_left_out (found_of c.args.matches.now) c.args.name.now c.get_str.result c.get_str.ensures c.in-None.is in
    subst (λ (o : Option Text). number_misfit form.digits form.least form.most o ≡ []) given refl
