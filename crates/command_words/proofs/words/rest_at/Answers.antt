use Rattle.std.proofs.Common.{◌∙◌, Some, codes, ap, refl, sym}
use Rattle.std.specs.Option.{option_map}
use Rattle.clap.specs.Words.{found_of}
use Rattle.clap.specs.declared.error.kind.ErrorKind.TheVariants.{MissingRequiredArgument, ValueValidation}
use Rattle.text_lines.specs.Numbers.{value_of}
use Rattle.command_words.proofs.words.Getters.{text_given, text_left_out}
use Rattle.command_words.proofs.words.Moments.{fits_none, fits_given, lacks_given, lacks_moment_given}
use Rattle.command_words.proofs.words.Reasons.{names_only}
use Rattle.command_words.proofs.words.rest_at.Goals as goal

pub returns-in_default-clause-exact : goal.returns-in_default-clause-exact
returns-in_default-clause-exact c =
    ap (option_map value_of) (text_left_out (found_of c.args.matches.now) (codes "at") c.get_str.result c.get_str.ensures c.in_default.is)

pub returns-in_default-clause-fits : goal.returns-in_default-clause-fits
returns-in_default-clause-fits c = fits_none _ _ (text_left_out (found_of c.args.matches.now) (codes "at") c.get_str.result c.get_str.ensures c.in_default.is)

pub returns-then-not-has_log-clause-refused : goal.returns-then-not-has_log-clause-refused
returns-then-not-has_log-clause-refused c =
    let said = text_given (found_of c.args.matches.now) (codes "at") c.in-Some.word.now c.get_str.result c.in-Some.word c.get_str.ensures c.in-Some.is refl in
    names_only MissingRequiredArgument _ c.no_log.result (lacks_given _ _ c.in-Some.word.now (sym c.has_log.ensures ∙ c.if-not-has_log.true) (sym said)) c.no_log.ensures

pub returns-in-Some-moment_of-clause-exact : goal.returns-in-Some-moment_of-clause-exact
returns-in-Some-moment_of-clause-exact c =
    let said = text_given (found_of c.args.matches.now) (codes "at") c.in-Some.word.now c.get_str.result c.in-Some.word c.get_str.ensures c.in-Some.is refl in
    ap (λ n. Some n) c.in-Some-moment_of.ensures.1 ∙ ap (option_map value_of) said

pub returns-in-Some-moment_of-clause-fits : goal.returns-in-Some-moment_of-clause-fits
returns-in-Some-moment_of-clause-fits c =
    let said = text_given (found_of c.args.matches.now) (codes "at") c.in-Some.word.now c.get_str.result c.in-Some.word c.get_str.ensures c.in-Some.is refl in
    fits_given _ _ c.in-Some.word.now (sym c.has_log.ensures ∙ c.if-not-has_log.false) (sym said) c.in-Some-moment_of.ensures.0

pub returns-in-None-clause-refused : goal.returns-in-None-clause-refused
returns-in-None-clause-refused c =
    let said = text_given (found_of c.args.matches.now) (codes "at") c.in-Some.word.now c.get_str.result c.in-Some.word c.get_str.ensures c.in-Some.is refl in
    names_only ValueValidation _ c.no_moment.result (lacks_moment_given _ _ c.in-Some.word.now (sym c.has_log.ensures ∙ c.if-not-has_log.false) (sym said) c.in-None.ensures) c.no_moment.ensures
