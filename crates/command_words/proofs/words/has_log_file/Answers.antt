use Rattle.std.proofs.Common.{◌∙◌, Option, ap, codes, refl}
use Rattle.std.specs.Prelude.{is_some}
use Rattle.clap.specs.Words.{Text, found_of, rows_of}
use Rattle.command_words.specs.Choice.{first_given, kept_in}
use Rattle.command_words.proofs.words.Getters.{text_given, text_left_out, text_there}
use Rattle.command_words.proofs.words.has_log_file.Goals as goal

pub returns-in-Some : goal.returns-in-Some
returns-in-Some c =
    let found = found_of c.args.matches.now in
    ap (λ (log : Option Text). is_some (first_given log (kept_in (rows_of found)))) (text_given found (codes "LOG") _ c.get_str.result c.in-Some.field-0 c.get_str.ensures c.in-Some.is refl)

pub returns-in-None : goal.returns-in-None
returns-in-None c =
    let found = found_of c.args.matches.now in
    c.is_some.ensures ∙ text_there found (codes "log") c.get_str-in-None.result c.get_str-in-None.ensures
    ∙ ap (λ (log : Option Text). is_some (first_given log (kept_in (rows_of found)))) (text_left_out found (codes "LOG") c.get_str.result c.get_str.ensures c.in-None.is)
