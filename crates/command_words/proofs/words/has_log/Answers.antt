use Rattle.std.proofs.Common.{◌∙◌, Option, ap, codes, refl}
use Rattle.std.specs.Prelude.{is_some}
use Rattle.clap.specs.Words.{Text, first_of, found_of, rows_of}
use Rattle.command_words.specs.Choice.{first_given, kept_in}
use Rattle.command_words.proofs.words.Getters.{text_given, text_left_out}
use Rattle.command_words.proofs.words.has_log.Goals as goal

pub returns-in-Some : goal.returns-in-Some
returns-in-Some c =
    let found = found_of c.args.matches.now in
    ap (λ (log : Option Text). is_some (first_given log (first_given (first_of (codes "LOG") (rows_of found)) (kept_in (rows_of found))))) (text_given found (codes "after") _ c.get_str.result c.in-Some.field-0 c.get_str.ensures c.in-Some.is refl)

pub returns-in-None : goal.returns-in-None
returns-in-None c =
    let found = found_of c.args.matches.now in
    c.has_log_file.ensures
    ∙ ap (λ (log : Option Text). is_some (first_given log (first_given (first_of (codes "LOG") (rows_of found)) (kept_in (rows_of found))))) (text_left_out found (codes "after") c.get_str.result c.get_str.ensures c.in-None.is)
