use Rattle.std.proofs.Common.{◌∙◌, ap, refl}
use Rattle.clap.specs.Words.{found_of, rows_of}
use Rattle.command_words.specs.Choice.{has_both, is_set}
use Rattle.command_words.proofs.words.Getters.{text_given, text_left_out}
use Rattle.command_words.proofs.words.are_both.Goals as goal

pub returns-in-Some : goal.returns-in-Some
returns-in-Some c =
    let found = found_of c.args.matches.now in
    c.is_set.ensures ∙ ap (λ text. has_both text (is_set c.args.switch.now (rows_of found))) (text_given found c.args.option.now _ c.get_str.result c.in-Some.field-0 c.get_str.ensures c.in-Some.is refl)

pub returns-in-None : goal.returns-in-None
returns-in-None c =
    let found = found_of c.args.matches.now in
    ap (λ text. has_both text (is_set c.args.switch.now (rows_of found))) (text_left_out found c.args.option.now c.get_str.result c.get_str.ensures c.in-None.is)
