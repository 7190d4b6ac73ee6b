use Rattle.std.proofs.Common.{◌∙◌, ap, codes, false, refl}
use Rattle.std.specs.Option.{option_map_or}
use Rattle.std.specs.Str.{bytes_eq}
use Rattle.clap.specs.Words.{found_of}
use Rattle.command_words.proofs.words.Getters.{text_given, text_left_out}
use Rattle.command_words.proofs.words.is_set.Goals as goal

pub returns-in-Some : goal.returns-in-Some
returns-in-Some c =
    c.eq.ensures ∙ ap (λ o. option_map_or (λ text. bytes_eq text (codes "true")) o false)
    (text_given (found_of c.args.matches.now) c.args.name.now _ c.get_str.result c.in-Some.value c.get_str.ensures c.in-Some.is refl)

pub returns-in-None : goal.returns-in-None
returns-in-None c =
    ap (λ o. option_map_or (λ text. bytes_eq text (codes "true")) o false) (text_left_out (found_of c.args.matches.now) c.args.name.now c.get_str.result c.get_str.ensures c.in-None.is)
