use Rattle.clap.specs.Words.{found_of}
use Rattle.command_words.proofs.words.Getters.{text_given, text_left_out}
use Rattle.command_words.proofs.words.text_of.Goals as goal

pub returns-in_ok-from_str-in-Some : goal.returns-in_ok-from_str-in-Some
returns-in_ok-from_str-in-Some c =
    text_given (found_of c.args.matches.now) c.args.name.now _ c.get_str.result c.in-Some.text c.get_str.ensures c.in-Some.is c.in_ok-from_str-in-Some.ensures.ok

pub returns-in-None : goal.returns-in-None
returns-in-None c = text_left_out (found_of c.args.matches.now) c.args.name.now c.get_str.result c.get_str.ensures c.in-None.is
