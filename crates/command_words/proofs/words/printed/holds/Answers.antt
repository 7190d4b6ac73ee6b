use Rattle.std.proofs.Common.{◌∙◌, ap, codes}
use Rattle.std.specs.List.{list_any}
use Rattle.clap.specs.Words.{found_of}
use Rattle.command_words.specs.Changes.{is_timed}
use Rattle.command_words.proofs.words.Getters.{values_given, values_left_out}
use Rattle.command_words.proofs.words.printed.holds.Goals as goal

pub returns-in-None : goal.returns-in-None
returns-in-None c = ap (list_any is_timed) (values_left_out (found_of c.args.matches.now) (codes "down") c.get_raw.result c.get_raw.ensures c.in-None.is)

pub returns-in-Some : goal.returns-in-Some
returns-in-Some c = c.is_any_timed.ensures ∙ ap (list_any is_timed) (values_given (found_of c.args.matches.now) (codes "down") c.get_raw.result c.in-Some.given c.get_raw.ensures c.in-Some.is)
