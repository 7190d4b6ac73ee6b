use Rattle.std.proofs.Common.{◌∙◌}
use Rattle.clap.specs.Words.{found_of}
use Rattle.command_words.proofs.words.Getters.{text_there}
use Rattle.command_words.proofs.words.printed.is_given.Goals as goal

pub returns : goal.returns
returns c = c.is_some.ensures ∙ text_there (found_of c.args.matches.now) c.args.name.now c.get_str.result c.get_str.ensures
