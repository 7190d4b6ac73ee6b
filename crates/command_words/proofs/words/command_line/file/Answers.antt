use Rattle.std.proofs.Common.{ap, true}
use Rattle.clap.specs.Words.{Rule}
use Rattle.command_words.proofs.words.command_line.file.Goals as goal

pub returns-clause-rule : goal.returns-clause-rule
returns-clause-rule c = rw (c.help.ensures, c.required.ensures) (ap (λ (r : Rule). record r { required = true }) c.new.ensures.rule)
