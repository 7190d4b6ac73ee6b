use Rattle.std.proofs.Common.{rules}
use Rattle.text_lines.proofs.numbers.short_number_of.Goals as goal

pub returns-in-None : goal.returns-in-None
returns-in-None c = search rules depth 2
