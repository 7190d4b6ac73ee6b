use Rattle.std.proofs.Common.{rules}
use Rattle.event_lines.proofs.cell_numbers.cell_prefix.Goals as goal

pub returns-clause-prefix : goal.returns-clause-prefix
returns-clause-prefix c = search rules depth 2
