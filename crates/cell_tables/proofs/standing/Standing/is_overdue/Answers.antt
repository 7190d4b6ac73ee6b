use Rattle.std.proofs.Common.{rules}
use Rattle.cell_tables.proofs.standing.Standing.is_overdue.Goals as goal

pub returns-in-Awaited : goal.returns-in-Awaited
returns-in-Awaited c = search rules
