use Rattle.std.proofs.Common.{rules}
use Rattle.event_lines.proofs.details.put_unfinished_standing.Goals as goal

pub returns : goal.returns
returns c = search rules depth 2
