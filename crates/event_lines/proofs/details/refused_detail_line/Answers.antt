use Rattle.std.proofs.Common.{rules}
use Rattle.event_lines.proofs.details.refused_detail_line.Goals as goal

pub returns : goal.returns
returns c = search rules depth 2
