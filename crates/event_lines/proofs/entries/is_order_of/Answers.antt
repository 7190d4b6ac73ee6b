use Rattle.std.proofs.Common.{rules}
use Rattle.event_lines.proofs.entries.is_order_of.Goals as goal

pub returns-then-is_spot_of : goal.returns-then-is_spot_of
returns-then-is_spot_of c = search rules depth 2
