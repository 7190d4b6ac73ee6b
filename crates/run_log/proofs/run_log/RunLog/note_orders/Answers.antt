use Rattle.std.proofs.Common.{rules}
use Rattle.run_log.proofs.run_log.RunLog.note_orders.Goals as goal

pub returns-clause-noted : goal.returns-clause-noted
returns-clause-noted c = search rules depth 2

pub returns-then-orders-capacity-clause-full : goal.returns-then-orders-capacity-clause-full
returns-then-orders-capacity-clause-full c = search rules depth 2
