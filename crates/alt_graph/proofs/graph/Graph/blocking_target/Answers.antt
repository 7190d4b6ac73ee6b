use Rattle.std.proofs.Common.{arith}
use Rattle.alt_graph.proofs.Standing.{target_found}
use Rattle.alt_graph.proofs.graph.Graph.blocking_target.Goals as goal

pub returns : goal.returns
returns c = target_found _ _ c.args.node c.behind.result (omega (arith, c.if-node-eq0.false)) (c.behind.ensures _ (rw c.shaped.ensures.plan at c.in_ok-_machine.ensures.machine))
