use Rattle.alt_graph.proofs.NodeLists.{AreLedTo}
use Rattle.alt_graph.proofs.cycle_check.arcs_lead.Given as goal

-- arcs lead along the nodes exactly where they lead along those that are left
abbrev pub invariant-loop-node : goal.invariant-loop-node
invariant-loop-node l = AreLedTo l.shaped l.fn.from l.along l.to l.node-index l.last
