use Rattle.std.proofs.Common.{◌≡◌, ◌++◌, drop}
use Rattle.shop_base.specs.Graph.{ArcsLead}
use Rattle.plan_explain.specs.Cycles.{arc_lines}
use Rattle.plan_explain.proofs.cycles.push_arc_lines.Given as goal

-- what was written, and what is still to come
abbrev pub invariant-loop-node : goal.invariant-loop-node
invariant-loop-node l = record {
  printed : l.text.items ++ arc_lines l.names l.arcs l.last (drop l.node-index l.along) l.to ≡ l.initial.text.items ++ arc_lines l.names l.arcs l.fn.from l.along l.to;
  arcs : ArcsLead l.arcs l.last (drop l.node-index l.along) l.to;
}
