use Rattle.std.proofs.Common.{◌≡◌, ◌++◌, drop}
use Rattle.plan_explain.specs.Chains.{AreAlong, length_from, reached_lines}
use Rattle.plan_explain.proofs.chains.push_reached_lines.Given as goal

-- what was written, and what is still to come
abbrev pub invariant-loop-node : goal.invariant-loop-node
invariant-loop-node l = record {
  printed : l.text.items ++ reached_lines l.names l.arcs l.at l.last (drop l.node-index l.along) ≡ l.initial.text.items ++ reached_lines l.names l.arcs l.start l.fn.from l.along;
  arcs : AreAlong l.arcs l.last (drop l.node-index l.along);
  size : length_from l.arcs l.at l.last (drop l.node-index l.along) ≡ length_from l.arcs l.start l.fn.from l.along;
}
