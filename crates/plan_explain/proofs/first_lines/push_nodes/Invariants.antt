use Rattle.std.proofs.Common.{◌≡◌, ◌++◌, drop}
use Rattle.plan_explain.specs.FirstLines.{node_words}
use Rattle.plan_explain.proofs.first_lines.push_nodes.Given as goal

-- what was written, and what is still to come
abbrev pub invariant-loop-node : goal.invariant-loop-node
invariant-loop-node l = l.text.items ++ node_words (drop l.node-index l.nodes) ≡ l.initial.text.items ++ node_words l.nodes
