use Rattle.std.proofs.Common.{rules, inl}
use Rattle.alt_graph.proofs.node_order.is_before.Goals as goal

pub returns-then-one-other : goal.returns-then-one-other
returns-then-one-other c = (λ _. inl c.if-one-other.true, search rules)

pub returns-then-one-other-2 : goal.returns-then-one-other-2
returns-then-one-other-2 c = search rules depth 2

pub returns-else-one-other-2 : goal.returns-else-one-other-2
returns-else-one-other-2 c = search rules depth 2
