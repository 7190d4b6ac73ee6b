use Rattle.std.proofs.Common.{◌≡◌, ◌↔◌, ℕ, ◌<◌}
use Rattle.arc_choice.specs.Reach.{HasBit}
use Rattle.arc_choice.proofs.reach.Reach.new.Given as goal

-- the nodes before this one come with themselves
abbrev pub invariant-loop-node : goal.invariant-loop-node
invariant-loop-node l = record {
  nodes : l.reach.nodes ≡ l.nodes;
  bits : (a b : ℕ) → a < l.nodes → b < l.nodes → HasBit l.reach a b ↔ ((a < l.node) × (a ≡ b));
}
