use Rattle.std.proofs.Common.{◌≡◌, ℕ, length}
use Rattle.plan_limits.specs.Stages.{stage_of}
use Rattle.plan_limits.specs.Asked.{AreLast}
use Rattle.plan_limits.proofs.moments.last_moments.Given as goal

abbrev pub invariant-loop-node : goal.invariant-loop-node
invariant-loop-node g l = record {
  last : (t : ℕ) → AreLast (stage_of l.cell.plan l.cell.cell t) l.nodes l.limits l.last.items;
  count : length l.last.items ≡ l.node-index;
}
