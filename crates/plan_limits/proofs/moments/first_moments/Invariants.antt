use Rattle.std.proofs.Common.{◌≡◌, length}
use Rattle.plan_limits.specs.Stages.{stage_of}
use Rattle.plan_limits.specs.Asked.{AreFirst}
use Rattle.plan_limits.proofs.moments.first_moments.Given as goal

abbrev pub invariant-loop-node : goal.invariant-loop-node
invariant-loop-node g l = record {
  first : AreFirst (stage_of l.cell.plan l.cell.cell l.present) l.nodes l.first.items;
  count : length l.first.items ≡ l.node-index;
}
