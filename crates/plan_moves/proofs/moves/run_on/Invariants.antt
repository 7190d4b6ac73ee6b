use Rattle.std.proofs.Common.{◌≡◌}
use Rattle.plan_moves.specs.RunsOn.{RunsOn, IsOnTime}
use Rattle.plan_moves.proofs.moves.run_on.Given as goal

-- the run so far, by the same plan
abbrev pub invariant-next : goal.invariant-next
invariant-next g l = record {
  plan : l.controller.planned ≡ l.fn.controller.planned;
  on_time : IsOnTime l.fn.controller.planned l.present l.controller.cell;
  runs : RunsOn l.fn.controller.planned l.present l.fn.controller.cell l.fn.moves.items l.controller.cell l.moves.items;
}

-- each report leaves one less
abbrev pub decreases-next : goal.decreases-next
decreases-next g l = l.controller.left
