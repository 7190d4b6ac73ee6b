use Rattle.std.proofs.Common.{◌≡◌}
use Rattle.cell_drive.proofs.hub.lean_plans.Given as goal

abbrev pub invariant-loop-verified : goal.invariant-loop-verified
invariant-loop-verified l = l.lean.items ≡ l.yielded
