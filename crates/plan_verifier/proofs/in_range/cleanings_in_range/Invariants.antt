use Rattle.std.proofs.Common.{◌≡◌, ℕ, ◌<◌, ◌≤◌, Some}
use Rattle.shop_base.specs.{declared.limits.TheConstants.MAX_MOMENT, Cell.cleaning}
use Rattle.plan_verifier.proofs.in_range.cleanings_in_range.Given as goal

-- the cleanings looked at began within the limit
abbrev pub invariant-loop-machine : goal.invariant-loop-machine
invariant-loop-machine g l = (m s : ℕ) → m < l.machine → cleaning l.cell.cell m ≡ Some s → s ≤ MAX_MOMENT
