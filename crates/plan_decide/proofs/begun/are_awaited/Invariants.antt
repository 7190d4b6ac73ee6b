use Rattle.std.specs.Prelude.{◌≡◌, ℕ, ◌<◌, false}
use Rattle.shop_base.specs.Cell.{made, ready}
use Rattle.plan_decide.proofs.begun.are_awaited.Given as goal

-- nothing was reported of the jobs before this one
abbrev pub invariant-loop-job : goal.invariant-loop-job
invariant-loop-job g l = (j : ℕ) → j < l.job → (made l.cell.cell j ≡ 0) × (ready l.cell.cell j ≡ false)
