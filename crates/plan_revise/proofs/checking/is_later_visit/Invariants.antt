use Rattle.std.proofs.Common.{◌≢◌, ℕ, ◌<◌}
use Rattle.shop_base.specs.Shop.{step_at}
use Rattle.plan_revise.proofs.checking.is_later_visit.Given as goal

-- none of the steps before this one is on that machine
abbrev pub invariant-loop-earlier : goal.invariant-loop-earlier
invariant-loop-earlier l = (i : ℕ) → i < l.earlier → (step_at l.route i).machine ≢ (step_at l.route l.place).machine
