use Rattle.shop_base.specs.ShopFault.{AreSoundSteps}
use Rattle.plan_revise.proofs.checking.check_steps.Given as goal

-- the steps before this one are sound
abbrev pub invariant-loop-place : goal.invariant-loop-place
invariant-loop-place l = AreSoundSteps l.machines l.recirculates l.route l.place
