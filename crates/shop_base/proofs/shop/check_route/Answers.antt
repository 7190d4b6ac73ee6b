use Rattle.std.proofs.Common.{◌≤◌, Bool, true, false, length, arith, ap, refl, rules, inl, inr}
use Rattle.std.proofs.lemmas.Bool.{cases_lt}
use Rattle.shop_base.specs.declared.limits.TheConstants.{MAX_STEPS}
use Rattle.shop_base.specs.Shop.{route_at}
use Rattle.shop_base.specs.Vectors.{lists_of}
use Rattle.shop_base.specs.ShopFault.{AreSoundSteps, IsTooLong}
use Rattle.shop_base.proofs.FirstVisits.{few_firsts}
use Rattle.shop_base.proofs.RouteMarks.{steps_none}
use Rattle.shop_base.proofs.shop.check_route.Goals as goal

pub loop-step-init : goal.loop-step-init
loop-step-init c = steps_none _ _ _

pub loop-step-preserved : goal.loop-step-preserved
loop-step-preserved c = search rules depth 2

pub returns-clause-sound : goal.returns-clause-sound
returns-clause-sound c =
    let route = route_at (lists_of c.args.routes.now) c.args.job in
    let same = ap length c.steps_of-route.ensures in
    let steps : AreSoundSteps c.args.machines c.args.recirculates route (length route) = λ k lt. c.loop-step.invariant.sound k (omega (arith, same, lt, c.loop-step-test.false)) in
    record { visits_some = c.requires.some; few_steps = few c.args.recirculates steps c.requires.short; steps = steps }
  where
    few : (again : Bool) → AreSoundSteps c.args.machines again (route_at (lists_of c.args.routes.now) c.args.job) (length (route_at (lists_of c.args.routes.now) c.args.job))
        → (IsTooLong again (route_at (lists_of c.args.routes.now) c.args.job) → ⊥) → length (route_at (lists_of c.args.routes.now) c.args.job) ≤ MAX_STEPS
    few true steps short = elim (cases_lt MAX_STEPS (length (route_at (lists_of c.args.routes.now) c.args.job))) [ inl long ↦ absurd (short (refl, long)) | inr small ↦ small ]
    few false steps short = omega (arith, few_firsts c.args.machines _ steps, c.requires.reached.counts.few_machines)
