use Rattle.std.proofs.Common.{◌≤◌, Bool, true, false, length, arith, refl, inl, inr}
use Rattle.std.proofs.lemmas.Bool.{cases_lt}
use Rattle.shop_base.specs.declared.limits.TheConstants.{MAX_STEPS}
use Rattle.shop_base.specs.ShopFault.{AreSoundSteps, IsTooLong}
use Rattle.shop_base.proofs.FirstVisits.{few_firsts}
use Rattle.plan_revise.proofs.checking.check_steps.Goals as goal

pub returns-clause-sound : goal.returns-clause-sound
returns-clause-sound c =
    let route = c.args.route.now in
    let steps : AreSoundSteps c.args.machines c.args.recirculates route (length route) = λ k lt. c.loop-place.invariant k (omega (arith, lt, c.loop-place-test.false)) in
    record { visits_some = c.requires.some; few_steps = few c.args.recirculates steps c.requires.short; steps = steps }
  where
    few : (again : Bool) → AreSoundSteps c.args.machines again c.args.route.now (length c.args.route.now) → (IsTooLong again c.args.route.now → ⊥) → length c.args.route.now ≤ MAX_STEPS
    few true steps short = elim (cases_lt MAX_STEPS (length c.args.route.now)) [ inl long ↦ absurd (short (refl, long)) | inr small ↦ small ]
    few false steps short = omega (arith, few_firsts c.args.machines _ steps, c.requires.few_machines)
