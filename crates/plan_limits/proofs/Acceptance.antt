-- What limits have to do with acceptance, and what the start of runs has to do with whole plans.
use Rattle.std.proofs.Common.{ℕ, List, Option, arith, refl, sym, subst, []}
use Rattle.shop_base.specs.Plan.{PlannedShop, IsWellShaped}
use Rattle.shop_base.specs.AheadLaw.{TheStartIsACase}
use Rattle.shop_base.proofs.StartAhead.{the_start_is_a_case-holds}
use Rattle.plan_verifier.proofs.Reasons.{acceptable}
use Rattle.plan_bounds.specs.Bounds.{ShopTimes, times_of}
use Rattle.plan_limits.specs.Stages.{stage_at_start}
use Rattle.plan_limits.specs.Limits.{KeepsLimits, NoPlanKeepsFrom}
use Rattle.plan_limits.specs.LimitsLaw.{AcceptablePlansKeepLimits, NeverIsNeverAccepted, NeverIsNeverAcceptedFromThere, TheStartIsEveryPlan}

pub acceptable_plans_keep_limits-holds : AcceptablePlansKeepLimits
acceptable_plans_keep_limits-holds p limits within accepted = record {
  acyclic = accepted.acyclic;
  jobs = λ j n inside limited nodes k path. omega (arith, accepted.budgets j inside nodes k path, within j n inside limited);
}

pub never_is_never_accepted-holds : NeverIsNeverAccepted
never_is_never_accepted-holds t limits never = (
  λ p shaped same within accepted. never p shaped same (acceptable_plans_keep_limits-holds p limits within accepted),
  λ v is same within. never v.planned is.schedule.shaped same (acceptable_plans_keep_limits-holds v.planned limits within (acceptable v.planned v.times is.ordered is.budgets)),
)

pub never_is_never_accepted_from_there-holds : NeverIsNeverAcceptedFromThere
never_is_never_accepted_from_there-holds s limits p never goes within accepted = never p goes (record {
  acyclic = λ nodes cycle. accepted.acyclic (nodes, cycle);
  jobs = λ j n inside here limited nodes k path. omega (arith, accepted.budgets j inside here nodes k path, within j n inside limited);
})

-- what is out by limits in a whole plan is so from the start
start_keeps : (p : PlannedShop) (limits : List (Option ℕ)) → IsWellShaped p → KeepsLimits p limits → NoPlanKeepsFrom (stage_at_start (times_of p)) limits → ⊥
start_keeps p limits shaped keeps never = never p (record { shaped = shaped; same = refl; run = []; is_run = tt; cell = refl }) (record {
  acyclic = keeps.acyclic;
  jobs = λ j n inside here limited nodes k path. (
      let (others, m, le, longer) = case.no_longer nodes _ k path in
      omega (arith, le, keeps.jobs j n inside limited others m longer));
})
  where
    case : TheStartIsACase p
    case = the_start_is_a_case-holds p shaped

pub the_start_is_every_plan-holds : TheStartIsEveryPlan
the_start_is_every_plan-holds t limits never p shaped same keeps =
    start_keeps p limits shaped keeps (subst (λ (x : ShopTimes). NoPlanKeepsFrom (stage_at_start x) limits) (sym same) never)
