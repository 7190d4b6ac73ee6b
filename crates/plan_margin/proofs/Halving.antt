-- The margin, between what every job keeps its budget with and what some job doesn't.
use Rattle.std.proofs.Common.{◌≡◌, ℕ, ◌+◌, ◌<◌, ◌≤◌, Some, None, arith, refl, subst}
use Rattle.shop_base.specs.Plan.{PlannedShop}
use Rattle.plan_margin.specs.declared.margin.TheConstants.{MAX_MARGIN}
use Rattle.plan_margin.specs.Longer.{IsFirstPast}
use Rattle.plan_margin.specs.Lengths.{HasLongerSchedule}
use Rattle.plan_margin.specs.Margins.{IsMargin}
use Rattle.plan_margin.proofs.LongerPaths.{kept_with_less, past_with_more, schedule_keeps}

-- where nothing lies between the two
pub halved_margin : (p : PlannedShop) (kept past then_late : ℕ) → HasLongerSchedule p kept → IsFirstPast p past then_late → kept < past → past ≤ kept + 1 → past ≤ MAX_MARGIN
    → IsMargin p (record { thousandths = kept; then = Some then_late })
halved_margin p kept past then_late has first apart beside most = record {
  most = omega arith;
  kept = λ s less. kept_with_less p s kept less (schedule_keeps p kept has);
  past = λ s more le. (then_late, past_with_more p past s then_late (omega arith) first.past);
  next = (omega arith, subst (λ n. IsFirstPast p n then_late) next first);
}
  where
    next : past ≡ kept + 1
    next = omega arith

-- where every job keeps its budget with the greatest margin
pub greatest_margin : (p : PlannedShop) → HasLongerSchedule p MAX_MARGIN → IsMargin p (record { thousandths = MAX_MARGIN; then = None })
greatest_margin p has = record {
  most = omega arith;
  kept = λ s less. kept_with_less p s MAX_MARGIN less (schedule_keeps p MAX_MARGIN has);
  past = λ s more le. absurd (omega arith);
  next = refl;
}
