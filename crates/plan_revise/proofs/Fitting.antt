-- Visits and places of a plan that fits.
use Rattle.std.proofs.Common.{◌≡◌, ℕ, ◌<◌, ◌≤◌, inl, inr, [], length, ap, subst, arith}
use Rattle.std.proofs.lemmas.Bool.{cases_lt}
use Rattle.std.proofs.lemmas.List.{get_or_past}
use Rattle.shop_base.specs.declared.limits.TheConstants.{MAX_STEPS}
use Rattle.shop_base.specs.Plan.{PlannedShop, jobs, machines, steps, order, job_at, Visits, Stands, IsWellShaped}
use Rattle.shop_base.proofs.Visits.{steps_job}
use Rattle.plan_revise.specs.Fits.{IsFit}

-- a well-shaped plan fits
pub shaped_fits : (p : PlannedShop) → IsWellShaped p → IsFit p
shaped_fits p shaped = record {
  size = shaped.shop.counts;
  few_steps = few;
  steps_sound = λ j k within. (shaped.shop.routes j (steps_job p j k within)).steps k within;
  counts = shaped.counts;
  limits = shaped.limits;
  orders = shaped.orders;
}
  where
    few : (j : ℕ) → steps p j ≤ MAX_STEPS
    few j = elim (cases_lt j (jobs p)) [
      | inl inside ↦ (shaped.shop.routes j inside).few_steps
      | inr past ↦ omega (arith, ap length (get_or_past p.shop.routes j [] past))
    ]

-- a plan that fits, each of whose routes has a step, is well shaped
pub fits_shaped : (p : PlannedShop) → IsFit p → ((j : ℕ) → j < jobs p → 0 < steps p j) → IsWellShaped p
fits_shaped p fit some = record {
  shop = record {
    counts = fit.size;
    routes = λ j inside. record {
      visits_some = some j inside;
      few_steps = fit.few_steps j;
      steps = fit.steps_sound j;
    };
  };
  counts = fit.counts;
  limits = fit.limits;
  orders = fit.orders;
}

module _ (p : PlannedShop) (fit : IsFit p) where
  pub fit-machine : (j k m : ℕ) → Visits p j k m → m < machines p
  fit-machine j k m visits = omega (arith, visits.here, (fit.steps_sound j k visits.within).in_range)

  pub fit-stands : (j k m : ℕ) → Visits p j k m → (a : ℕ) × Stands p m a j k
  fit-stands j k m visits = (fit.orders m (fit-machine j k m visits)).complete j k visits

  -- at a job's place in an order it stands for a visit
  pub fit-place : (m a j : ℕ) → m < machines p → a < length (order p m) → job_at p m a ≡ j → (k : ℕ) × Stands p m a j k
  fit-place m a j inside within here = let found = (fit.orders m inside).on_route a within in (found.0, subst (λ i. Stands p m a i found.0) here found.1)
