-- Another release or another budget: what is left, and that the plan still fits.
use Rattle.std.proofs.Common.{◌≡◌, ◌≢◌, ℕ, ◌<◌, ◌≤◌, inl, inr, List, length, get_or, set, refl, ap, ◌∙◌, arith}
use Rattle.std.proofs.lemmas.Bool.{cases_eq}
use Rattle.std.proofs.lemmas.List.{get_or-set_same, get_or-set_other, length-set}
use Rattle.shop_base.specs.declared.limits.TheConstants.{MAX_RELEASE, MAX_MOMENT}
use Rattle.shop_base.specs.Plan.{PlannedShop, jobs, release, budget}
use Rattle.plan_revise.specs.Dates.{coming_by, promised_by}
use Rattle.plan_revise.specs.Fits.{IsFit}
use Rattle.plan_revise.proofs.PlacedParts.{SameVisits, same-order}

-- a list in which one entry is another is within a limit where both are
within-set : (xs : List ℕ) (j x limit : ℕ) → ((i : ℕ) → i < length xs → get_or xs i 0 ≤ limit) → x ≤ limit → j < length xs → (i : ℕ) → i < length xs → get_or (set xs j x) i 0 ≤ limit
within-set xs j x limit within small inside i less = elim (cases_eq i j) [
  | inl same ↦ omega (arith, ap (λ i. get_or (set xs j x) i 0) same, get_or-set_same xs j x 0 inside)
  | inr other ↦ omega (arith, get_or-set_other xs j i x 0 other, within i less)
]

module _ (p : PlannedShop) (j moment : ℕ) where
  -- the same visits are made
  pub coming-same : SameVisits p (coming_by p j moment)
  coming-same = record { lengths = λ i. refl; machines_same = λ i k. refl; orders = λ m. refl }

  pub promised-same : SameVisits p (promised_by p j moment)
  promised-same = record { lengths = λ i. refl; machines_same = λ i k. refl; orders = λ m. refl }

  module _ (fit : IsFit p) (inside : j < jobs p) where
    pub coming-release : release (coming_by p j moment) j ≡ moment
    coming-release = get_or-set_same p.plan.release j moment 0 (omega (arith, fit.counts.releases))

    pub coming-others : (i : ℕ) → i ≢ j → release (coming_by p j moment) i ≡ release p i
    coming-others i other = get_or-set_other p.plan.release j i moment 0 other

    pub promised-budget : budget (promised_by p j moment) j ≡ moment
    promised-budget = get_or-set_same p.plan.budget j moment 0 (omega (arith, fit.counts.budgets))

    pub promised-others : (i : ℕ) → i ≢ j → budget (promised_by p j moment) i ≡ budget p i
    promised-others i other = get_or-set_other p.plan.budget j i moment 0 other

    pub coming-fit : moment ≤ MAX_RELEASE → IsFit (coming_by p j moment)
    coming-fit small = record {
      size = fit.size;
      few_steps = fit.few_steps;
      steps_sound = fit.steps_sound;
      counts = record { releases = length-set p.plan.release j moment ∙ fit.counts.releases; budgets = fit.counts.budgets; orders = fit.counts.orders; cleanings = fit.counts.cleanings };
      limits = record {
        releases = λ i within. within-set p.plan.release j moment MAX_RELEASE (λ i less. fit.limits.releases i (omega (arith, fit.counts.releases))) small (omega (arith, fit.counts.releases)) i (omega (arith, fit.counts.releases));
        budgets = fit.limits.budgets;
        cleanings = fit.limits.cleanings;
      };
      orders = λ m here. same-order p (coming_by p j moment) coming-same m (fit.orders m here);
    }

    pub promised-fit : moment ≤ MAX_MOMENT → IsFit (promised_by p j moment)
    promised-fit small = record {
      size = fit.size;
      few_steps = fit.few_steps;
      steps_sound = fit.steps_sound;
      counts = record { releases = fit.counts.releases; budgets = length-set p.plan.budget j moment ∙ fit.counts.budgets; orders = fit.counts.orders; cleanings = fit.counts.cleanings };
      limits = record {
        releases = fit.limits.releases;
        budgets = λ i within. within-set p.plan.budget j moment MAX_MOMENT (λ i less. fit.limits.budgets i (omega (arith, fit.counts.budgets))) small (omega (arith, fit.counts.budgets)) i (omega (arith, fit.counts.budgets));
        cleanings = fit.limits.cleanings;
      };
      orders = λ m here. same-order p (promised_by p j moment) promised-same m (fit.orders m here);
    }
