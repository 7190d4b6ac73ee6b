-- What is decided by what is found.
use Rattle.std.proofs.Common.{◌≡◌, ◌↔◌, IsTrue, Bool, ℕ, false, true, Option, sym, ap, ◌∙◌, subst, refl, arith, true≢false}
use Rattle.std.proofs.lemmas.List.{set-set, get_or-set_same}
use Rattle.shop_base.specs.declared.limits.TheConstants.{MAX_MOMENT}
use Rattle.shop_base.specs.Plan.{PlannedShop, IsWellShaped}
use Rattle.shop_base.specs.Cell.{Cell, start}
use Rattle.plan_decide.specs.declared.aim.Aim.{Aim}
use Rattle.plan_decide.specs.declared.aim.Aim.TheVariants.{Promises, Least}
use Rattle.plan_decide.specs.declared.aim.Objective.{Objective}
use Rattle.plan_decide.specs.declared.aim.Objective.TheVariants.{Makespan, Leaving}
use Rattle.plan_decide.specs.declared.decided.Within.{Within}
use Rattle.plan_decide.specs.declared.kept.Kept.{Kept}
use Rattle.plan_decide.specs.Cases.{Past, Case, with_budgets}
use Rattle.plan_decide.specs.Pasts.{case_of, whole_case, HasNotBegun, IsPastOf, unbegun, begun, HoldsFrom}
use Rattle.plan_decide.specs.Promises.{asked_for, IsInRange}
use Rattle.plan_decide.specs.Decisions.{IsAcceptedWith, IsKept, IsBest}
use Rattle.plan_decide.specs.Excluding.{AreAllCyclic, HasAcyclicPlan, AreExclusions}
use Rattle.plan_decide.specs.declared.listing.Listing.{Listing}
use Rattle.plan_decide.specs.Listed.{exclusions_of}
use Rattle.plan_decide.specs.Settings.{AskedRest, asked_rest, case_in, IsSet, past_by, past_in, plan_of, free_in, freed}
use Rattle.plan_decide.specs.Halves.{IsHalved}
use Rattle.plan_decide.specs.declared.cycles.Acyclic.{Acyclic}
use Rattle.plan_decide.specs.declared.cycles.Acyclic.TheVariants.{Never as NoneIs, Found as OneIs, Open as ItIsOpen}
use Rattle.plan_decide.specs.Found.{IsReady, IsAcyclic, is_unfound, IsBestFound}

halved_best : (t : Case) (objective : Objective) (kept : Kept) (within : Within) → IsHalved (asked_for t (Least objective)) objective (kept, within) → IsBest t (Least objective) (plan_of kept) within
halved_best t Makespan kept within is = record { objective = Makespan; asked = refl; plan = is.plan; value = is.value; least = is.least; apart = is.apart; exact = is.exact }
halved_best t (Leaving j) kept within is = record {
  objective = Leaving j;
  asked = refl;
  plan = subst (λ budgets. IsAcceptedWith (with_budgets t budgets) (plan_of kept)) (set-set t.task.budget j MAX_MOMENT within.at_most) is.plan;
  value = is.value;
  least = is.least;
  apart = is.apart;
  exact = is.exact;
}

pub found_best : (t : Case) (aim : Aim) (kept : Kept) (within : Within) → IsBestFound (asked_for t aim) aim (kept, within) → IsBest t aim (plan_of kept) within
found_best t aim kept within is = subst (λ a. IsBest t a (plan_of kept) within) (sym is.asked)
    (halved_best t is.objective kept within (subst (λ a. IsHalved (asked_for t a) is.objective (kept, within)) is.asked is.halved))

-- the case that is asked for is that of the budgets that are
pub asked_case : (p : PlannedShop) (past : Past) (aim : Aim) → with_budgets (case_of p past) (freed (free_in aim) p.plan.budget) ≡ asked_for (case_of p past) aim
asked_case p past Promises = refl
asked_case p past (Least Makespan) = refl
asked_case p past (Least (Leaving j)) = refl

-- and the job whose leaving is asked for has no promise in it
pub asked_ready : (p : PlannedShop) (past : Past) (aim : Aim) → IsWellShaped p → IsInRange (whole_case p) aim → IsReady (asked_for (case_of p past) aim) aim
asked_ready p past Promises shaped range = tt
asked_ready p past (Least Makespan) shaped range = tt
asked_ready p past (Least (Leaving j)) shaped range = (range, get_or-set_same p.plan.budget j MAX_MOMENT 0 (omega (arith, range, shaped.counts.budgets)))

-- whose plans are the same, whatever budgets are asked for
pub all_cyclic : (t : Case) (aim : Aim) → AreAllCyclic (asked_for t aim) → AreAllCyclic t
all_cyclic t Promises none = none
all_cyclic t (Least Makespan) none = none
all_cyclic t (Least (Leaving j)) none = λ p plan acyclic. none p (record { shaped = plan.shaped; same = plan.same; keeps = plan.keeps }) acyclic

-- what is listed, with what is found of plans without a cycle
pub never_known : (t : Case) (found : Listing) (acyclic : Acyclic) → AreExclusions t (exclusions_of found true) → IsAcyclic t acyclic → AreExclusions t (exclusions_of found (is_unfound acyclic))
never_known t found acyclic are is = record { some = are.some; each = are.each; order = are.order; alone = are.alone; apart = are.apart; acyclic = go acyclic is; pairs = are.pairs; left = are.left }
  where
    go : (a : Acyclic) → IsAcyclic t a → is_unfound a ≡ false → HasAcyclicPlan t
    go NoneIs none closed = absurd (true≢false closed)
    go OneIs has closed = has
    go ItIsOpen none closed = absurd (true≢false closed)

-- ---- what is decided by what is found

pub found_kept : (t : Case) (aim : Aim) (plan : PlannedShop) → (aim ≡ Promises) × IsAcceptedWith (asked_for t aim) plan → IsKept t aim plan
found_kept t aim plan (asked, is) = record { asked = asked; plan = subst (λ a. IsAcceptedWith (asked_for t a) plan) asked is }

-- of a run that hasn't begun it is what is decided of the whole plan
pub of_start : (p : PlannedShop) (holds : Case → Type 0) → HoldsFrom p (start p) 0 holds → holds (whole_case p)
of_start p holds from = go from.past from.is from.says
  where
    go : (past : Past) → IsPastOf p (start p) 0 past → holds (case_of p past) → holds (whole_case p)
    go _ (unbegun is) says = says
    go _ (begun not) says = absurd (not (refl, refl))

-- the rest of a run has begun, or is a whole plan
pub past_is : (s : AskedRest) → IsSet s → IsPastOf s.plan s.cell s.present (past_in s)
past_is s set = go s.is_whole set.whole
  where
    go : (b : Bool) → IsTrue b ↔ HasNotBegun s.plan s.cell s.present → IsPastOf s.plan s.cell s.present (past_by b s.plan s.cell s.present)
    go true is = unbegun (is.0 refl)
    go false is = begun (λ not. true≢false (sym (is.1 not)))

pub setting_holds : (p : PlannedShop) (c : Cell) (t : ℕ) (b : Bool) (free : Option ℕ) (aim : Aim) → IsSet (asked_rest p c t b free) → free ≡ free_in aim → HoldsFrom p c t (λ x. case_in (asked_rest p c t b free) ≡ asked_for x aim)
setting_holds p c t b free aim set same = record {
  past = past_by b p c t;
  is = past_is (asked_rest p c t b free) set;
  says = ap (λ (f : Option ℕ). with_budgets (case_of p (past_by b p c t)) (freed f p.plan.budget)) same ∙ asked_case p (past_by b p c t) aim;
}
