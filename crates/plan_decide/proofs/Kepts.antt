-- Settings, and plans that are kept in them.
use Rattle.std.proofs.Common.{◌≡◌, ◌↔◌, IsTrue, Bool, true, ℕ, ◌<◌, ◌≤◌, ◌⊎◌, inl, inr, false, List, length, set, Option, None, Some, arith, refl, sym, ap, subst, ◌∙◌, true≢false}
use Rattle.std.specs.Prelude.{Result, Ok, Err, IfOk, IfSome}
use Rattle.std.proofs.lemmas.Bool.{cases_lt}
use Rattle.std.proofs.lemmas.List.{length-set}
use Rattle.shop_base.specs.declared.node.Node.{Node}
use Rattle.shop_base.specs.declared.limits.TheConstants.{MAX_MOMENT}
use Rattle.shop_base.specs.Plan.{PlannedShop, jobs, steps, IsWellShaped}
use Rattle.shop_base.specs.Cell.{Cell, made, since, IsGone}
use Rattle.shop_base.specs.Graph.{leaving}
use Rattle.shop_base.specs.Ahead.{PathAhead}
use Rattle.cell_tables.specs.{Kept.KeepsSoFar, Recasts.IsRecast, Rests.IsReached}
use Rattle.cell_tables.proofs.{OneCarried.carried_alone, Reorders.{reached_sound, begins_keeps}}
use Rattle.alt_graph.specs.Times.{NodeTimes, earliest_of}
use Rattle.plan_verifier.specs.Accepted.{HasNoCycle}
use Rattle.plan_verifier.specs.Leavings.{leaves_in, IsLastLeaving}
use Rattle.plan_verifier.specs.Rest.{AreOrderedAhead}
use Rattle.plan_verifier.specs.RestVerdicts.{IsAcceptableAhead}
use Rattle.plan_bounds.specs.Bounds.{times_of}
use Rattle.plan_limits.specs.declared.asking.LimitsAnswer.{LimitsAnswer}
use Rattle.plan_limits.specs.declared.asking.LimitsAnswer.TheVariants.{Never, Orders, Open}
use Rattle.plan_limits.specs.Stages.{stage_of}
use Rattle.plan_limits.specs.Limits.{NoPlanKeepsFrom}
use Rattle.plan_limits.specs.Answered.{OnAnsweredNever}
use Rattle.plan_decide.specs.declared.aim.Objective.{Objective}
use Rattle.plan_decide.specs.declared.aim.Objective.TheVariants.{Makespan, Leaving}
use Rattle.plan_decide.specs.declared.kept.Kept.TheVariants.{Rest}
use Rattle.plan_decide.specs.Cases.{Past, nothing, run_to, KeepsPast, HasValue, is_waiting, case_jobs}
use Rattle.plan_decide.specs.Pasts.{HasNotBegun}
use Rattle.plan_decide.specs.Excluding.{HasAcyclicPlan}
use Rattle.plan_decide.specs.Objectives.{IsLeastValue}
use Rattle.plan_decide.specs.Asking.{NoPlanKeeps}
use Rattle.plan_decide.specs.Settings.{AskedRest, past_by, past_in, case_in, IsSet, FitsPast, IsKeptAs, AreTimesAhead, freed}
use Rattle.plan_decide.proofs.Bounded.{IsRootedIn, carried_same, gone_least}
use Rattle.plan_decide.proofs.Limits.{IsReachedBy, none_keeps}

pub rest_makespan : (past : Past) (p : PlannedShop) (times : NodeTimes) (n : ℕ) → FitsPast past (Rest p times) → IsLastLeaving p (leaves_in p times) n → HasValue past Makespan p n
rest_makespan nothing p times n fits is = absurd fits
rest_makespan (run_to base c present) p times n fits is = record {
  left = λ j inside gone. omega (arith, fits.left j inside gone, is.bound j inside);
  bound = λ j nodes k inside path. omega (arith, fits.greatest nodes (leaving p j) k path, is.bound j inside);
  reached = (is.reached.0, is.reached.1, at is.reached.0 is.reached.1 is.reached.2);
}
  where
    at : (j : ℕ) → j < jobs p → earliest_of times (leaving p j) ≡ n → (IsGone p c j × (since c j ≡ n)) ⊎ ((nodes : List Node) × PathAhead p c present nodes (leaving p j) n)
    at j inside same = elim (cases_lt (steps p j) (made c j)) [
      | inl gone ↦ inl (gone, sym (fits.left j inside gone) ∙ same)
      | inr here ↦ (let found = fits.reached (leaving p j) (record { job = inside; place = omega arith }) here in
          inr (found.0, subst (λ (m : ℕ). PathAhead p c present found.0 (leaving p j) m) same found.1))
    ]

pub rest_leaving : (past : Past) (p : PlannedShop) (times : NodeTimes) (j n : ℕ) → FitsPast past (Rest p times) → j < jobs p → n ≡ earliest_of times (leaving p j) → HasValue past (Leaving j) p n
rest_leaving nothing p times j n fits inside same = absurd fits
rest_leaving (run_to base c present) p times j n fits inside same = record {
  left = λ gone. same ∙ fits.left j inside gone;
  ahead = λ here. (
      let ahead : made c j ≤ steps p j = not_gone here in
      let found = fits.reached (leaving p j) (record { job = inside; place = omega arith }) ahead in
      record {
        reached = (found.0, subst (λ (m : ℕ). PathAhead p c present found.0 (leaving p j) m) (sym same) found.1);
        longest = λ nodes k path. omega (arith, same, fits.greatest nodes (leaving p j) k path);
      });
}
  where
    not_gone : (IsGone p c j → ⊥) → made c j ≤ steps p j
    not_gone here = elim (cases_lt (steps p j) (made c j)) [
      | inl gone ↦ absurd (here gone)
      | inr le ↦ le
    ]

-- ---- of a setting

-- what has happened has led to its cell
pub rooted : (s : AskedRest) → IsSet s → IsRootedIn (times_of s.plan) (past_in s)
rooted s set = go s.is_whole
  where
    go : (b : Bool) → IsRootedIn (times_of s.plan) (past_by b s.plan s.cell s.present)
    go true = tt
    go false = record { shaped = set.shaped; same = refl; reached = set.reached }

reached_by : (s : AskedRest) → IsSet s → IsReachedBy s.plan (past_in s) s.cell s.present
reached_by s set = go s.is_whole set.whole
  where
    go : (b : Bool) → IsTrue b ↔ HasNotBegun s.plan s.cell s.present → IsReachedBy s.plan (past_by b s.plan s.cell s.present) s.cell s.present
    go true is = is.0 refl
    go false is = (set.shaped, set.reached, refl, refl, refl)

-- where no plan that goes on from its cell keeps limits none of its case does
pub asked_none : (s : AskedRest) (limits : List (Option ℕ)) → IsSet s → NoPlanKeepsFrom (stage_of s.plan s.cell s.present) limits → NoPlanKeeps (case_in s) limits
asked_none s limits set none = none_keeps s.plan (past_in s) (freed s.free s.plan.plan.budget) limits s.cell s.present (reached_by s set) none

pub never_if : {E P Q : Type 0} (r : Result LimitsAnswer E) → (P → Q) → IfOk r (OnAnsweredNever P) → IfOk r (OnAnsweredNever Q)
never_if (Ok Never) follows says = follows says
never_if (Ok (Orders orders)) follows says = tt
never_if (Ok Open) follows says = tt
never_if (Err e) follows says = tt

-- a job that is gone left when it did
pub gone_setting : (s : AskedRest) (objective : Objective) (j : ℕ) → j < case_jobs (case_in s) → is_waiting (times_of s.plan) (past_in s) j ≡ false → (objective ≡ Makespan) ⊎ (objective ≡ Leaving j) → IsLeastValue (case_in s) objective (since s.cell j)
gone_setting s objective j inside not which = go s.is_whole refl not
  where
    go : (b : Bool) → s.is_whole ≡ b → is_waiting (times_of s.plan) (past_by b s.plan s.cell s.present) j ≡ false → IsLeastValue (case_in s) objective (since s.cell j)
    go true is waits_not = absurd (true≢false waits_not)
    go false is waits_not = gone_least (case_in s) s.plan s.cell s.present objective j (ap (λ (b : Bool). past_by b s.plan s.cell s.present) is) inside waits_not which

-- there are as many budgets that are asked for
pub freed_length : (free : Option ℕ) (budget : List ℕ) → length (freed free budget) ≡ length budget
freed_length None budget = refl
freed_length (Some j) budget = length-set budget j MAX_MOMENT

-- all that was done keeps the plan by which it was done
kept_own : (p : PlannedShop) (c : Cell) → IsWellShaped p → IsReached p c → KeepsSoFar p c p
kept_own p c shaped reached = begins_keeps p p.plan.order c (reached_sound p c shaped reached).in_order

-- so where a setting's own plan has no cycle, some plan of its case has none
pub own_acyclic : (s : AskedRest) → IsSet s → HasNoCycle s.plan → HasAcyclicPlan (case_in s)
own_acyclic s set acyclic = record { plan = s.plan; is = record { shaped = set.shaped; same = refl; keeps = go s.is_whole }; acyclic = acyclic }
  where
    go : (b : Bool) → KeepsPast (past_by b s.plan s.cell s.present) s.plan
    go true = tt
    go false = kept_own s.plan s.cell set.shaped set.reached

-- ---- what is left by another plan

-- a cell that is recast to a plan with the same times is the same
pub recast_same : (p q : PlannedShop) (c new : Cell) → IsWellShaped p → IsReached p c → times_of q ≡ times_of p → IsRecast p c q new → new ≡ c
recast_same p q c new shaped reached same recast = carried_alone p c q new c recast.carried (carried_same p q c same (reached_sound p c shaped reached))

pub times_of_other : (p q r : PlannedShop) (c new : Cell) (t u : ℕ) (times : NodeTimes) → IsWellShaped p → IsReached p c → times_of q ≡ times_of p → r ≡ q → u ≡ t → IsRecast p c q new → IsAcceptableAhead r new u × AreOrderedAhead r new u times
    → AreTimesAhead p c t q times
times_of_other p q r c new t u times shaped reached same plan present recast (acceptable, ordered) =
    let cell = recast_same p q c new shaped reached same recast in
    record {
      keeps = recast.kept;
      acceptable = subst (λ (x : PlannedShop). IsAcceptableAhead x c t) plan (subst (λ (d : Cell). IsAcceptableAhead r d t) cell (subst (λ (n : ℕ). IsAcceptableAhead r new n) present acceptable));
      ordered = subst (λ (x : PlannedShop). AreOrderedAhead x c t times) plan (subst (λ (d : Cell). AreOrderedAhead r d t times) cell (subst (λ (n : ℕ). AreOrderedAhead r new n times) present ordered));
    }

pub some_if : {A E : Type 0} (r : Result (Option A) E) (IsOne IsOther : A → Type 0) → ((x : A) → IsOne x → IsOther x) → IfOk r (λ found. IfSome found IsOne) → IfOk r (λ found. IfSome found IsOther)
some_if (Ok (Some x)) IsOne IsOther follows is = follows x is
some_if (Ok None) IsOne IsOther follows is = tt
some_if (Err e) IsOne IsOther follows is = tt

pub kept_ahead : (p q : PlannedShop) (c : Cell) (t : ℕ) (times : NodeTimes) → IsWellShaped q → AreTimesAhead p c t q times → IsKeptAs (run_to p c t) q (Rest q times)
kept_ahead p q c t times shaped are = record { plan = refl; accepted = record { shaped = shaped; keeps = are.keeps; acceptable = are.acceptable }; fits = are.ordered }
