-- The limits of a question, and what an answer to it says.
use Rattle.std.proofs.Common.{◌≡◌, ℕ, ◌<◌, ◌≤◌, nat_lt, ◌==◌, ◌||◌, if◌then◌else◌, Bool, true, false, List, [], ◌∷◌, length, Contains, Option, None, Some, is_some, arith, refl, sym, ap, ◌∙◌, subst, inl, inr, true≢false, eqb-true, ltb-true}
use Rattle.std.proofs.lemmas.Bool.{or_cases, cond_above, lt-ltb}
use Rattle.shop_base.specs.declared.limits.TheConstants.{MAX_MOMENT}
use Rattle.shop_base.specs.Plan.{PlannedShop, jobs, IsWellShaped}
use Rattle.shop_base.specs.Cell.{Cell, IsGone, start}
use Rattle.plan_bounds.specs.Bounds.{times_of}
use Rattle.plan_limits.specs.Stages.{stage_of}
use Rattle.plan_limits.specs.Limits.{NoPlanKeepsFrom}
use Rattle.plan_limits.proofs.Acceptance.{the_start_is_every_plan-holds}
use Rattle.cell_tables.specs.{Kept.KeepsSoFar, Rests.IsReached}
use Rattle.plan_decide.specs.declared.asked.Asked.{Asked}
use Rattle.plan_decide.specs.declared.asked.Asked.TheVariants.{Nobody, Both}
use Rattle.plan_decide.specs.Cases.{Past, nothing, run_to, Case, is_waiting, case_jobs, budget_in, times_in, with_budgets}
use Rattle.plan_decide.specs.Pasts.{case_of}
use Rattle.plan_decide.specs.Promises.{IsPromised}
use Rattle.plan_decide.specs.Excluding.{AreAllCyclic, AreExcluded}
use Rattle.plan_decide.specs.Asking.{promise_in, AreLimits, IsImpossible, NoPlanKeeps}
use Rattle.plan_decide.specs.LeftOut.{cap}
use Rattle.plan_decide.proofs.Budgets.{out_later}
use Rattle.plan_decide.proofs.Bounded.{led_on, here_waits}

-- a limit that depends on a test
pub limit_if : (b : Bool) (limit : Option ℕ) (n : ℕ) → (if b then limit else None) ≡ Some n → (b ≡ true) × (limit ≡ Some n)
limit_if true limit n is = (refl, is)
limit_if false limit n is = absurd (true≢false (sym (ap is_some is)))

-- a promise is the budget of a job that isn't gone
pub promise_is : (t : Case) (j n : ℕ) → promise_in t j ≡ Some n → (is_waiting (times_in t) t.past j ≡ true) × (budget_in t j < MAX_MOMENT) × (n ≡ budget_in t j)
promise_is t j n is =
    let waits = limit_if (is_waiting (times_in t) t.past j) (if nat_lt (budget_in t j) MAX_MOMENT then Some (budget_in t j) else None) n is in
    let at = limit_if (nat_lt (budget_in t j) MAX_MOMENT) (Some (budget_in t j)) n waits.1 in
    (waits.0, ltb-true (budget_in t j) MAX_MOMENT at.0, sym (ap cap at.1))

-- and each promised job has one
pub promise_of : (t : Case) (j : ℕ) → IsPromised t j → promise_in t j ≡ Some (budget_in t j)
promise_of t j promised = ap (λ (b : Bool). if b then (if nat_lt (budget_in t j) MAX_MOMENT then Some (budget_in t j) else None) else None) promised.waits
    ∙ ap (λ (b : Bool). if b then Some (budget_in t j) else None) (lt-ltb (budget_in t j) MAX_MOMENT promised.below)

-- a job whose budget is the greatest one has none
pub promise_past : (t : Case) (j budget : ℕ) → budget ≡ budget_in t j → MAX_MOMENT ≤ budget → None ≡ promise_in t j
promise_past t j budget same past = go (is_waiting (times_in t) t.past j)
  where
    go : (b : Bool) → None ≡ (if b then (if nat_lt (budget_in t j) MAX_MOMENT then Some (budget_in t j) else None) else None)
    go true = cond_above (budget_in t j) MAX_MOMENT (Some (budget_in t j)) None None (subst (λ (n : ℕ). MAX_MOMENT ≤ n) same past) refl
    go false = refl

-- what has happened leads to the cell and the present moment by the plan
abbrev pub IsReachedBy : PlannedShop → Past → Cell → ℕ → Type 0
IsReachedBy p nothing c present = (c ≡ start p) × (present ≡ 0)
IsReachedBy p (run_to base d t) c present = IsWellShaped p × IsReached p c × (base ≡ p) × (c ≡ d) × (present ≡ t)

-- where no plan that goes on from a cell keeps limits none of the case does
pub none_keeps : (p : PlannedShop) (past : Past) (budget : List ℕ) (limits : List (Option ℕ)) (c : Cell) (present : ℕ) → IsReachedBy p past c present → NoPlanKeepsFrom (stage_of p c present) limits → NoPlanKeeps (with_budgets (case_of p past) budget) limits
none_keeps p nothing budget limits c present (begins, zero) none q plan keeps =
    let never = the_start_is_every_plan-holds (times_of p) limits (subst (λ (x : Cell). NoPlanKeepsFrom (stage_of p x 0) limits) begins (subst (λ (n : ℕ). NoPlanKeepsFrom (stage_of p c n) limits) zero none)) in
    never q plan.shaped plan.same (record { acyclic = keeps.acyclic; jobs = λ j n inside is. keeps.out j n inside refl is })
none_keeps p (run_to base d t) budget limits c present (shaped, reached, of_it, same, moment) none q plan keeps =
    let stage = stage_of p d t in
    let none_there : NoPlanKeepsFrom stage limits = subst (λ (x : Cell). NoPlanKeepsFrom (stage_of p x t) limits) same (subst (λ (n : ℕ). NoPlanKeepsFrom (stage_of p c n) limits) moment none) in
    let there = led_on p q d shaped plan.shaped plan.same (subst (IsReached p) same reached) (subst (λ (x : PlannedShop). KeepsSoFar x d q) of_it plan.keeps) in
    none_there q (record { shaped = plan.shaped; same = plan.same; run = there.events; is_run = there.run; cell = sym there.ends }) (record {
      acyclic = keeps.acyclic;
      jobs = λ j n inside here is. keeps.out j n inside (waits q plan.same j here) is;
    })
  where
    waits : (q : PlannedShop) → times_of q ≡ times_of p → (j : ℕ) → (IsGone q d j → ⊥) → is_waiting (times_of p) (run_to base d t) j ≡ true
    waits q same j here = sym (ap (λ s. is_waiting s (run_to base d t) j) same) ∙ here_waits q base d t j here

module _ (t : Case) (asked : Asked) where
  -- where no plan keeps the limits, none keeps what is asked for
  pub impossible : (n : ℕ) (limits : List (Option ℕ)) → n ≡ case_jobs t → AreLimits t asked n limits → NoPlanKeeps t limits → IsImpossible t asked
  impossible n limits all are none p plan keeps = none p plan (record {
    acyclic = keeps.acyclic;
    out = λ j k inside waits is. keeps.out j k inside waits (sym (are.each j (omega (arith, inside, all, same_jobs))) ∙ is);
  })
    where
      same_jobs : jobs p ≡ case_jobs t
      same_jobs = ap (λ s. length s.shop.routes) plan.same

-- where nobody is asked for and it is impossible, no plan is without a cycle
pub nobody_out : (t : Case) → IsImpossible t Nobody → AreAllCyclic t
nobody_out t none p plan acyclic = none p plan (record { acyclic = acyclic; out = λ j n inside waits is. absurd (true≢false (sym (ap is_some is))) })

-- two jobs whose promises no plan keeps exclude each other
pub both_excluded : (t : Case) (i j : ℕ) → IsImpossible t (Both i j) → AreExcluded t (i ∷ j ∷ [])
both_excluded t i j none p plan keeps = none p plan (record {
  acyclic = keeps.acyclic;
  out = λ k n inside waits is. (
      let named = limit_if ((k == i) || (k == j)) (promise_in t k) n is in
      let promise = promise_is t k n named.1 in
      out_later t.past p k (budget_in t k) n (omega (arith, promise.2)) (keeps.out k (is_named k named.0)));
})
  where
    is_named : (k : ℕ) → ((k == i) || (k == j)) ≡ true → Contains (i ∷ j ∷ []) k
    is_named k either = elim (or_cases (k == i) (k == j) either) [
      | inl one ↦ (0, omega arith, sym (eqb-true k i one))
      | inr other ↦ (1, omega arith, sym (eqb-true k j other))
    ]
