-- What is said of a better plan for the rest of a run.
use Rattle.std.proofs.Common.{◌≡◌, ◌⊎◌, ℕ, Result, Ok, Err, IfOk, inl, inr, refl, sym, subst}
use Rattle.cell_tables.proofs.Reorders.{begins_keeps}
use Rattle.plan_improve.specs.declared.improved.Improved.{Improved}
use Rattle.plan_improve.proofs.Common.{Asked, BeginsWithEntries, Cell, Comes, HasCycle, HasNoBegin, IsAcceptableAhead, IsComeTo, IsImproved, IsReordered, IsRestAccepted, IsVerdictOn, KeepsSoFar, PlannedShop, RestOfRun, rest_from}
use Rattle.plan_improve.proofs.{Lawful.rest_accepted, Searched.never_worse_either}

module _ (c : Cell) (t : ℕ) (made : Asked) (start : PlannedShop) where
  -- the plan with the verdict on its rest
  pub improved_answer : {E : Type 0} (x : RestOfRun PlannedShop) (r : Result Improved E) → IsComeTo (rest_from c t) made start x → IfOk r (λ found. found.shaped ≡ x.plan)
      → IfOk r (λ found. IsVerdictOn x.plan x.cell x.present found.verdict) → IfOk r (IsImproved c t made start)
  improved_answer x (Ok found) come plan verdict = record {
    came = subst (Comes (rest_from c t) made start) (sym plan) come.0;
    verdict = subst (λ (p : PlannedShop). IsVerdictOn p c t found.verdict) (sym plan)
        (subst (λ (d : Cell). IsVerdictOn x.plan d t found.verdict) come.1.1 (subst (λ n. IsVerdictOn x.plan x.cell n found.verdict) come.1.2 verdict));
  }
  improved_answer x (Err e) come plan verdict = tt

  -- it begins with the entries
  pub begins_answer : {E : Type 0} (x : RestOfRun PlannedShop) (r : Result Improved E) → IsComeTo (rest_from c t) made start x → IfOk r (λ found. found.shaped ≡ x.plan)
      → IfOk r (λ found. BeginsWithEntries c found.shaped)
  begins_answer x (Ok found) come plan = subst (BeginsWithEntries c) (sym plan) come.1.0
  begins_answer x (Err e) come plan = tt

  module _ (found : Improved) (is : IsImproved c t made start found) where
    pub acyclic_unless : (HasCycle found.shaped → ⊥) ⊎ HasNoBegin (rest_from c t) start
    acyclic_unless = elim is.came [
      | inl stays ↦ inr stays.0
      | inr came ↦ inl came.no_worse.is.costs.acyclic
    ]

    pub stays_accepted : IsAcceptableAhead start c t → IsRestAccepted found.verdict
    stays_accepted acceptable = is.verdict.exact.1
        (rest_accepted c t start found.shaped (never_worse_either (rest_from c t) made start found.shaped is.came start (inl (acceptable.acyclic, refl))) acceptable)

-- so all that was done keeps it
pub kept_there : (p q : PlannedShop) (c : Cell) → IsReordered p q → BeginsWithEntries c q → KeepsSoFar p c q
kept_there p q c same begins = subst (KeepsSoFar p c) (sym same) (begins_keeps p q.plan.order c (subst (BeginsWithEntries c) same begins))
