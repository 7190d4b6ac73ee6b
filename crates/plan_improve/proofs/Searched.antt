-- What is said of the plan that a search gives, from where it begins and what was kept.
use Rattle.std.proofs.Common.{◌≡◌, ◌⊎◌, ◌↔◌, List, Option, Result, Ok, Err, IfErr, inl, inr, refl, sym, ◌∙◌, subst}
use Rattle.plan_verifier.specs.declared.verdict.Verdict.{Verdict}
use Rattle.plan_improve.proofs.Common.{Asked, Best, Comes, Cost, HasNoBegin, IsAcceptable, IsBegin, IsFound, IsLast, IsNeverWorse, IsNoWorse, IsReordered, IsSearched, PlannedShop, SaysAccepted, Setting, Progress, Watched, judged, whole_plan}
use Rattle.plan_improve.proofs.{Lawful.accepted, Once.reordered_on}

module _ (s : Setting) where
  pub begin_same : (start p : PlannedShop) → IsBegin s start p → IsReordered start p
  begin_same start p (inl (acyclic, is)) = subst (IsReordered start) (sym is) refl
  begin_same start p (inr (cycle, none, is)) = subst (IsReordered start) (sym is) refl

  -- where there is no plan to begin with, it begins at none
  begins_nowhere : (start p : PlannedShop) → HasNoBegin s start → IsBegin s start p → ⊥
  begins_nowhere start p (cycle, some) (inl (acyclic, is)) = acyclic cycle
  begins_nowhere start p (cycle, some) (inr (cyclic, none, is)) = some none

  -- a search begins at one plan alone
  begin_only : (start p q : PlannedShop) → IsBegin s start p → IsBegin s start q → p ≡ q
  begin_only start p q (inl (acyclic, is)) (inl (other, same)) = is ∙ sym same
  begin_only start p q (inl (acyclic, is)) (inr (cycle, none, same)) = absurd (acyclic cycle)
  begin_only start p q (inr (cycle, none, is)) (inl (acyclic, same)) = absurd (acyclic cycle)
  begin_only start p q (inr (cycle, none, is)) (inr (other, empty, same)) = is ∙ sym same

  module _ (made : Asked) (start : PlannedShop) where
    -- a search that has begun
    pub searched : (p : PlannedShop) (first : Cost) (kept : Best) → IsBegin s start p → s.costs p first → IsLast s made p first kept → IsSearched s made start kept.rest.plan
    searched p first kept begins cost last = record {
      found = record { begin = p; begins_at = begins; run = last.run };
      same = reordered_on start p kept.rest.plan (begin_same start p begins) last.same;
      no_worse = record { cost = kept.cost; other = first; is = last.is; than = cost; most = last.most };
    }

    pub never_worse : (p : PlannedShop) → IsSearched s made start p → IsNeverWorse s start p
    never_worse p is begin begins = subst (IsNoWorse s p) (begin_only start is.found.begin begin is.found.begins_at begins) is.no_worse

    module _ (p : PlannedShop) (is : Comes s made start p) where
      pub same_numbers : IsReordered start p
      same_numbers = elim is [
        | inl stays ↦ subst (IsReordered start) (sym stays.1) refl
        | inr came ↦ came.same
      ]

      pub stays_there : HasNoBegin s start → p ≡ start
      stays_there none = elim is [
        | inl stays ↦ stays.1
        | inr came ↦ absurd (begins_nowhere start came.found.begin none came.found.begins_at)
      ]

      pub never_worse_either : IsNeverWorse s start p
      never_worse_either = elim is [
        | inl stays ↦ (λ begin begins. absurd (begins_nowhere start begin stays.0 begins))
        | inr came ↦ never_worse p came
      ]

      pub found_either : HasNoBegin s start ⊎ IsFound s made start p
      found_either = elim is [
        | inl stays ↦ inl stays.0
        | inr came ↦ inr came.found
      ]

    pub back_same : {A E : Type 0} (p : PlannedShop) (r : Result A (E × PlannedShop)) → Comes s made start p → IfErr r (λ refused. refused.1 ≡ p) → IfErr r (λ refused. IsReordered start refused.1)
    back_same p (Ok found) comes back = tt
    back_same p (Err e) comes back = subst (IsReordered start) (sym back) (same_numbers p comes)

  -- whoever watches it
  module _ (before after : Option (List Progress)) (made : List Progress → Asked) (start p : PlannedShop) where
    pub unwatched : IsFound s (Watched before after made) start p → IsFound s (λ x y. (reported : List Progress) × made reported x y) start p
    unwatched is = record { begin = is.begin; begins_at = is.begins_at; run = (is.run.0, is.run.2) }

    pub unwatched_either : HasNoBegin s start ⊎ IsFound s (Watched before after made) start p → HasNoBegin s start ⊎ IsFound s (λ x y. (reported : List Progress) × made reported x y) start p
    unwatched_either (inl none) = inl none
    unwatched_either (inr is) = inr (unwatched is)

module _ (made : Asked) (start : PlannedShop) where
  -- of a whole plan there always is one to begin with
  pub came_on : (p : PlannedShop) → Comes whole_plan made start p → IsSearched whole_plan made start p
  came_on p (inl stays) = absurd (stays.0.1 tt)
  came_on p (inr came) = came

  pub stays_accepted : (verdict : Verdict) → IsSearched whole_plan made start (judged verdict) → SaysAccepted verdict ↔ IsAcceptable (judged verdict) → IsAcceptable start → SaysAccepted verdict
  stays_accepted verdict is exact acceptable =
      exact.1 (accepted start (judged verdict) (never_worse whole_plan made start (judged verdict) is start (inl ((λ cycle. acceptable.acyclic cycle.0 cycle.1), refl))) acceptable)
