-- What lines record of a run, line by line.
use Rattle.std.proofs.Common.{◌≡◌, ◌⊎◌, ℕ, List, [], ◌∷◌, ◌++◌, codes, Option, None, Some, MatchOption, inl, inr, refl}
use Rattle.std.proofs.{Common.{sym, ap, ◌∙◌}, lemmas.List.append_cancel_left}
use Rattle.event_lines.specs.{declared.run_digits.RunDigits.RunDigits, RunDigits.IsPlanLine}
use Rattle.event_lines.proofs.PlanLines.{plan_part, shop_part}
use Rattle.run_journal.specs.declared.log_run.LogRun.{LogRun, TheVariants.{Unbegun, Unnamed, Named}}
use Rattle.event_lines.specs.LastPlan.{AreNoPlans, IsLastPlan}
use Rattle.run_journal.specs.LogRuns.{HasBegun, IsLogRunOf}

-- the last line of a plan among lines has these digits; or there is none, and this was the last one before them
abbrev pub IsLast : Option RunDigits → List (List ℕ) → Option RunDigits → Type 0
IsLast before lines None = (before ≡ None) × AreNoPlans lines
IsLast before lines (Some digits) = ((before ≡ Some digits) × AreNoPlans lines) ⊎ IsLastPlan lines digits

pub last_done : (last : Option RunDigits) → IsLast last [] last
last_done None = (refl, tt)
last_done (Some digits) = inl (refl, tt)

pub first_last : (lines : List (List ℕ)) (found : Option RunDigits) → IsLast None lines found → MatchOption found (AreNoPlans lines) (IsLastPlan lines)
first_last lines None is = is.1
first_last lines (Some digits) (inl is) = absurd (cc is.0)
first_last lines (Some digits) (inr is) = is

pub named_begun : (lines : List (List ℕ)) (digits : RunDigits) → IsLastPlan lines digits → HasBegun lines
named_begun [] digits is = is
named_begun (line ∷ lines) digits (inl is) = inl (inr (digits, is.0))
named_begun (line ∷ lines) digits (inr is) = inr (named_begun lines digits is)

pub not_both : (lines : List (List ℕ)) (digits : RunDigits) → IsLastPlan lines digits → AreNoPlans lines → ⊥
not_both [] digits is none = is
not_both (line ∷ lines) digits (inl is) none = none.0 digits is.0
not_both (line ∷ lines) digits (inr is) none = not_both lines digits is none.1

-- ---- one reading of the digits

abbrev with_parts : List ℕ → List ℕ → RunDigits
with_parts plan shop = record { plan = plan; shop = shop }

module _ (line : List ℕ) (one other : RunDigits) (is : IsPlanLine line one) (also : IsPlanLine line other) where
  abbrev rest : List ℕ
  rest = one.plan ++ (codes " shop " ++ one.shop)

  one_plan : one ≡ other
  one_plan =
      let plans : one.plan ≡ other.plan = sym (plan_part line rest is.0 one is) ∙ plan_part line rest is.0 other also in
      let behind : codes " shop " ++ one.shop ≡ codes " shop " ++ other.shop = sym (shop_part line rest is.0 one is) ∙ shop_part line rest is.0 other also in
      let shops : one.shop ≡ other.shop = append_cancel_left (codes " shop ") one.shop other.shop behind in
      ap (λ (p : List ℕ). with_parts p one.shop) plans ∙ ap (λ (s : List ℕ). with_parts other.plan s) shops

one_last : (lines : List (List ℕ)) (one other : RunDigits) → IsLastPlan lines one → IsLastPlan lines other → one ≡ other
one_last [] one other is also = absurd is
one_last (line ∷ lines) one other (inl is) (inl also) = one_plan line one other is.0 also.0
one_last (line ∷ lines) one other (inl is) (inr also) = absurd (not_both lines other also is.1)
one_last (line ∷ lines) one other (inr is) (inl also) = absurd (not_both lines one is also.1)
one_last (line ∷ lines) one other (inr is) (inr also) = one_last lines one other is also

-- what is read of a run says where these digits aren't in its last line of a plan
pub unnamed_last : (lines : List (List ℕ)) (run : LogRun) (digits : RunDigits) → IsLogRunOf lines run → (run ≡ Named digits → ⊥) → IsLastPlan lines digits → ⊥
unnamed_last lines Unbegun digits is other last = is (named_begun lines digits last)
unnamed_last lines Unnamed digits is other last = not_both lines digits last is.1
unnamed_last lines (Named own) digits is other last = other (ap Named (one_last lines own digits is last))

-- it is the run that is read
pub last_run : (lines : List (List ℕ)) (run : LogRun) (digits : RunDigits) → IsLogRunOf lines run → IsLastPlan lines digits → run ≡ Named digits
last_run lines Unbegun digits is last = absurd (is (named_begun lines digits last))
last_run lines Unnamed digits is last = absurd (not_both lines digits last is.1)
last_run lines (Named own) digits is last = ap Named (one_last lines own digits is last)
