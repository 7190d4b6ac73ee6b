-- Of what a log gets no line is that of a plan.
use Rattle.std.proofs.Common.{◌≡◌, ℕ, not, true, false, List, [], ◌∷◌, ◌++◌, inl, inr, sym, ap, ◌∙◌, subst}
use Rattle.std.proofs.lemmas.List.{append_cancel_left}
use Rattle.text_lines.specs.Lines.{lines_of, without_return, ended_lines}
use Rattle.event_lines.specs.{declared.run_digits.RunDigits.RunDigits, RunDigits.{IsPlanLine, plan_words}}
use Rattle.event_lines.specs.LastPlan.{AreNoPlans, IsLastPlan}
use Rattle.run_journal.specs.{LoggedLines.{is_logged, logged}, Laws.ACrashKeepsThePlan}
use Rattle.run_journal.specs.{WholeLines.whole_lines, Selecting.more}
use Rattle.run_journal.proofs.ByLines.{ByLines, last, fed, by_lines, ended_last, ended_logged, ended_whole, ended_both, lines_both, lines_ended}
use Rattle.run_journal.proofs.{Whole.whole-behind, NamedLogs.whole_again, CrashLines.crash_lines}
use Rattle.run_journal.proofs.LeftEvents.{without_return-front}

-- a line that a log gets isn't that of a plan
not_plan : (front : List ℕ) → is_logged (front ++ 10 ∷ []) ≡ true → (digits : RunDigits) → IsPlanLine (without_return front) digits → ⊥
not_plan front got digits is =
    let end = without_return-front front in
    let all : front ≡ plan_words digits ++ end.0 = end.1 ∙ ap (λ (l : List ℕ). l ++ end.0) is.0 in
    let bad : false ≡ true = subst (λ (l : List ℕ). is_logged (l ++ 10 ∷ []) ≡ true) all got in absurd (cc bad)

names_none : (text : List ℕ) → ByLines text → AreNoPlans (ended_lines (logged text))
names_none _ (last end none) = subst AreNoPlans (sym (ended_last end none)) tt
names_none _ (fed front rest none more) = elim (ended_logged front rest none) [
  | inl (got, is) ↦ subst AreNoPlans (sym is) (not_plan front got, names_none rest more)
  | inr (not, is) ↦ subst AreNoPlans (sym is) (names_none rest more)
]

-- ---- behind lines

none_front : (lines more : List (List ℕ)) → AreNoPlans (lines ++ more) → AreNoPlans lines
none_front [] more none = tt
none_front (line ∷ lines) more none = (none.0, none_front lines more none.1)

none_both : (lines more : List (List ℕ)) → AreNoPlans lines → AreNoPlans more → AreNoPlans (lines ++ more)
none_both [] more one other = other
none_both (line ∷ lines) more one other = (one.0, none_both lines more one.1 other)

last_before : (lines more : List (List ℕ)) (digits : RunDigits) → IsLastPlan lines digits → AreNoPlans more → IsLastPlan (lines ++ more) digits
last_before [] more digits is none = absurd is
last_before (line ∷ lines) more digits (inl is) none = inl (is.0, none_both lines more is.1 none)
last_before (line ∷ lines) more digits (inr is) none = inr (last_before lines more digits is none)

-- ---- what a crash leaves

pub plan_kept : ACrashKeepsThePlan
plan_kept digits base shown pending left whole named is =
    let (lines, left_is, are) = crash_lines base shown pending left whole is in
    let lines_whole : whole_lines lines ≡ lines = append_cancel_left base (whole_lines lines) lines (sym (whole-behind base lines whole) ∙ ap whole_lines (sym left_is) ∙ whole_again left ∙ left_is) in
    let all = logged (shown ++ pending) in
    let ended : ended_lines all ≡ ended_lines lines ++ ended_lines are.behind = sym (ended_whole all) ∙ ap ended_lines are.first ∙ ended_both lines are.behind lines_whole in
    let none = none_front (ended_lines lines) (ended_lines are.behind) (subst AreNoPlans ended (names_none (shown ++ pending) (by_lines (shown ++ pending)))) in
    subst (λ (l : List ℕ). IsLastPlan (lines_of l) digits) (sym left_is)
    (subst (λ (ls : List (List ℕ)). IsLastPlan ls digits) (sym (lines_both base lines whole))
    (last_before (lines_of base) (lines_of lines) digits named (subst AreNoPlans (sym (lines_ended lines (by_lines lines) lines_whole)) none)))
