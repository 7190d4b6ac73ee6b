-- A log is recovered in one way, and one without events as at the start.
use Rattle.std.proofs.Common.{◌≡◌, ℕ, ◌<◌, inl, inr, Bool, true, false, ◌↔◌, List, [], ◌∷◌, ◌++◌, map, Option, None, refl, sym, ap, ap₂, ◌∙◌, subst, arith}
use Rattle.std.proofs.lemmas.Bool.{cases_lt}
use Rattle.std.specs.Prelude.{unwrap_or}
use Rattle.shop_base.specs.{declared.move_order.MoveOrder.MoveOrder, Plan.{PlannedShop, IsWellShaped}, Move.after_move}
use Rattle.shop_base.specs.{Cell.{Cell, start}, Run.{after, IsAtRest}, Controlled.{after_moves, orders_for, done}}
use Rattle.cell_tables.specs.declared.entry.Entry.{Entry, TheVariants.{Report as ReportEntry, Order as OrderEntry}}
use Rattle.cell_tables.specs.Events.{event_of}
use Rattle.cell_control.specs.Settled.{SettlesInOrder}
use Rattle.event_lines.{specs.LogLines.LinesParse, proofs.Readings.one_reading}
use Rattle.cell_drive.specs.{AnswerText.DrivenCell, OneRun.cell_after, LateEvents.{IsLateEvent, AreLate}}
use Rattle.cell_drive.specs.{Recovered.{Recovered, IsRecoveredFrom, IsRecovered}, Resuming.{IsResumedText, IsRunToRest}}
use Rattle.drive_laws.specs.RecoveryLaw.{OneRecovery, OneTextFromALog, ALogWithoutEventsIsDriven}
use Rattle.drive_laws.proofs.Resumes.{to_rest, one_resumed_text}
use Rattle.drive_laws.proofs.SettledCuts.{it_is_recovered_with_its_orders, settled_behind, late_behind, entries_behind, shaped_behind}

-- ---- the jobs that move

same_first : (j k : ℕ) → (j < k → ⊥) → (k < j → ⊥) → j ≡ k
same_first j k not_before not_behind = elim (cases_lt j k) [
  | inl before ↦ absurd (not_before before)
  | inr behind ↦ elim (cases_lt k j) [
    | inl less ↦ absurd (not_behind less)
    | inr no_less ↦ omega (arith, behind, no_less)
  ]
]

module _ (p : PlannedShop) where
  -- where always the first moves that can, the same jobs move until the cell is at rest
  same_movers : (c : Cell) (t : ℕ) (js ks : List ℕ) → SettlesInOrder p c t js → SettlesInOrder p c t ks → IsAtRest p (after_moves p c t js) → IsAtRest p (after_moves p c t ks) → js ≡ ks
  same_movers c t [] [] one other rest also = refl
  same_movers c t [] (k ∷ ks) one other rest also = absurd (rest k t other.0.can other.0.keeps)
  same_movers c t (j ∷ js) [] one other rest also = absurd (also j t one.0.can one.0.keeps)
  same_movers c t (j ∷ js) (k ∷ ks) one other rest also =
      let same : j ≡ k =
      same_first j k (λ before. other.0.first j before one.0.can one.0.keeps) (λ behind. one.0.first k behind other.0.can other.0.keeps) in
      let others : js ≡ ks = same_movers (after_move p c j t) t js ks one.1 (subst (λ i. SettlesInOrder p (after_move p c i t) t ks) (sym same) other.1)
      rest (subst (λ i. IsAtRest p (after_moves p (after_move p c i t) t ks)) (sym same) also) in
      ap₂ (λ (i : ℕ) (is : List ℕ). i ∷ is) same others

  -- ---- which events are late

  same_flag : {T : Type 0} (one other : Bool) → (one ≡ false) ↔ T → (other ≡ false) ↔ T → one ≡ other
  same_flag false false is also = refl
  same_flag true true is also = refl
  same_flag false true is also = let turned : true ≡ false = also.1 (is.0 refl) in absurd (cc)
  same_flag true false is also = let turned : true ≡ false = is.1 (also.0 refl) in absurd (cc)

  same_late_event : (c : Cell) (entry : Entry) (one other : Bool) → IsLateEvent p c entry one → IsLateEvent p c entry other → one ≡ other
  same_late_event c (ReportEntry report) one other is also = same_flag one other is also
  same_late_event c (OrderEntry order) one other is also = is ∙ sym also

  same_late : (c : Cell) (entries : List Entry) (one other : List Bool) → AreLate p c entries one → AreLate p c entries other → one ≡ other
  same_late c [] one other are also = are ∙ sym also
  same_late c (entry ∷ entries) [] other are also = absurd are
  same_late c (entry ∷ entries) (f ∷ one) [] are also = absurd also
  same_late c (entry ∷ entries) (f ∷ one) (g ∷ other) are also =
      ap₂ (λ (x : Bool) (xs : List Bool). x ∷ xs) (same_late_event c entry f g are.0 also.0) (same_late (after p c (event_of entry)) entries one other are.1 also.1)

pub one_recovery : OneRecovery
one_recovery p lines at recovered other up also =
    let recorded = up.recorded in
    let c : Cell = cell_after p recorded in
    let t : ℕ = unwrap_or at c.last in
    let from = up.recovered_from in
    let from_too : IsRecoveredFrom p recorded at other = subst (λ (es : List Entry). IsRecoveredFrom p es at other) (one_reading p lines also.recorded recorded also.parses up.parses) also.recovered_from in
    let one = settled_behind p recorded at recovered from in
    let two = settled_behind p recorded at other from_too in
    let movers : two.movers ≡ one.movers = same_movers p c t two.movers one.movers two.in_order one.in_order two.settles.quiescent one.settles.quiescent in
    let orders : other.control.orders ≡ recovered.control.orders = two.orders_are ∙ ap (orders_for p c t) movers ∙ sym one.orders_are in
    let cells : other.control.cell ≡ recovered.control.cell = two.leads ∙ ap (after_moves p c t) movers ∙ sym one.leads in
    let entries : other.log.entries ≡ recovered.log.entries =
    entries_behind p recorded at other from_too ∙ ap (λ (os : List MoveOrder). recorded ++ map OrderEntry os) orders ∙ sym (entries_behind p recorded at recovered from) in
    (ap₂ (λ (d : Cell) (es : List Entry). let seen : DrivenCell = record { cell = d; entries = es } in seen) cells entries, same_late p (start p) recorded other.late recovered.late (late_behind p recorded at other from_too) (late_behind p recorded at recovered from))

module _ (p : PlannedShop) (lines : List (List ℕ)) (at : Option ℕ) (recovered other : Recovered) (up : IsRecovered p lines at recovered) (also : IsRecovered p lines at other) where
  same_entries : other.log.entries ≡ recovered.log.entries
  same_entries = ap (λ (d : DrivenCell). d.entries) (one_recovery p lines at recovered other up also).0

  same_late_ones : other.late ≡ recovered.late
  same_late_ones = (one_recovery p lines at recovered other up also).1

  shaped_there : IsWellShaped p
  shaped_there = shaped_behind p up.recorded at recovered up.recovered_from

  run_there : IsRunToRest p recovered.log.entries
  run_there = subst (λ (q : PlannedShop). IsRunToRest q recovered.log.entries) up.recovered_from.planned (to_rest recovered up.recovered_from.run)

pub one_text_from_a_log : OneTextFromALog
one_text_from_a_log p protocol lines at recovered other input text other_text end last up also is is_too =
    let same : IsResumedText p protocol recovered.log.entries recovered.late input other_text last =
    subst (λ (fs : List Bool). IsResumedText p protocol recovered.log.entries fs input other_text last) (same_late_ones p lines at recovered other up also)
    (subst (λ (es : List Entry). IsResumedText p protocol es other.late input other_text last) (same_entries p lines at recovered other up also) is_too) in
    one_resumed_text p protocol recovered.log.entries recovered.late input text other_text end last (shaped_there p lines at recovered other up also) (run_there p lines at recovered other up also) is same

-- ---- a log without events

nothing_recovered : (p : PlannedShop) (lines : List (List ℕ)) (recovered : Recovered) → LinesParse p lines [] → IsRecovered p lines None recovered → (recovered.log.entries ≡ []) × (recovered.late ≡ [])
nothing_recovered p lines recovered none up =
    let from = up.recovered_from in
    let (replayed_none, due_none) = it_is_recovered_with_its_orders p lines [] [] recovered (shaped_behind p up.recorded None recovered from) (record { parses = none; run = done (start p) }) up in
    let replayed_is : up.recorded ≡ [] = sym from.replayed_is ∙ replayed_none in (
      from.run.due ∙ ap₂ (λ (es : List Entry) (os : List MoveOrder). es ++ map OrderEntry os) replayed_none due_none,
      subst (λ (es : List Entry). AreLate p (start p) es recovered.late) replayed_is (late_behind p up.recorded None recovered from),
    )

pub a_log_without_events_is_driven : ALogWithoutEventsIsDriven
a_log_without_events_is_driven p protocol lines recovered input text end none up is =
    let nothing = nothing_recovered p lines recovered none up in
    let from_start : IsResumedText p protocol [] [] input text end =
    subst (λ (fs : List Bool). IsResumedText p protocol [] fs input text end) nothing.1 (subst (λ (es : List Entry). IsResumedText p protocol es recovered.late input text end) nothing.0 is) in (
      from_start.answers ++ from_start.closing,
      record { answers = from_start.answers; are_answers = from_start.are_answers; closing = from_start.closing; is_closing = from_start.is_closing; whole = refl },
      from_start.whole,
    )
