-- In every run, each cleaning that goes on began by the last moment.
use Rattle.std.proofs.{Common.{◌≡◌, ℕ, ◌≤◌, List, [], ◌∷◌, Some, inl, inr, sym, ap, ◌∙◌, arith}, lemmas.Bool.cases_lt}
use Rattle.shop_base.specs.{declared.report.Report.Report, Sound.IsSound, Report.{CanReport, after_report}}
use Rattle.shop_base.specs.Run.{Event, Reported, Moved, AreEvents, IsRun, after_all, ends_in}
use Rattle.shop_base.specs.{Plan.{PlannedShop, IsWellShaped, clean}, Cell.{Cell, MachineState, cleaning, start}}
use Rattle.shop_base.specs.Move.{CanMove, after_move}
use Rattle.shop_base.proofs.{CellFacts.after_report-last, Changes.{IsMoved, after_move-moved}, InShop.start_unused}
use Rattle.shop_base.proofs.Visits.{on_or_not}
use Rattle.shop_base.proofs.Keeping.{start-sound, after_report-like, after_report-sound, after_move-sound}

abbrev pub AreBegunByLast : Cell → Type 0
AreBegunByLast c = (m s : ℕ) → cleaning c m ≡ Some s → s ≤ c.last

module _ (p : PlannedShop) (shaped : IsWellShaped p) where
  begun_reported : (c : Cell) (r : Report) → IsSound p c → CanReport p c r → AreBegunByLast c → AreBegunByLast (after_report c r)
  begun_reported c r sound can begun m s cleaned =
      omega (arith, begun m s ((after_report-like p c r sound can).cleaned_before m s cleaned), can.moment.in_order, after_report-last c r)

  begun_moved : (c : Cell) (j t : ℕ) → IsSound p c → CanMove p c j t → AreBegunByLast c → AreBegunByLast (after_move p c j t)
  begun_moved c j t sound can begun m s cleaned = elim (on_or_not p c j m) [
    | inl (k, on) ↦ elim (cases_lt 0 (clean p m)) [
      | inl timed ↦ (let begins : Some s ≡ Some t = sym cleaned ∙ change.cleaning_begins k m on timed in let same : s ≡ t = cc in omega (arith, same, change.moment))
      | inr none ↦ before (change.cleaning_needless k m on (omega (arith, none)))
    ]
    | inr off ↦ before (change.cleaning_elsewhere m off)
  ]
    where
      change : IsMoved p c j t (after_move p c j t)
      change = after_move-moved p c j t shaped sound can

      before : cleaning (after_move p c j t) m ≡ cleaning c m → s ≤ (after_move p c j t).last
      before same = omega (arith, begun m s (sym same ∙ cleaned), can.moment.in_order, change.moment)

  begun_after : (c : Cell) (es : List Event) → IsSound p c → AreBegunByLast c → AreEvents p c es → AreBegunByLast (after_all p c es)
  begun_after c [] sound begun events = begun
  begun_after c (Reported r ∷ es) sound begun events =
      begun_after (after_report c r) es (after_report-sound p c r shaped sound events.0) (begun_reported c r sound events.0 begun) events.1
  begun_after c (Moved o ∷ es) sound begun events =
      begun_after (after_move p c o.job o.at) es (after_move-sound p c o.job o.at shaped sound events.0.0.can events.0.1) (begun_moved c o.job o.at sound events.0.0.can begun) events.1

  begun_at_start : AreBegunByLast (start p)
  begun_at_start m s cleaned = let none = ap (λ (x : MachineState). x.cleaning) (start_unused p m) in absurd (cc)

  pub begun_in_run : (es : List Event) → IsRun p es → AreBegunByLast (ends_in p es)
  begun_in_run es run = begun_after (start p) es (start-sound p shaped) begun_at_start run
