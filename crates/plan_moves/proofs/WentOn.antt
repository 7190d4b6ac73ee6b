-- What goes on behind a step went on before it, or isn't due before its report.
use Rattle.std.proofs.Common.{◌≡◌, ℕ, ◌+◌, ◌≤◌, ◌⊎◌, inl, inr, List, [], ◌∷◌, Some, sym, ap, ◌∙◌, arith}
use Rattle.std.proofs.lemmas.Bool.{cases_lt, cases_eq}
use Rattle.shop_base.specs.declared.job_state.JobState.{JobState}
use Rattle.shop_base.specs.declared.report.Report.{Report}
use Rattle.shop_base.specs.Plan.{PlannedShop, clean, IsWellShaped}
use Rattle.shop_base.specs.Cell.{Cell, made, since}
use Rattle.shop_base.specs.Activity.{Activity, Arrival, Operation, Cleaning, GoesOn}
use Rattle.shop_base.specs.Report.{ended, at, after_report}
use Rattle.shop_base.specs.Move.{after_move}
use Rattle.shop_base.specs.Controlled.{AreMoves, after_moves, after_step, IsStep}
use Rattle.shop_base.specs.Sound.{IsSound}
use Rattle.shop_base.proofs.Visits.{on_or_not}
use Rattle.shop_base.proofs.Changes.{IsMoved, after_move-moved}
use Rattle.shop_base.proofs.Keeping.{after_report-like, after_report-sound, after_move-sound}
use Rattle.shop_base.proofs.InTime.{report_last, moves_last, report-went_on}
use Rattle.plan_moves.specs.NextReports.{IsNextReport}
use Rattle.plan_moves.specs.RunsOn.{IsOnTime}

-- what goes on behind a move went on before it, or began with it, and so isn't due before it
moved-went_on : (p : PlannedShop) (c : Cell) (j t : ℕ) (new : Cell) → IsMoved p c j t new → (a : Activity) (due : ℕ) → GoesOn p new a due → GoesOn p c a due ⊎ (t ≤ due)
moved-went_on p c j t new change (Arrival i) due awaited = elim (cases_eq i j) [
  | inl same ↦ (let one_more : made new i ≡ made c j + 1 = rw same change.made_mine in absurd (omega (arith, awaited.outside)))
  | inr other ↦ inl (record {
    outside = sym (ap (λ (s : JobState). s.made) (change.others i other)) ∙ awaited.outside;
    not_ready = sym (ap (λ (s : JobState). s.ready) (change.others i other)) ∙ awaited.not_ready;
    is_due = awaited.is_due;
  })
]
moved-went_on p c j t new change (Operation i m) due (k, worked) = elim (cases_eq i j) [
  | inl same ↦ (let from : since new i ≡ t = rw same change.since_mine in inr (omega (arith, worked.is_due)))
  | inr other ↦ inl (
    k,
    record {
      on = record { entered = sym (ap (λ (s : JobState). s.made) (change.others i other)) ∙ worked.on.entered; visits = worked.on.visits };
      not_ready = sym (ap (λ (s : JobState). s.ready) (change.others i other)) ∙ worked.not_ready;
      is_due = omega (arith, worked.is_due, ap (λ (s : JobState). s.since) (change.others i other));
    },
  )
]
moved-went_on p c j t new change (Cleaning m) due (s, cleaned) = elim (on_or_not p c j m) [
  | inl (l, on) ↦ elim (cases_lt 0 (clean p m)) [
    | inl timed ↦ (let both : Some s ≡ Some t = sym cleaned.is_cleaned ∙ change.cleaning_begins l m on timed in
        let from : s ≡ t = cc in
        inr (omega (arith, cleaned.is_due)))
    | inr untimed ↦ inl (s, record { is_cleaned = sym (change.cleaning_needless l m on (omega arith)) ∙ cleaned.is_cleaned; is_due = cleaned.is_due })
  ]
  | inr off ↦ inl (s, record { is_cleaned = sym (change.cleaning_elsewhere m off) ∙ cleaned.is_cleaned; is_due = cleaned.is_due })
]

moves-went_on : (p : PlannedShop) (c : Cell) (t : ℕ) (js : List ℕ) → IsWellShaped p → IsSound p c → AreMoves p c t js → (a : Activity) (due : ℕ) → GoesOn p (after_moves p c t js) a due → GoesOn p c a due ⊎ (t ≤ due)
moves-went_on p c t [] shaped sound moves a due going = inl going
moves-went_on p c t (j ∷ js) shaped sound (can, keeps, moves) a due going =
    elim (moves-went_on p (after_move p c j t) t js shaped (after_move-sound p c j t shaped sound can keeps) moves a due going) [
      | inl still ↦ moved-went_on p c j t (after_move p c j t) (after_move-moved p c j t shaped sound can) a due still
      | inr later ↦ inr later
    ]

-- so the cell is on time after a step of the next report
pub step_on_time : (p : PlannedShop) (t : ℕ) (c : Cell) (r : Report) (js : List ℕ) → IsWellShaped p → IsSound p c → IsStep p c r js → IsNextReport p t c r → IsOnTime p t (after_step p c r js)
step_on_time p t c r js shaped sound step next a due going =
    let last : (after_step p c r js).last ≤ at r = moves_last p (after_report c r) (at r) js (omega (arith, report_last c (ended r) (at r))) in
    elim (moves-went_on p (after_report c r) (at r) js shaped (after_report-sound p c r shaped sound step.can) step.moves a due going) [
      | inl still ↦ omega (arith, next.soonest a due (report-went_on p c (after_report c r) (after_report-like p c r sound step.can) a due still))
      | inr begun ↦ omega arith
    ]

-- and once it has settled at the present moment
pub settled_on_time : (p : PlannedShop) (t : ℕ) (c : Cell) (js : List ℕ) → c.last ≤ t → IsOnTime p t (after_moves p c t js)
settled_on_time p t c js later a due going = omega (arith, moves_last p c t js later)
