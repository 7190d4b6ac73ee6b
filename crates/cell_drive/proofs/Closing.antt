-- The closing lines.
use Rattle.std.proofs.Common.{◌≡◌, ◌==◌, ℕ, zero, suc, ◌+◌, List, [], ◌∷◌, ◌++◌, drop, Some, cond, refl, sym, ap, subst, inl, inr, add-one}
use Rattle.std.proofs.lemmas.Bool.{eqb-true, eqb-false, ne_eqb, cases_Bool}
use Rattle.std.specs.Prelude.{slice_get}
use Rattle.shop_base.specs.{Plan.{PlannedShop, IsWellShaped}, Cell.Cell, Run.IsAtRest, Ends.HasEnded}
use Rattle.shop_base.specs.{ReportsLeft.reports_left, Sound.IsSound}
use Rattle.shop_base.proofs.ReportsLeft.{ended_where_none, none_where_ended}
use Rattle.event_lines.specs.{AnswerLines.{done_line, unfinished_line}, SentLines.cell_prefix}
use Rattle.cell_drive.specs.{LineAnswers.{IsClosingLine, closing_line}, ManyCells.{HubCell, CellsClose, AreAllDone}}
use Rattle.cell_drive.specs.Numbers.{AreInRun, closing_text}

pub closing_unfinished : (p : PlannedShop) (c : Cell) → (reports_left p c ≡ 0 → ⊥) → closing_line p c ≡ unfinished_line (reports_left p c)
closing_unfinished p c some = ap (λ b. cond b (done_line c.last) (unfinished_line (reports_left p c))) (ne_eqb (reports_left p c) 0 some)

-- the line that goes by the reports that are left says whether the run has ended
pub closing_line_is : (p : PlannedShop) (c : Cell) → IsWellShaped p → IsSound p c → IsAtRest p c → IsClosingLine p c (closing_line p c)
closing_line_is p c shaped sound rest = elim (cases_Bool (reports_left p c == 0)) [
  | inl none ↦ inl (ended_where_none p c sound rest (eqb-true (reports_left p c) 0 none), ap (λ b. cond b (done_line c.last) (unfinished_line (reports_left p c))) none)
  | inr some ↦
      let left = eqb-false (reports_left p c) 0 some in
      inr ((λ ended. left (none_where_ended p c shaped sound ended)), closing_unfinished p c left)
]

pub closing_is : (cells : List HubCell) (number : ℕ) → AreInRun cells → CellsClose number cells (closing_text number cells)
closing_is [] number in_run = refl
closing_is (c ∷ cells) number (first, others) = (
  closing_line c.plan.planned c.cell,
  closing_text (suc number) cells,
  closing_line_is c.plan.planned c.cell first.verified.schedule.shaped first.sound first.rest,
  closing_is cells (suc number) others,
  refl,
)

next_there : (cells : List HubCell) (k : ℕ) (c : HubCell) → slice_get cells k ≡ Some c → drop k cells ≡ c ∷ drop (suc k) cells
next_there [] k c found = absurd (cc)
next_there (d ∷ cells) zero c found = cc
next_there (d ∷ cells) (suc k) c found = next_there cells k c found

-- the closing line of the next cell, and those after it
pub next_closing : (cells : List HubCell) (k : ℕ) (c : HubCell) → slice_get cells k ≡ Some c → (cell_prefix k ++ closing_line c.plan.planned c.cell) ++ closing_text (k + 1) (drop (k + 1) cells) ≡ closing_text k (drop k cells)
next_closing cells k c found = rw (next_there cells k c found, add-one) refl

pub next_done : (cells : List HubCell) (k : ℕ) (c : HubCell) → slice_get cells k ≡ Some c → AreAllDone (drop k cells) → HasEnded c.plan.planned c.cell × AreAllDone (drop (k + 1) cells)
next_done cells k c found all = rw add-one (subst AreAllDone (next_there cells k c found) all)

pub one_more_done : (cells : List HubCell) (k : ℕ) (c : HubCell) → slice_get cells k ≡ Some c → HasEnded c.plan.planned c.cell → AreAllDone (drop (k + 1) cells) → AreAllDone (drop k cells)
one_more_done cells k c found ended rest = subst AreAllDone (sym (next_there cells k c found)) (ended, rw add-one at rest)
