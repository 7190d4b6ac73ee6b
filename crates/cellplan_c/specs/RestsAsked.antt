-- What is answered of the rest of a cell's run.
use Rattle.std.specs.Prelude.{◌≡◌, ℕ, ◌<◌, ◌≤◌, ◌↔◌, List, None}
use Rattle.shop_base.specs.declared.limits.TheConstants.{MAX_MOMENT}
use Rattle.shop_base.specs.Report.{IsNextMoment}
use Rattle.command_answers.specs.declared.rests.PlanAnswer.{PlanAnswer}
use Rattle.people_names.specs.NameBooks.{no_names}
use Rattle.command_answers.specs.Rests.{AnswersRest}
use Rattle.cell_control.specs.Control.{Control}
use Rattle.cellplan_c.specs.declared.cell.Cell.{Cell}
use Rattle.cellplan_c.specs.Calls.{Answers}
use Rattle.cellplan_c.specs.Cells.{Holding}

-- what is answered of the rest from moment t on, by this plan: the text of the verdict, in the caller's room, or that the moment is too large or past
pub record IsRestAsked (wanted : PlanAnswer) (t status : ℕ) (before after : List ℕ) (needed : ℕ) (held : Control) : Type 0 where
  pub too_large : (status ≡ 18) ↔ (MAX_MOMENT < t)
  pub backwards : (status ≡ 19) ↔ ((t ≤ MAX_MOMENT) × (t < held.cell.last))
  pub answered : IsNextMoment held.cell t → Answers status before after needed (AnswersRest no_names wanted held.planned held.cell t)

-- what a call that asks the cell for the rest answers; 8 says that it holds no controller. The cell stays as it was, and from 8 on nothing is written
pub record AsksRest (old new : Cell) (wanted : PlanAnswer) (t status : ℕ) (before after : List ℕ) (needed : ℕ) : Type 0 where
  pub asked : Holding old (IsRestAsked wanted t status before after needed)
  pub no_cell : (old.slot.held ≡ None) ↔ (status ≡ 8)
  pub unchanged : new.slot.held ≡ old.slot.held
  pub unwritten : 8 ≤ status → (needed ≡ 0) × (after ≡ before)
