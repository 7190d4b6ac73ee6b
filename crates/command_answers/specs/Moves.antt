-- The answers of `schedule --moves`.
use Rattle.std.specs.Prelude.{◌≡◌, ℕ, ◌⊎◌, List, [], ◌++◌, Option, None, Some}
use Rattle.shop_base.specs.declared.move_order.MoveOrder.{MoveOrder}
use Rattle.shop_base.specs.Plan.{PlannedShop}
use Rattle.shop_base.specs.Cell.{Cell, start}
use Rattle.alt_graph.specs.Solved.{HasCycle}
use Rattle.cell_control.specs.declared.rest_fault.RestFault.{RestFault}
use Rattle.cell_control.specs.declared.rest_fault.RestFault.TheVariants.{Memory}
use Rattle.people_names.specs.NameBooks.{NameBook}
use Rattle.plan_verifier.specs.declared.verdict.Judged.{Judged}
use Rattle.plan_explain.specs.Known.{IsKnownVerdict}
use Rattle.plan_explain.specs.FirstLines.{IsFirstLine}
use Rattle.plan_moves.specs.MovesFrom.{AreMovesFrom}
use Rattle.plan_moves.specs.MoveLines.{move_lines}
use Rattle.command_answers.specs.declared.answer.Answer.{Answer}
use Rattle.command_answers.specs.declared.command_fault.CommandFault.{CommandFault}
use Rattle.command_answers.specs.declared.command_fault.CommandFault.TheVariants.{Memory as OutOfMemory}
use Rattle.command_answers.specs.Rests.{IsLogAnswer, rest_status}

-- a line for each of the moves from cell c and moment t on
pub record AreMoveLines (names : NameBook) (p : PlannedShop) (c : Cell) (t : ℕ) (lines : List ℕ) : Type 0 where
  pub moves : List MoveOrder
  pub are : AreMovesFrom p c t moves
  pub lines_are : lines ≡ move_lines names moves

-- these; where the plan has a cycle there are none
abbrev pub AreLinesBelow : NameBook → PlannedShop → Cell → ℕ → List ℕ → Type 0
AreLinesBelow names p c t lines = (HasCycle p × (lines ≡ [])) ⊎ ((HasCycle p → ⊥) × AreMoveLines names p c t lines)

-- the fault of a command that a fault of the moves is, if memory ran out
abbrev pub moves_command_fault : RestFault → Option CommandFault
moves_command_fault Memory = Some OutOfMemory
moves_command_fault fault = None

-- what is printed of the moves from cell c and moment t on: the first line of the verdict on the rest, with its status, and the moves below it
pub record IsMovesAnswer (names : NameBook) (p : PlannedShop) (c : Cell) (t : ℕ) (answer : Answer) : Type 0 where
  pub verdict : Judged
  pub judged : IsKnownVerdict p c t verdict
  pub first : List ℕ
  pub line : IsFirstLine p c t verdict first
  pub below : List ℕ
  pub moves : AreLinesBelow names p c t below
  pub text : answer.text.items ≡ first ++ below
  pub status : answer.status ≡ rest_status verdict

-- where a run is: the moves from the end of the run in its log on, or why there is none; or before it has begun those from the start on
abbrev pub AreMovesAhead : NameBook → Option ℕ → PlannedShop → Option (List ℕ) → Answer → Type 0
AreMovesAhead names at p None = IsMovesAnswer names p (start p) 0
AreMovesAhead names at p (Some log) = IsLogAnswer (IsMovesAnswer names) at p log
