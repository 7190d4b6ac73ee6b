-- The answers of `state`.
use Rattle.std.specs.Prelude.{◌≡◌, ℕ, List, Option}
use Rattle.shop_base.specs.{Plan.PlannedShop, Cell.Cell}
use Rattle.people_names.specs.NameBooks.{NameBook}
use Rattle.run_state.specs.StateText.{state_text}
use Rattle.command_answers.specs.declared.answer.Answer.{Answer}
use Rattle.command_answers.specs.Rests.{IsLogAnswer}

-- the state of the rest of a run from cell c and moment t on, whatever the plan's verdict
pub record IsStateAnswer (names : NameBook) (p : PlannedShop) (c : Cell) (t : ℕ) (answer : Answer) : Type 0 where
  pub text : answer.text.items ≡ state_text names p c t
  pub good : answer.status ≡ 0

-- what is printed of a log: the state at the end of the run that its whole lines record, or why there is none
abbrev pub IsStateLine : NameBook → Option ℕ → PlannedShop → List ℕ → Answer → Type 0
IsStateLine names at p log = IsLogAnswer (IsStateAnswer names) at p log
