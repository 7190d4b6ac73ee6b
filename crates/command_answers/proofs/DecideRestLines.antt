-- The answers of the command `decide` of the rest of a run.
use Rattle.std.proofs.Common.{ℕ, Result, Ok, Err}
use Rattle.shop_base.specs.Plan.{PlannedShop}
use Rattle.shop_base.specs.Cell.{Cell}
use Rattle.people_names.specs.NameBooks.{NameBook}
use Rattle.plan_decide.specs.declared.aim.Aim.{Aim}
use Rattle.plan_decide.specs.declared.decided.Decided.{Decided}
use Rattle.plan_decide.specs.Pasts.{HoldsFrom}
use Rattle.plan_decide.specs.Decisions.{IsDecided}
use Rattle.command_answers.specs.declared.answer.Answer.{Answer}
use Rattle.command_answers.specs.declared.command_fault.CommandFault.{CommandFault}
use Rattle.command_answers.specs.declared.command_fault.CommandFault.TheVariants.{Instance, Plan, Names, Read, Write, InputTooLong, Log, LogInUse, Memory}
use Rattle.command_answers.specs.Deciding.{IsDecidedAnswer, IsDecisionAnswer}
use Rattle.command_answers.specs.DecidingRests.{IsDecisionFrom}
use Rattle.command_answers.proofs.DecideLines.{decided_is}

module _ (names : NameBook) (aim : Aim) (p : PlannedShop) (c : Cell) (t : ℕ) where
  -- what is answered for what has happened is answered of the rest
  held_is : (outcome : Result Answer CommandFault) → HoldsFrom p c t (λ case. IsDecisionAnswer names case aim outcome) → IsDecisionFrom names aim p c t outcome
  held_is (Ok answer) held = held
  held_is (Err (Instance fault)) held = held.says
  held_is (Err (Names unread)) held = held.says
  held_is (Err Read) held = held.says
  held_is (Err Write) held = held.says
  held_is (Err InputTooLong) held = held.says
  held_is (Err Log) held = held.says
  held_is (Err LogInUse) held = held.says
  held_is (Err (Plan fault)) held = (held.says.0, record { past = held.past; is = held.is; says = held.says.1 })
  held_is (Err Memory) held = tt

  pub rest_decided_is : (decided : Decided) (outcome : Result Answer CommandFault) → HoldsFrom p c t (λ case. IsDecided case aim decided) → IsDecidedAnswer names decided outcome → IsDecisionFrom names aim p c t outcome
  rest_decided_is decided outcome held text = held_is outcome (record { past = held.past; is = held.is; says = decided_is names _ aim decided outcome held.says text })
