-- The answers of the command `decide`.
use Rattle.std.proofs.Common.{◌<◌, Result, Ok, Err, IfSome, inl, inr}
use Rattle.shop_base.specs.Plan.{PlannedShop, jobs}
use Rattle.people_names.specs.NameBooks.{NameBook}
use Rattle.plan_decide.specs.declared.aim.Aim.{Aim}
use Rattle.plan_decide.specs.declared.aim.Aim.TheVariants.{Promises, Least}
use Rattle.plan_decide.specs.declared.aim.Objective.TheVariants.{Makespan, Leaving}
use Rattle.plan_decide.specs.declared.decided.Decided.{Decided}
use Rattle.plan_decide.specs.declared.decided.Decided.TheVariants.{Kept, Best, Never, Cyclic, Open}
use Rattle.plan_decide.specs.declared.decided.Within.{Within}
use Rattle.plan_decide.specs.Cases.{Case}
use Rattle.plan_decide.specs.Pasts.{whole_case}
use Rattle.plan_decide.specs.Promises.{IsInRange}
use Rattle.plan_decide.specs.Decisions.{IsBest, IsDecided, IsKept}
use Rattle.command_answers.specs.declared.answer.Answer.{Answer}
use Rattle.command_answers.specs.declared.command_fault.CommandFault.{CommandFault}
use Rattle.command_answers.specs.declared.command_fault.CommandFault.TheVariants.{Instance, Plan, Names, Read, Write, InputTooLong, Log, LogInUse, Memory}
use Rattle.command_answers.specs.DecisionLines.{within_line}
use Rattle.command_answers.specs.Deciding.{IsDecidedAnswer, IsDecisionAnswer, job_of}
use Rattle.command_answers.specs.Documents.{IsDocumentAnswer, IsHeadedAnswer}

module _ (names : NameBook) (t : Case) (aim : Aim) where
  -- the text of a plan that keeps all budgets is the answer
  kept_is : (plan : PlannedShop) (outcome : Result Answer CommandFault) → IsKept t aim plan → IsDocumentAnswer plan.plan 0 outcome → IsDecisionAnswer names t aim outcome
  kept_is plan (Ok answer) is text = inl (record { plan = plan; is = is; text = text })
  kept_is plan (Err (Instance fault)) is text = text
  kept_is plan (Err (Names unread)) is text = text
  kept_is plan (Err Read) is text = text
  kept_is plan (Err Write) is text = text
  kept_is plan (Err InputTooLong) is text = text
  kept_is plan (Err Log) is text = text
  kept_is plan (Err LogInUse) is text = text
  kept_is plan (Err (Plan fault)) is text = (text.0, record { plan = plan; is = inl is; unreadable = text.1 })
  kept_is plan (Err Memory) is text = tt

  -- so is that of the best plan, behind its line
  best_is : (plan : PlannedShop) (within : Within) (outcome : Result Answer CommandFault) → IsBest t aim plan within → IsHeadedAnswer (within_line within) plan.plan 0 outcome
      → IsDecisionAnswer names t aim outcome
  best_is plan within (Ok answer) is text = inr (inl (record { plan = plan; within = within; is = is; text = text }))
  best_is plan within (Err (Instance fault)) is text = text
  best_is plan within (Err (Names unread)) is text = text
  best_is plan within (Err Read) is text = text
  best_is plan within (Err Write) is text = text
  best_is plan within (Err InputTooLong) is text = text
  best_is plan within (Err Log) is text = text
  best_is plan within (Err LogInUse) is text = text
  best_is plan within (Err (Plan fault)) is text = (text.0, record { plan = plan; is = inr (within, is); unreadable = text.1 })
  best_is plan within (Err Memory) is text = tt

  -- what is answered of a decision
  pub decided_is : (decided : Decided) (outcome : Result Answer CommandFault) → IsDecided t aim decided → IsDecidedAnswer names decided outcome → IsDecisionAnswer names t aim outcome
  decided_is (Kept plan) outcome is text = kept_is plan outcome is.kept text
  decided_is (Best plan within) outcome is text = best_is plan within outcome is.best text
  decided_is (Never found) (Ok answer) is text = inr (inr (inl (record { found = found; are = is.never; lines = text.0; refused = text.1 })))
  decided_is (Never found) (Err fault) is text = rw text tt
  decided_is Cyclic (Ok answer) is text = inr (inr (inr (inl (record { cyclic = is.cyclic; line = text.0; refused = text.1 }))))
  decided_is Cyclic (Err fault) is text = rw text tt
  decided_is Open (Ok answer) is text = inr (inr (inr (inr (record { none_alone = is.undecided; line = text.0; refused = text.1 }))))
  decided_is Open (Err fault) is text = rw text tt

-- the job whose leaving is asked for is one of the shop
pub in_range : (p : PlannedShop) (aim : Aim) → IfSome (job_of aim) (λ j. j < jobs p) → IsInRange (whole_case p) aim
in_range p Promises there = tt
in_range p (Least Makespan) there = tt
in_range p (Least (Leaving j)) there = there
