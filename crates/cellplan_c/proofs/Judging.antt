-- The status of a command's answer, and of its fault.
use Rattle.std.proofs.Common.{ℕ, ◌≤◌, List, Option, None, inl, inr, arith}
use Rattle.shop_base.specs.Plan.{PlannedShop}
use Rattle.shop_base.specs.Cell.{Cell, start}
use Rattle.plan_verifier.specs.declared.verdict.Verdict.{Verdict}
use Rattle.plan_verifier.specs.declared.verdict.Verdict.TheVariants.{Accepted, Refused}
use Rattle.command_answers.specs.declared.answer.Answer.{Answer}
use Rattle.command_answers.specs.declared.command_fault.CommandFault.{CommandFault}
use Rattle.command_answers.specs.declared.command_fault.CommandFault.TheVariants.{Instance, Plan, Names, Read, Write, InputTooLong, Log, LogInUse, Memory}
use Rattle.command_answers.specs.Checks.{IsCheckLine, verdict_status}
use Rattle.command_answers.specs.Explains.{IsExplanation}
use Rattle.command_answers.specs.Plans.{IsRightOfBoth}
use Rattle.command_answers.specs.Statuses.{command_status_of}
use Rattle.command_answers.specs.declared.rests.PlanAnswer.{PlanAnswer}
use Rattle.command_answers.specs.declared.rests.PlanAnswer.TheVariants.{Reasons}
use Rattle.people_names.specs.NameBooks.{no_names}
use Rattle.command_answers.specs.Rests.{rest_status, AnswersRest}
use Rattle.plan_verifier.specs.declared.verdict.Judged.{Judged}
use Rattle.plan_verifier.specs.declared.verdict.Judged.TheVariants.{Accepted as AcceptedRest, Refused}

pub verdict_bound : (verdict : Verdict) → verdict_status verdict ≤ 1
verdict_bound (Accepted verified) = omega arith
verdict_bound (Refused back why) = omega arith

pub check_bound : (p : PlannedShop) (answer : Answer) → IsCheckLine p answer → answer.status ≤ 1
check_bound p answer (inl line) = omega (arith, line.line.refused)
check_bound p answer (inr (shaped, inl accepted)) = omega (arith, accepted.good)
check_bound p answer (inr (shaped, inr (inl cycle))) = omega (arith, cycle.refused)
check_bound p answer (inr (shaped, inr (inr late))) = omega (arith, late.refused)

rest_bound : (verdict : Judged) → rest_status verdict ≤ 1
rest_bound (AcceptedRest times) = omega arith
rest_bound (Refused why) = omega arith

pub known_bound : (wanted : PlanAnswer) (p : PlannedShop) (c : Cell) (t : ℕ) (answer : Answer) → AnswersRest no_names wanted p c t answer → answer.status ≤ 1
known_bound wanted p c t answer is = omega (arith, is.status, rest_bound is.verdict)

pub explanation_bound : (p : PlannedShop) (answer : Answer) → IsExplanation p answer → answer.status ≤ 1
explanation_bound p answer (inl line) = omega (arith, line.line.refused)
explanation_bound p answer (inr explained) = known_bound (Reasons None) p (start p) 0 answer explained

pub fault_bounds : (instance : List ℕ) (name : Option (List ℕ)) (plan : List ℕ) (fault : CommandFault)
    → IsRightOfBoth instance name plan fault → (3 ≤ command_status_of fault) × (command_status_of fault ≤ 4)
fault_bounds instance name plan (Instance why) is = (omega arith, omega arith)
fault_bounds instance name plan (Plan why) is = (omega arith, omega arith)
fault_bounds instance name plan Memory is = (omega arith, omega arith)
fault_bounds instance name plan (Names names) is = absurd is
fault_bounds instance name plan Read is = absurd is
fault_bounds instance name plan Write is = absurd is
fault_bounds instance name plan InputTooLong is = absurd is
fault_bounds instance name plan Log is = absurd is
fault_bounds instance name plan LogInUse is = absurd is
