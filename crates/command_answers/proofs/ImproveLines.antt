-- The answers of the command `improve`.
use Rattle.std.proofs.Common.{◌↔◌, ℕ, ◌≤◌, Result, Ok, Err, refl, inl, inr}
use Rattle.shop_base.specs.Plan.{PlannedShop}
use Rattle.plan_verifier.specs.Accepted.{IsAcceptable}
use Rattle.plan_verifier.specs.declared.verdict.Verdict.{Verdict}
use Rattle.plan_verifier.specs.declared.verdict.Verdict.TheVariants.{Accepted, Refused}
use Rattle.plan_verifier.specs.Verdicts.{SaysAccepted}
use Rattle.plan_seek.specs.declared.search.TheConstants.{MAX_ROUNDS}
use Rattle.plan_improve.specs.declared.improve_fault.ImproveFault.{ImproveFault}
use Rattle.plan_improve.specs.declared.improve_fault.ImproveFault.TheVariants.{TooManyRounds, Memory as OutOfMemory}
use Rattle.plan_verifier.specs.Seen.{judged}
use Rattle.plan_improve.specs.Faults.{IsImproveFault}
use Rattle.command_answers.specs.ImprovingRests.{IsUnfoundAnswer}
use Rattle.command_answers.specs.declared.answer.Answer.{Answer}
use Rattle.command_answers.specs.declared.command_fault.CommandFault.{CommandFault}
use Rattle.command_answers.specs.declared.command_fault.CommandFault.TheVariants.{Instance, Plan, Names, Read, Write, InputTooLong, Log, LogInUse, Memory}
use Rattle.command_answers.specs.Checks.{verdict_status}
use Rattle.command_answers.specs.Documents.{IsDocumentAnswer}
use Rattle.command_answers.specs.Improving.{IsBestMet, IsStatusOf, IsBestAnswer, SearchBy}

status_is : (verdict : Verdict) → SaysAccepted verdict ↔ IsAcceptable (judged verdict) → IsStatusOf (judged verdict) (verdict_status verdict)
status_is (Accepted verified) exact = inl (exact.0 tt, refl)
status_is (Refused back why) exact = inr ((λ accepted. exact.1 accepted), refl)

module _ (made : SearchBy) (rounds : ℕ) (start : PlannedShop) where
  -- the text of a plan that was judged is the answer
  pub best_answer_is : (verdict : Verdict) (outcome : Result Answer CommandFault) → IsBestMet made start (judged verdict) → rounds ≤ MAX_ROUNDS
      → SaysAccepted verdict ↔ IsAcceptable (judged verdict) → IsDocumentAnswer (judged verdict).plan (verdict_status verdict) outcome → IsBestAnswer made rounds start outcome
  best_answer_is verdict (Ok answer) is few exact text = inl (record {
    few_rounds = few;
    best = judged verdict;
    is = is;
    text = record { line = text.line; read_back = text.read_back; ends = refl };
    status = rw text.ends (status_is verdict exact);
  })
  best_answer_is verdict (Err (Instance fault)) is few exact text = text
  best_answer_is verdict (Err (Names names)) is few exact text = text
  best_answer_is verdict (Err Read) is few exact text = text
  best_answer_is verdict (Err Write) is few exact text = text
  best_answer_is verdict (Err InputTooLong) is few exact text = text
  best_answer_is verdict (Err Log) is few exact text = text
  best_answer_is verdict (Err LogInUse) is few exact text = text
  best_answer_is verdict (Err (Plan fault)) is few exact text = (text.0, record { best = judged verdict; is = is; unreadable = text.1 })
  best_answer_is verdict (Err Memory) is few exact text = tt

  -- the line of too many rounds is the answer
  pub no_best_is : (fault : ImproveFault) (outcome : Result Answer CommandFault) → IsImproveFault rounds fault → IsUnfoundAnswer fault outcome → IsBestAnswer made rounds start outcome
  no_best_is TooManyRounds (Ok answer) many line = inr (record { many_rounds = many; line = line.0; refused = line.1 })
  no_best_is TooManyRounds (Err fault) many line = rw line tt
  no_best_is OutOfMemory outcome many line = rw line tt
