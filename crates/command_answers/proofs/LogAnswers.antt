-- The lines of logs.
use Rattle.std.proofs.Common.{List, ℕ, Result, Ok, Err, refl}
use Rattle.shop_base.specs.Plan.{PlannedShop}
use Rattle.run_log.specs.declared.audit_fault.AuditFault.{AuditFault}
use Rattle.run_log.specs.declared.audit_fault.AuditFault.TheVariants.{BadLine, NotExpected, Backwards, NotReady, Occupied, OutOfOrder, WrongPlace, NotClean, Memory}
use Rattle.run_log.specs.Audits.{IsAuditFault, IsFirstBad}
use Rattle.command_answers.specs.declared.answer.Answer.{Answer}
use Rattle.command_answers.specs.declared.command_fault.CommandFault.{CommandFault}
use Rattle.command_answers.specs.Steps.{IsOrMemory}
use Rattle.command_answers.specs.LogLines.{IsFaultLine, IsLogFaultAnswer, IsLogRefused}

module _ (p : PlannedShop) (lines : List (List ℕ)) (Is : Answer → Type 0) (answered_so : (answer : Answer) → IsLogRefused p lines answer → Is answer) where
  -- the line of a fault that is none of memory is what is printed of these lines
  line_answered : (fault : AuditFault) (outcome : Result Answer CommandFault) → IsFirstBad p lines fault → IsOrMemory (IsFaultLine fault) outcome → IsOrMemory Is outcome
  line_answered fault (Ok answer) first line = answered_so answer (record { fault = fault; first = first; line = line })
  line_answered fault (Err no_memory) first line = line

  pub refused_log : (fault : AuditFault) (outcome : Result Answer CommandFault) → IsAuditFault p lines fault → IsLogFaultAnswer fault outcome → IsOrMemory Is outcome
  refused_log Memory outcome is answered = rw answered refl
  refused_log (BadLine line) outcome is answered = line_answered (BadLine line) outcome is answered
  refused_log (NotExpected line) outcome is answered = line_answered (NotExpected line) outcome is answered
  refused_log (Backwards line) outcome is answered = line_answered (Backwards line) outcome is answered
  refused_log (NotReady line) outcome is answered = line_answered (NotReady line) outcome is answered
  refused_log (Occupied line) outcome is answered = line_answered (Occupied line) outcome is answered
  refused_log (OutOfOrder line) outcome is answered = line_answered (OutOfOrder line) outcome is answered
  refused_log (WrongPlace line) outcome is answered = line_answered (WrongPlace line) outcome is answered
  refused_log (NotClean line) outcome is answered = line_answered (NotClean line) outcome is answered
