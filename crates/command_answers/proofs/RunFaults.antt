-- What is answered where there is no run up to the present moment.
use Rattle.std.proofs.Common.{◌≡◌, ℕ, ◌<◌, ◌≤◌, List, Option, None, Some, Result, Ok, Err, arith, subst}
use Rattle.std.specs.Prelude.{IfSome}
use Rattle.shop_base.specs.declared.limits.TheConstants.{MAX_MOMENT}
use Rattle.shop_base.specs.Plan.{PlannedShop}
use Rattle.run_log.specs.declared.audit_fault.AuditFault.{AuditFault}
use Rattle.run_log.specs.declared.audit_fault.AuditFault.TheVariants.{BadLine, NotExpected, Backwards, NotReady, Occupied, OutOfOrder, WrongPlace, NotClean, Memory}
use Rattle.run_log.specs.declared.present_run.RunFault.{RunFault}
use Rattle.run_log.specs.declared.present_run.RunFault.TheVariants.{Log, Present}
use Rattle.cell_tables.specs.declared.present_fault.PresentFault.TheVariants.{Past, TooLarge}
use Rattle.cell_tables.specs.Rests.{IsPresentFault, present_of}
use Rattle.run_log.specs.Audits.{IsFirstBad, IsAuditFault}
use Rattle.run_log.specs.Present.{IsRunFault}
use Rattle.command_answers.specs.declared.answer.Answer.{Answer}
use Rattle.command_answers.specs.declared.command_fault.CommandFault.{CommandFault}
use Rattle.command_answers.specs.LogLines.{IsLogRefused}
use Rattle.command_answers.specs.Rests.{HasLine, IsPastLine, IsRestPast, IsRunFaultAnswer}
use Rattle.command_answers.specs.Steps.{IsOrMemory}
use Rattle.command_answers.proofs.LogAnswers.{refused_log}

-- a first bad line is a fault of the audit
audit_of : (p : PlannedShop) (lines : List (List ℕ)) (fault : AuditFault) → IsFirstBad p lines fault → IsAuditFault p lines fault
audit_of p lines Memory is = tt
audit_of p lines (BadLine n) is = is
audit_of p lines (NotExpected n) is = is
audit_of p lines (Backwards n) is = is
audit_of p lines (NotReady n) is = is
audit_of p lines (Occupied n) is = is
audit_of p lines (NotClean n) is = is
audit_of p lines (OutOfOrder n) is = is
audit_of p lines (WrongPlace n) is = is

-- a moment that is past is one that is given
past_given : (at : Option ℕ) (last moment : ℕ) → IsPresentFault at last (Past moment) → (present_of at last < last) × (moment ≡ last)
past_given None last moment is = absurd is
past_given (Some n) last moment is = is

-- a moment within the limit isn't too large
never_large : (at : Option ℕ) (last : ℕ) → IfSome at (λ n. n ≤ MAX_MOMENT) → IsPresentFault at last TooLarge → ⊥
never_large None last early is = is
never_large (Some n) last early is = omega (arith, is.1, early)

module _ (at : Option ℕ) (lines : List (List ℕ)) (start : PlannedShop) (early : IfSome at (λ n. n ≤ MAX_MOMENT)) where
  pub has_line : (fault : RunFault) → IsRunFault lines at start fault → HasLine fault
  has_line (Log fault) is = tt
  has_line (Present (Past last)) is = tt
  has_line (Present TooLarge) is = never_large at is.0.last early is.2

  -- the line of the log's first fault, or of a moment that is past
  pub run_fault_is : (Is : Answer → Type 0) (fault : RunFault) (outcome : Result Answer CommandFault) → ((answer : Answer) → IsLogRefused start lines answer → Is answer)
      → ((answer : Answer) → IsRestPast at lines start answer → Is answer) → IsRunFault lines at start fault → IsRunFaultAnswer fault outcome → IsOrMemory Is outcome
  run_fault_is Is (Log fault) outcome refused past is line = refused_log start lines Is refused fault outcome (audit_of start lines fault is) line
  run_fault_is Is (Present (Past last)) (Ok answer) refused past is line =
      let before = past_given at is.0.last last is.2 in
      past answer (record { cell = is.0; run = is.1; before = before.0; line = subst (λ n. IsPastLine n answer) before.1 line })
  run_fault_is Is (Present (Past last)) (Err fault) refused past is line = line
  run_fault_is Is (Present TooLarge) outcome refused past is line = absurd (never_large at is.0.last early is.2)
