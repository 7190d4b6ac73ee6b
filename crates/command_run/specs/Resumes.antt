-- What recovering the run of a plan comes to.
use Rattle.std.specs.Prelude.{◌≡◌, Bool, List, ℕ, Option, Result, Ok, Err, IfOk, IfErr}
use Rattle.shop_base.specs.declared.shape_fault.ShapeFault.{ShapeFault}
use Rattle.shop_base.specs.Plan.{PlannedShop}
use Rattle.text_lines.specs.Lines.{ended_lines}
use Rattle.plan_verifier.specs.declared.verdict.Verdict.TheVariants.{Refused as RefusedPlan}
use Rattle.byte_streams.specs.declared.drive_fault.DriveFault.{DriveFault}
use Rattle.cell_drive.specs.declared.protocol.Protocol.{Protocol}
use Rattle.cell_drive.specs.declared.resume.RestEnd.{RestEnd}
use Rattle.cell_drive.specs.declared.resume_fault.ResumeFault.{ResumeFault}
use Rattle.cell_drive.specs.declared.resume_fault.ResumeFault.TheVariants.{Run, Refused, Memory as OutOfMemory}
use Rattle.cell_drive.specs.Recovered.{Recovered, IsRecovered, IsRecoverable}
use Rattle.cell_drive.specs.ResumeFaults.{IsResumeFault, IsOnlyLogFault}
use Rattle.cell_drive.specs.InProtocol.{IsResumeIn}
use Rattle.command_answers.specs.declared.answer.Answer.{Answer}
use Rattle.command_answers.specs.declared.command_fault.CommandFault.{CommandFault}
use Rattle.command_answers.specs.declared.command_fault.CommandFault.TheVariants.{Memory}
use Rattle.command_answers.specs.declared.loading.Loaded.TheVariants.{NotShaped, Judged}
use Rattle.command_answers.specs.Texts.{Asks}
use Rattle.command_answers.specs.Rests.{HasLine, IsRunFaultAnswer}
use Rattle.command_run.specs.Streams.{Streams}
use Rattle.command_run.specs.Drives.{IsEndAnswer, IsLineAnswer}

-- the text is a log that is recovered by the plan, at the moment that is given or else at its last one, with all that is known of it; or this is its fault, which is `Memory` alone where it can be recovered
pub record IsRecovery (p : PlannedShop) (at : Option ℕ) (text : List ℕ) (recovered : Result Recovered ResumeFault) : Type 0 where
  pub is : IfOk recovered (IsRecovered p (ended_lines text) at)
  pub fault : IfErr recovered (IsResumeFault p (ended_lines text) at)
  pub only : IfErr recovered (IsOnlyLogFault p (ended_lines text))
  pub can : IsRecoverable p (ended_lines text) at → IfErr recovered (λ fault. fault ≡ OutOfMemory)

-- there is an answer for the fault: the moment isn't past the latest
abbrev pub HasAnswer : ResumeFault → Type 0
HasAnswer (Run fault) = HasLine fault
HasAnswer fault = Unit {0}

-- out of memory is a fault of the command; else the first fault of the log is answered by its line, a moment that is past by that, and a plan that is refused by the line of `check`, unless memory runs out
abbrev pub IsUnrecoveredAnswer : ResumeFault → Result Answer CommandFault → Type 0
IsUnrecoveredAnswer OutOfMemory outcome = outcome ≡ Err Memory
IsUnrecoveredAnswer (Run fault) outcome = IsRunFaultAnswer fault outcome
IsUnrecoveredAnswer (Refused back why) outcome = IsLineAnswer (Judged (RefusedPlan back why)) outcome

-- whether the run has ended
abbrev pub end_of_rest : Result RestEnd DriveFault → Result Bool DriveFault
end_of_rest (Ok end) = Ok end.done
end_of_rest (Err fault) = Err fault

-- what was recovered was driven on by this protocol, and the status says whether its run has ended
pub record ResumesOn (protocol : Protocol) (t : Recovered) (before after : Streams) (outcome : Result Answer CommandFault) : Type 0 where
  pub end : Result RestEnd DriveFault
  pub is : IsResumeIn protocol t before after end
  pub answer : IsEndAnswer (end_of_rest end) outcome

-- what follows recovery: it is driven on by this protocol; of a log that isn't recovered the fault is printed, with no byte read or written
abbrev pub ResumesRecovered : Protocol → Result Recovered ResumeFault → Streams → Streams → Result Answer CommandFault → Type 0
ResumesRecovered protocol (Ok t) before after outcome = ResumesOn protocol t before after outcome
ResumesRecovered protocol (Err fault) before after outcome = IsUnrecoveredAnswer fault outcome × (after ≡ before)

-- the text of the log that came is recovered, and then driven on
abbrev pub ResumesText : Protocol → Option ℕ → PlannedShop → Result (List ℕ) CommandFault → Streams → Streams → Result Answer CommandFault → Type 0
ResumesText protocol at p (Ok text) before after outcome = (recovered : Result Recovered ResumeFault) × IsRecovery p at text recovered × ResumesRecovered protocol recovered before after outcome
ResumesText protocol at p (Err fault) before after outcome = (outcome ≡ Err fault) × (after ≡ before)

module _ {W : Type 0} (gives : W → List ℕ → Result (List ℕ) CommandFault → W → Type 0) (protocol : Protocol) (at : Option ℕ) (log : List ℕ) where
  -- the log is asked for, once the plan is known to be well shaped
  pub record ResumesLog (p : PlannedShop) (texts : W) (before : Streams) (outcome : Result Answer CommandFault) (texts_after : W) (after : Streams) : Type 0 where
    pub text : Result (List ℕ) CommandFault
    pub asks : Asks gives log texts text texts_after
    pub resumes : ResumesText protocol at p text before after outcome

  -- what follows the plan: a well-shaped one has its log asked for; any other is answered by its first fault, with no file asked for and no byte read or written
  abbrev pub Resumes : Result (Result PlannedShop ShapeFault) CommandFault → W → Streams → Result Answer CommandFault → W → Streams → Type 0
  Resumes (Err fault) texts before outcome texts_after after = (outcome ≡ Err fault) × (after ≡ before) × (texts_after ≡ texts)
  Resumes (Ok (Err fault)) texts before outcome texts_after after = IsLineAnswer (NotShaped fault) outcome × (after ≡ before) × (texts_after ≡ texts)
  Resumes (Ok (Ok p)) texts before outcome texts_after after = ResumesLog p texts before outcome texts_after after
