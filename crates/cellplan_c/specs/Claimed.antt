-- What is reported from C is claimed to have ended: what comes of it.
use Rattle.std.specs.Prelude.{◌≡◌, ◌⊎◌, List}
use Rattle.shop_base.specs.Run.{Event}
use Rattle.cell_tables.specs.{declared.claim.Claim.Claim, Claims.claimed, Readings.{IsCleanedAfter, IsCleanedAfterStep}}
use Rattle.cell_tables.specs.declared.claim.Claim.TheVariants.{Report, CleanAfter, FinishStep, CleanAfterStep}
use Rattle.cell_control.specs.{Claims.IsAtWork, Control.{Control, IfEndsNow}, Promises.IsCalled}

-- this holds if what is claimed to have ended goes on and its moment is the last one
abbrev pub IfGoesOnNow : Control → Claim → Type 0 → Type 0
IfGoesOnNow v (Report report) Holds = IfEndsNow v report Holds
IfGoesOnNow v (CleanAfter machine job at) Holds = IsCleanedAfter v.planned v.cell machine job → at ≡ v.cell.last → Holds
IfGoesOnNow v (FinishStep job step at) Holds = IsAtWork v.planned v.cell job step → at ≡ v.cell.last → Holds
IfGoesOnNow v (CleanAfterStep machine job step at) Holds = IsCleanedAfterStep v.planned v.cell machine job step → at ≡ v.cell.last → Holds

-- the controller is that after a call of report with what is claimed
abbrev pub IsCalledFor : Control → Claim → Control → Type 0
IsCalledFor old claim new = (es : List Event) × IsCalled old (claimed old.planned claim) es new

-- what the controller after it is: as after a call of report; a claim of another kind may be refused for what it names beside the report, and the controller is the same
abbrev pub Calls : Control → Claim → Control → Type 0
Calls old (Report report) new = IsCalledFor old (Report report) new
Calls old claim new = IsCalledFor old claim new ⊎ (new ≡ old)
