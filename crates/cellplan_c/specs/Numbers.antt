-- Reports, reasons, orders and phases as numbers.
use Rattle.std.specs.Prelude.{◌≢◌, ℕ, List, [], ◌∷◌, Option, None, Some, false, nat_eq, if◌then◌else◌}
use Rattle.shop_base.specs.declared.move_order.Spot.{Spot}
use Rattle.shop_base.specs.declared.move_order.Spot.TheVariants.{Out, At}
use Rattle.shop_base.specs.declared.move_order.MoveOrder.{MoveOrder}
use Rattle.shop_base.specs.declared.report.Report.TheVariants.{Arrive, Finish, Clean}
use Rattle.cell_tables.specs.declared.claim.Claim.{Claim}
use Rattle.cell_tables.specs.declared.claim.Claim.TheVariants.{Report, CleanAfter, FinishStep, CleanAfterStep}
use Rattle.cell_control.specs.declared.phase.Phase.{Phase as Whereabouts}
use Rattle.cell_control.specs.declared.phase.Phase.TheVariants.{Outside, OnMachine, Gone}
use Rattle.cell_control.specs.declared.report_fault.ReportFault.{ReportFault}
use Rattle.cell_control.specs.declared.report_fault.ReportFault.TheVariants.{JobOutOfRange, MachineOutOfRange, StepOutOfRange, MomentTooLarge, Backwards, NotExpected, WrongKind, WrongMachine}
use Rattle.cellplan_c.specs.declared.numbers.Order.{Order}
use Rattle.cellplan_c.specs.declared.numbers.Phase.{Phase}

-- what is claimed to have ended by kind 0, an arrival, 1, an operation, 2, a cleaning, or 3, a cleaning after a job
abbrev pub report_by : ℕ → ℕ → ℕ → ℕ → Option Claim
report_by kind job machine at =
    if nat_eq kind 0 then Some (Report (Arrive job at)) else (if nat_eq kind 1 then Some (Report (Finish job machine at)) else (if nat_eq kind 2 then Some (Report (Clean machine at)) else (if nat_eq kind 3 then Some (CleanAfter machine job at) else None)))

-- what is claimed to have ended by kind 1, the operation of a step, or 3, a cleaning after a step
abbrev pub step_report_by : ℕ → ℕ → ℕ → ℕ → ℕ → Option Claim
step_report_by kind job step machine at =
    if nat_eq kind 1 then Some (FinishStep job step at) else (if nat_eq kind 3 then Some (CleanAfterStep machine job step at) else None)

-- the number of a reason, from 16 on
abbrev pub fault_number : ReportFault → ℕ
fault_number JobOutOfRange = 16
fault_number MachineOutOfRange = 17
fault_number MomentTooLarge = 18
fault_number (Backwards last) = 19
fault_number NotExpected = 20
fault_number WrongKind = 21
fault_number (WrongMachine actual) = 22
fault_number StepOutOfRange = 23

-- no reason has this number
abbrev pub NoReason : ℕ → Type 0
NoReason number = (fault : ReportFault) → fault_number fault ≢ number

-- the moment or the machine that a reason names, and 0 where it names none
abbrev pub fault_detail : ReportFault → ℕ
fault_detail (Backwards last) = last
fault_detail (WrongMachine actual) = actual
fault_detail _ = 0

-- the machine's number, and the greatest number outside
abbrev pub spot_number : Spot → ℕ
spot_number Out = 4294967295
spot_number (At machine) = machine

-- the order as its numbers
abbrev pub order_numbers : MoveOrder → Order
order_numbers order = record { job = order.job; source = spot_number order.source; target = spot_number order.target; at = order.at }

-- where a job is as numbers: 0 outside, 1 on a machine, 2 gone
abbrev pub phase_numbers : Whereabouts → Phase
phase_numbers (Outside ready) = record { place = 0; machine = 0; ready = ready; at = 0 }
phase_numbers (OnMachine machine ready) = record { place = 1; machine = machine; ready = ready; at = 0 }
phase_numbers (Gone at) = record { place = 2; machine = 0; ready = false; at = at }

-- what a call that reads has answered: what it wrote, at status 0, else none
abbrev pub answer_of : {A : Type 0} → ℕ → A → Option A
answer_of status written = if nat_eq status 0 then Some written else None

-- the name of an instance, and none where the text is empty
abbrev pub named : List ℕ → Option (List ℕ)
named [] = None
named (c ∷ cs) = Some (c ∷ cs)
