-- The names of faults.
use Rattle.std.specs.Prelude.{ℕ, List, codes}
use Rattle.plan_revise.specs.declared.change.ChangeFault.{ChangeFault}
use Rattle.plan_revise.specs.declared.change.ChangeFault.TheVariants.{MachineOutOfRange, Idle, Occupied, TooSoon, NominalTooLarge, OddWords, BadNumber, TooManyJobs, EmptyRoute, TooManySteps, MachineTwice, ReleaseTooLarge, BudgetTooLarge, JobOutOfRange, JobGone, JobAside, JobArrived, TooManyMachines, Locks}

-- the name of a fault
abbrev pub change_fault_name : ChangeFault → List ℕ
change_fault_name MachineOutOfRange = codes "MachineOutOfRange"
change_fault_name Idle = codes "Idle"
change_fault_name Occupied = codes "Occupied"
change_fault_name TooSoon = codes "TooSoon"
change_fault_name NominalTooLarge = codes "NominalTooLarge"
change_fault_name OddWords = codes "OddWords"
change_fault_name BadNumber = codes "BadNumber"
change_fault_name TooManyJobs = codes "TooManyJobs"
change_fault_name EmptyRoute = codes "EmptyRoute"
change_fault_name TooManySteps = codes "TooManySteps"
change_fault_name MachineTwice = codes "MachineTwice"
change_fault_name ReleaseTooLarge = codes "ReleaseTooLarge"
change_fault_name BudgetTooLarge = codes "BudgetTooLarge"
change_fault_name JobOutOfRange = codes "JobOutOfRange"
change_fault_name JobGone = codes "JobGone"
change_fault_name JobAside = codes "JobAside"
change_fault_name JobArrived = codes "JobArrived"
change_fault_name TooManyMachines = codes "TooManyMachines"
change_fault_name Locks = codes "Locks"
