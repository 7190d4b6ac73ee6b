-- The status that the program ends with at a command's fault.
use Rattle.std.specs.Prelude.{ℕ}
use Rattle.command_answers.specs.declared.command_fault.CommandFault.{CommandFault}
use Rattle.command_answers.specs.declared.command_fault.CommandFault.TheVariants.{Instance, Plan, Names, Read, Write, InputTooLong, Log, LogInUse, Memory}

-- the status that the program ends with at a fault
abbrev pub command_status_of : CommandFault → ℕ
command_status_of (Instance fault) = 3
command_status_of (Plan fault) = 3
command_status_of (Names fault) = 3
command_status_of Memory = 4
command_status_of Read = 5
command_status_of Write = 5
command_status_of InputTooLong = 5
command_status_of Log = 5
command_status_of LogInUse = 5
