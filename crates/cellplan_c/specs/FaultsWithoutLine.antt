-- Which faults no line prints.
use Rattle.std.specs.Prelude.{◌≡◌}
use Rattle.command_answers.specs.declared.command_fault.CommandFault.{CommandFault}
use Rattle.command_answers.specs.declared.command_fault.CommandFault.TheVariants.{Instance, Plan, Memory}

-- that memory ran out, or the fault itself where it is of no text
abbrev pub HasNoLine : CommandFault → CommandFault → Type 0
HasNoLine (Instance why) other = other ≡ Memory
HasNoLine (Plan why) other = other ≡ Memory
HasNoLine fault other = other ≡ fault
