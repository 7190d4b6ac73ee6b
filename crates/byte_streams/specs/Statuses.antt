-- The status that the program ends with at a fault of a driven cell.
use Rattle.std.specs.Prelude.{ℕ}
use Rattle.byte_streams.specs.declared.drive_fault.DriveFault.{DriveFault}
use Rattle.byte_streams.specs.declared.drive_fault.DriveFault.TheVariants.{Read, Write, InputTooLong, Memory}

-- the status that the program ends with at a fault
abbrev pub status_of : DriveFault → ℕ
status_of Read = 5
status_of Write = 5
status_of InputTooLong = 5
status_of Memory = 4
