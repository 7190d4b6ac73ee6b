-- The fault of a file that couldn't be read.
use Rattle.std.specs.Prelude.{◌≡◌, ◌≢◌}
use Rattle.std.specs.IoError.{error_kind}
use Rattle.std.specs.declared.io.Error.{Error}
use Rattle.std.specs.declared.io.ErrorKind.TheVariants.{OutOfMemory}
use Rattle.command_answers.specs.declared.command_fault.CommandFault.{CommandFault}
use Rattle.command_answers.specs.declared.command_fault.CommandFault.TheVariants.{Read, Memory}
use Rattle.command_answers.specs.Texts.{IsFileFault}

-- the fault that the system's error is: out of memory where the error is that, and else that nothing could be read
pub record IsFaultOfSystem (error : Error) (fault : CommandFault) : Type 0 where
  pub memory : error_kind error ≡ OutOfMemory → fault ≡ Memory
  pub read : error_kind error ≢ OutOfMemory → fault ≡ Read
  pub is : IsFileFault fault
