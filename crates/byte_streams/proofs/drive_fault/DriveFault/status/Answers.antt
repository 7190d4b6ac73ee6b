use Rattle.std.proofs.Common.{rules}
use Rattle.byte_streams.proofs.drive_fault.DriveFault.status.Goals as goal

pub returns-in-Memory : goal.returns-in-Memory
returns-in-Memory c = search rules depth 2
