use Rattle.std.proofs.Common.{ap}
use Rattle.cell_drive.specs.InProtocol.{begun_by}
use Rattle.cell_drive.proofs.begin.begin_in.Goals as goal

pub returns : goal.returns
returns c = ap begun_by c.in_ok-session.ensures
