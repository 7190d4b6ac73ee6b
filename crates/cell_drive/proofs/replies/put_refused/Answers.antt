use Rattle.std.proofs.Common.{rules}
use Rattle.cell_drive.proofs.replies.put_refused.Goals as goal

pub returns-clause-wrote : goal.returns-clause-wrote
returns-clause-wrote g c = search rules depth 2
