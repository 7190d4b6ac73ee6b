use Rattle.std.proofs.Common.{rules}
use Rattle.cell_hub.proofs.hub_fault.HubFault.name.Goals as goal

pub returns-in-NoSuchCell : goal.returns-in-NoSuchCell
returns-in-NoSuchCell c = search rules depth 2
