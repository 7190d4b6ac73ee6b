use Rattle.std.proofs.Common.{rules}
use Rattle.cell_hub.proofs.hub.HubOf.new.Goals as goal

pub returns : goal.returns
returns g c = search rules depth 2
