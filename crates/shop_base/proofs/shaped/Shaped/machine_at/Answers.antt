use Rattle.std.proofs.Common.{rules}
use Rattle.shop_base.proofs.shaped.Shaped.machine_at.Goals as goal

pub returns-clause-machine : goal.returns-clause-machine
returns-clause-machine c = search rules depth 2
