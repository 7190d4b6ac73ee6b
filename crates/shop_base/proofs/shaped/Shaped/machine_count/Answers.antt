use Rattle.std.proofs.Common.{rules}
use Rattle.shop_base.proofs.shaped.Shaped.machine_count.Goals as goal

pub returns-clause-count : goal.returns-clause-count
returns-clause-count c = search rules depth 2
