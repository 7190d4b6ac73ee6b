use Rattle.std.proofs.Common.{arith, ap, length}
use Rattle.shop_base.specs.Shop.{JobShop, operations_of}
use Rattle.shop_base.proofs.Bounds.{operations_of-le}
use Rattle.alt_graph.proofs.chain_check.count_nodes.Goals as goal

pub overflow_add-result : goal.overflow_add-result
overflow_add-result c = omega (arith, operations_of-le _ c.jobs.ensures.sound, c.jobs.ensures.sound.counts.few_jobs)

pub returns-clause-count : goal.returns-clause-count
returns-clause-count c = omega (
  arith,
  c.from.ensures,
  c.jobs.ensures.count,
  c.operations.ensures,
  ap (λ (shop : JobShop). length shop.routes) c.shop-shop.ensures.same,
  ap operations_of c.shop-shop.ensures.same,
)
