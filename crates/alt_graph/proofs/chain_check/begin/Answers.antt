use Rattle.std.proofs.Common.{sym, subst}
use Rattle.shop_base.specs.Plan.{PlannedShop}
use Rattle.shop_base.specs.Graph.{IsNode}
use Rattle.alt_graph.proofs.PathsFrom.{bound_exact}
use Rattle.alt_graph.proofs.chain_check.begin.Goals as goal

pub bound-requires : goal.bound-requires
bound-requires g c = subst (λ (p : PlannedShop). IsNode p c.args.node) (sym c.requires) (c.is_node.ensures.0 c.if-is_node.true)

pub returns-then-is_node-clause-exact : goal.returns-then-is_node-clause-exact
returns-then-is_node-clause-exact g c = bound_exact c.args.shaped.now (g.B.Bounds.bounds c.args.bounds.now) c.args.node (c.is_node.ensures.0 c.if-is_node.true) c.bound.result c.bound.ensures.recorded
