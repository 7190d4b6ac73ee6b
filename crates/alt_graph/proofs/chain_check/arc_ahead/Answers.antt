use Rattle.std.proofs.Common.{sym, subst}
use Rattle.shop_base.specs.Plan.{PlannedShop}
use Rattle.shop_base.specs.Graph.{IsNode}
use Rattle.shop_base.proofs.Cycles.{source_node}
use Rattle.alt_graph.proofs.chain_check.arc_ahead.Goals as goal

pub is_ahead-requires : goal.is_ahead-requires
is_ahead-requires g c = subst (λ (p : PlannedShop). IsNode p c.args.from) (sym c.requires) (source_node _ _ _ _ c.in_ok-length.ensures.exact.arc)
