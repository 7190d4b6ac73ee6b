use Rattle.std.proofs.Common.{◌∙◌, ap, sym, subst}
use Rattle.shop_base.specs.Plan.{PlannedShop}
use Rattle.shop_base.specs.Graph.{IsNode}
use Rattle.alt_graph.specs.Ranking.{PlanRanking}
use Rattle.alt_graph.proofs.ranking.Ranking.is_ahead.Goals as goal

pub is_ahead-requires : goal.is_ahead-requires
is_ahead-requires g c = subst (λ (p : PlannedShop). IsNode p c.args.node) (sym (c.self.invariant.planned ∙ ap (λ (r : PlanRanking). r.plan) c.self.view_is)) c.requires
