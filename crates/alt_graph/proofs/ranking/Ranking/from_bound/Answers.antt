use Rattle.std.proofs.Common.{◌∙◌, ap, sym, subst}
use Rattle.shop_base.specs.Plan.{PlannedShop}
use Rattle.shop_base.specs.Graph.{IsNode}
use Rattle.alt_graph.specs.Ranking.{PlanRanking}
use Rattle.alt_graph.proofs.Ranks.{rooted_of}
use Rattle.alt_graph.proofs.ranking.Ranking.from_bound.Goals as goal

pub bound-requires : goal.bound-requires
bound-requires g c = subst (λ (p : PlannedShop). IsNode p c.args.node) (sym (c.self.invariant.planned ∙ ap (λ (r : PlanRanking). r.plan) c.self.view_is)) c.requires

pub returns-in_err-length-clause-rooted : goal.returns-in_err-length-clause-rooted
returns-in_err-length-clause-rooted g c = rooted_of c.self.inside.graph _ _ _ _ _ _ c.self.view_is c.self.invariant

pub returns-clause-rooted : goal.returns-clause-rooted
returns-clause-rooted g c = rooted_of c.self.inside.graph _ _ _ _ _ _ c.self.view_is c.self.invariant
