use Rattle.std.proofs.Common.{◌≡◌, ◌<◌, ℕ, length, get_or, arith, sym, ap, ◌∙◌, subst}
use Rattle.std.proofs.lemmas.List.{get_or_read}
use Rattle.shop_base.specs.Graph.{IsNode}
use Rattle.alt_graph.specs.Times.{no_time, time_at}
use Rattle.alt_graph.specs.Layout.{number_of}
use Rattle.alt_graph.specs.Ranking.{PlanRanking}
use Rattle.alt_graph.proofs.NodeNumbers.{number_inside, node_time}
use Rattle.alt_graph.proofs.Ranks.{ranks_of}
use Rattle.alt_graph.proofs.ranking.Ranking.row_of.Goals as goal

pub index-requires : goal.index-requires
index-requires g c =
    let graph = c.self.inside.graph in
    let node : IsNode graph.plan c.args.node = subst (λ (r : PlanRanking). IsNode r.plan c.args.node) (sym c.self.view_is) c.requires in
    omega (arith, c.number.ensures.number, number_inside _ graph.firsts c.self.invariant.sound.firsts c.args.node node, c.self.invariant.size, c.self.inside.rows.ok.0)

pub returns-clause-row : goal.returns-clause-row
returns-clause-row g c =
    let graph = c.self.inside.graph in
    let rows = c.self.inside.rows.items in
    let node : IsNode graph.plan c.args.node = subst (λ (r : PlanRanking). IsNode r.plan c.args.node) (sym c.self.view_is) c.requires in
    let is : c.number.result ≡ number_of graph.firsts c.args.node = c.number.ensures.number in
    let within : c.number.result < length rows = omega (arith, is, number_inside _ graph.firsts c.self.invariant.sound.firsts c.args.node node, c.self.invariant.size) in
    get_or_read rows c.number.result c.index.result.now within c.index.ensures no_time ∙ ap (λ (i : ℕ). get_or rows i no_time) is
    ∙ sym (node_time _ graph.firsts c.self.invariant.sound.firsts rows c.args.node node) ∙ ap (λ (r : PlanRanking). time_at r.times c.args.node) c.self.view_is

pub returns-clause-sound : goal.returns-clause-sound
returns-clause-sound g c = ranks_of c.self.inside.graph _ _ _ _ _ _ c.self.view_is c.self.invariant
