use Rattle.std.proofs.Common.{◌≡◌, ◌≤◌, length, arith, ap, ◌∙◌}
use Rattle.alt_graph.specs.Evidence.{node_count}
use Rattle.alt_graph.specs.Ranking.{PlanRanking}
use Rattle.alt_graph.proofs.Ranks.{ranks_of, most_ranked}
use Rattle.alt_graph.proofs.Settling.{settled_all}
use Rattle.alt_graph.proofs.ranking.Ranking.of.Goals as goal

pub loop-next-init : goal.loop-next-init
loop-next-init g c = record { plan = c.rank_first.ensures.grows.plan ∙ c.in_ok-ranking.ensures.plan; bounds = c.rank_first.ensures.grows.bounds ∙ c.in_ok-ranking.ensures.bounds; settled = c.rank_first.ensures.settled }

pub loop-next-smaller : goal.loop-next-smaller
loop-next-smaller g c =
    let ranked : length c.ranking.inside.done.items ≡ length c.loop-next.ranking.done = ap (λ (r : PlanRanking). length r.done) c.ranking.view_is in
    let most : length c.loop-next.ranking.done ≤ node_count c.loop-next.ranking.plan = most_ranked c.ranking.inside.graph _ _ _ _ _ _ c.ranking.view_is c.ranking.invariant in
    omega (arith, ranked, most, ap node_count c.loop-next.invariant.plan, c.len.ensures, c.ranking.inside.done.ok.0)

pub loop-next-preserved : goal.loop-next-preserved
loop-next-preserved g c = record { plan = c.rank_after.ensures.grows.plan ∙ c.loop-next.invariant.plan; bounds = c.rank_after.ensures.grows.bounds ∙ c.loop-next.invariant.bounds; settled = c.rank_after.ensures.settled }

pub returns-clause-settled : goal.returns-clause-settled
returns-clause-settled g c =
    let ranked : length c.ranking.inside.done.items ≡ length c.loop-next.ranking.done = ap (λ (r : PlanRanking). length r.done) c.ranking.view_is in
    settled_all _ c.loop-next.next (ranks_of c.ranking.inside.graph _ _ _ _ _ _ c.ranking.view_is c.ranking.invariant) (omega (arith, ranked, c.len.ensures, c.ranking.inside.done.ok.0)) c.loop-next.invariant.settled
