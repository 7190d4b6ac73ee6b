use Rattle.std.proofs.Common.{subst, sym, ◌∙◌}
use Rattle.shop_base.specs.Plan.{PlannedShop}
use Rattle.shop_base.proofs.Cycles.{ranks_exclude_cycle}
use Rattle.alt_graph.specs.Bounds.{NodeBounds, AreRooted}
use Rattle.alt_graph.specs.Evidence.{IsCycle}
use Rattle.alt_graph.proofs.WholePlans.{cycle_has}
use Rattle.alt_graph.specs.Times.{rank_of, AreOrderedFrom}
use Rattle.alt_graph.proofs.solving.solve_from.Goals as goal

pub of-requires-clause-planned : goal.of-requires-clause-planned
of-requires-clause-planned g c = c.requires.planned ∙ sym c.in_ok-graph.ensures.graph.plan

pub of-requires-clause-rooted : goal.of-requires-clause-rooted
of-requires-clause-rooted g c = subst (λ (p : PlannedShop). AreRooted p (g.B.Bounds.bounds c.args.bounds)) (sym c.in_ok-graph.ensures.graph.plan) c.requires.rooted

pub returns-in-None-clause-ordered : goal.returns-in-None-clause-ordered
returns-in-None-clause-ordered g c =
    subst (λ (p : PlannedShop). AreOrderedFrom p (g.B.Bounds.bounds c.args.bounds) c.into_times.result) (c.in_ok-ranking.ensures.plan ∙ c.in_ok-graph.ensures.graph.plan)
    (subst (λ (b : NodeBounds). AreOrderedFrom c.in_ok-ranking.ranking.plan b c.into_times.result) c.in_ok-ranking.ensures.bounds c.into_times.ensures)

pub returns-in-None-clause-exact : goal.returns-in-None-clause-exact
returns-in-None-clause-exact g c =
    let ordered = returns-in-None-clause-ordered g c in (
      λ never. absurd never,
      λ cycle. ranks_exclude_cycle _ (rank_of c.into_times.result) cycle.0 ordered.times.ranks.rise cycle.1,
    )

pub returns-in_ok-nodes-in-Some-clause-cyclic : goal.returns-in_ok-nodes-in-Some-clause-cyclic
returns-in_ok-nodes-in-Some-clause-cyclic g c =
    subst (λ (p : PlannedShop). IsCycle p c.in_ok-nodes-in-Some.nodes.items) (c.in_ok-ranking.ensures.plan ∙ c.in_ok-graph.ensures.graph.plan) c.in_ok-nodes-in-Some.ensures

pub returns-in_ok-nodes-in-Some-clause-exact : goal.returns-in_ok-nodes-in-Some-clause-exact
returns-in_ok-nodes-in-Some-clause-exact g c = (λ _. cycle_has c.args.shaped.now c.in_ok-nodes-in-Some.nodes.items (returns-in_ok-nodes-in-Some-clause-cyclic g c), λ _. tt)
