-- Where all nodes are ranked: greatest lengths, and no cycle.
use Rattle.std.proofs.Common.{ℕ, zero, suc, ◌<◌, ◌≤◌, ◌++◌, ◌∷◌, [], List, Option, None, Some, arith, sym, ap, ◌∙◌, subst}
use Rattle.shop_base.specs.declared.node.Node.{Node}
use Rattle.shop_base.specs.Plan.{PlannedShop}
use Rattle.shop_base.specs.Graph.{IsNode}
use Rattle.shop_base.proofs.Cycles.{source_node}
use Rattle.alt_graph.specs.declared.times.NodeTime.{NodeTime}
use Rattle.alt_graph.specs.Lookups.{AreFirsts}
use Rattle.alt_graph.specs.Times.{NodeTimes, rank_of, earliest_of, before_of, IsAttainedFrom, AreTimesFrom, AreOrderedFrom}
use Rattle.alt_graph.specs.Bounds.{NodeBounds, PathFrom, begins_at, goes_along}
use Rattle.alt_graph.specs.Layout.{by_job, LeadsBack, AreLinked}
use Rattle.alt_graph.specs.PlanGraph.{PlanGraph}
use Rattle.alt_graph.specs.Ranking.{AreRanked, AreAllRanked, ranking_of, IsRanking}
use Rattle.alt_graph.specs.Places.{node_at}
use Rattle.alt_graph.proofs.NodeNumbers.{numbers_count, next_first, timed_node, node_timed}
use Rattle.alt_graph.proofs.ArcKinds.{target_node}

module _ (p : PlannedShop) (b : NodeBounds) (t : NodeTimes) (are : AreTimesFrom p b t) where
  -- the kept moment of each node is the length of a path
  reached_below : (n : ℕ) (v : Node) → rank_of t v < n → IsNode p v → (nodes : List Node) × PathFrom p b nodes v (earliest_of t v)
  reached_below zero v less is = absurd (omega arith)
  reached_below (suc n) v less is = go (λ u. reached_below n u) (before_of t v) (are.attained v is)
    where
      go : ((u : Node) → rank_of t u < n → IsNode p u → (nodes : List Node) × PathFrom p b nodes u (earliest_of t u))
          → (o : Option Node) → IsAttainedFrom p b t v (earliest_of t v) o → (nodes : List Node) × PathFrom p b nodes v (earliest_of t v)
      go below None recorded = (v ∷ [], begins_at v (earliest_of t v) is recorded)
      go below (Some u) (d, arc, at, ahead) =
          let path = below u (omega (arith, are.ranks.rise u v d arc)) (source_node p u v d arc) in
          (path.0 ++ v ∷ [], subst (λ (m : ℕ). PathFrom p b (path.0 ++ v ∷ []) v m) at (goes_along path.0 u v (earliest_of t u) d path.1 ahead arc))

  -- no path is longer
  none_longer : (nodes : List Node) (v : Node) (n : ℕ) → PathFrom p b nodes v n → n ≤ earliest_of t v
  none_longer nodes v n (begins_at w m is recorded) = are.moments.bounds w m is recorded
  none_longer nodes v n (goes_along front u w m d path ahead arc) = omega (arith, none_longer front u m path, are.moments.arcs u w d ahead arc)

  ordered : AreOrderedFrom p b t
  ordered = record {
    times = are;
    lengths = record {
      reached = λ v is. reached_below (suc (rank_of t v)) v (omega arith) is;
      greatest = none_longer;
    };
  }

module _ (graph : PlanGraph) (q : PlannedShop) (b : NodeBounds) (done : List Node) (rows : List NodeTime) (room : ℕ) (is_ranking : IsRanking graph q b done rows room)
    (all : AreAllRanked (ranking_of graph b done rows)) where
  abbrev p : PlannedShop
  p = graph.plan

  abbrev firsts : List ℕ
  firsts = graph.firsts

  abbrev times : NodeTimes
  times = by_job firsts rows

  are : AreFirsts p firsts
  are = is_ranking.sound.firsts

  sound : AreRanked (ranking_of graph b done rows)
  sound = is_ranking.ranked

  -- ranked nodes have their times
  all_times : AreTimesFrom p b times
  all_times = record {
    ranks = record {
      shaped = is_ranking.sound.shaped;
      nodes = λ v. (node_timed p firsts are rows v is_ranking.size, timed_node p firsts are rows v);
      rise = λ u v d arc. (let is = target_node p u v d arc in (sound.placed v is (all v is)).rises u d arc);
      few = λ v is. omega (arith, sound.within v is (all v is), is_ranking.count, is_ranking.size, numbers_count p firsts are);
      apart = λ u v one other same. sym (sound.places u one (all u one)) ∙ ap (node_at done) same ∙ sound.places v other (all v other);
    };
    moments = record {
      bounds = λ v n is recorded. (sound.placed v is (all v is)).bound n recorded;
      arcs = λ u v d ahead arc. (let is = target_node p u v d arc in (sound.placed v is (all v is)).fits u d arc ahead);
    };
    attained = λ v is. (sound.placed v is (all v is)).attained;
  }

  -- the nodes before them are ranked too
  pub all_linked : AreLinked firsts rows
  all_linked = record {
    rises = λ j lt. omega (arith, are.follows j (omega (arith, are.size)));
    within = λ j lt. omega (arith, is_ranking.size, next_first p firsts are j (omega (arith, are.size)));
    back = λ v timed. (let is = timed_node p firsts are rows v timed in leads v (before_of times v) (all_times.attained v is));
  }
    where
      leads : (v : Node) (o : Option Node) → IsAttainedFrom p b times v (earliest_of times v) o → LeadsBack times v o
      leads v None attained = tt
      leads v (Some u) (d, arc, at, ahead) = (node_timed p firsts are rows u is_ranking.size (source_node p u v d arc), all_times.ranks.rise u v d arc)

  -- they are ordered
  pub all_ordered : AreOrderedFrom p b times
  all_ordered = ordered p b times all_times
