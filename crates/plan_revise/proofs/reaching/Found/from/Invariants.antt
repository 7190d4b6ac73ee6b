use Rattle.std.proofs.Common.{◌≡◌, ◌-◌, ◌≤◌, length, slice_index}
use Rattle.shop_base.specs.Plan.{jobs}
use Rattle.alt_graph.specs.PlanGraph.{IsSoundGraph}
use Rattle.plan_revise.specs.Reaching.{IsMarked, AreFound, AreFollowed}
use Rattle.plan_revise.proofs.reaching.Found.from.Given as goal

-- the arcs out of the first nodes are followed
abbrev pub invariant-found : goal.invariant-found
invariant-found l = record {
  sound : IsSoundGraph l.graph;
  are : AreFound l.graph l.found;
  onward : AreFollowed l.graph l.followed l.found;
  begun : IsMarked l.graph l.found.marks.items l.fn.origin;
  same : l.found.origin ≡ l.fn.origin;
  within : l.followed ≤ length l.found.nodes.items;
  graph_same : l.graph ≡ l.fn.graph;
}

abbrev pub decreases-found : goal.decreases-found
decreases-found l = slice_index l.graph.firsts (jobs l.graph.plan) - l.followed
