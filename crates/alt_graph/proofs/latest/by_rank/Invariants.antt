use Rattle.std.proofs.Common.{ℕ, ◌≡◌, ◌<◌, ◌≤◌, length}
use Rattle.shop_base.specs.Plan.{steps}
use Rattle.shop_base.specs.Graph.{node}
use Rattle.alt_graph.specs.ByRank.{IsAtItsRank, AreAtTheirRanks}
use Rattle.alt_graph.proofs.latest.by_rank.Given as goal

-- the nodes of the jobs looked at are recorded, and no others
abbrev pub invariant-loop-job : goal.invariant-loop-job
invariant-loop-job l = record {
  size : length l.nodes.items ≡ l.fn.count;
  ranked : AreAtTheirRanks l.shaped l.times l.nodes.items;
  all : (j : ℕ) → j < l.job → (k : ℕ) → k ≤ steps l.shaped j → IsAtItsRank l.times l.nodes.items (node j k);
}
