use Rattle.std.proofs.Common.{ℕ, ◌<◌}
use Rattle.shop_base.specs.Graph.{node}
use Rattle.alt_graph.specs.Ranking.{IsRanked}
use Rattle.alt_graph.proofs.ranking.Ranking.first_unranked_of.Given as goal

-- the places looked at have ranks
abbrev pub invariant-loop-place : goal.invariant-loop-place
invariant-loop-place g l = (k : ℕ) → k < l.place → IsRanked l.self.times (node l.job k)
