use Rattle.std.proofs.Common.{ℕ, ◌<◌}
use Rattle.shop_base.specs.Graph.{node}
use Rattle.alt_graph.specs.Ranking.{Grows, IsSettled}
use Rattle.alt_graph.proofs.ranking.Ranking.rank_first.Given as goal

-- the first places of the jobs looked at are settled
abbrev pub invariant-loop-job : goal.invariant-loop-job
invariant-loop-job g l = record {
  grows : Grows l.fn.self l.self;
  settled : (j : ℕ) → j < l.job → IsSettled l.self 0 (node j 0);
}
