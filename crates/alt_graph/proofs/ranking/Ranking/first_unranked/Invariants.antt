use Rattle.std.proofs.Common.{ℕ, ◌<◌}
use Rattle.alt_graph.specs.Ranking.{IsJobRanked}
use Rattle.alt_graph.proofs.ranking.Ranking.first_unranked.Given as goal

-- the jobs looked at have ranks
abbrev pub invariant-loop-job : goal.invariant-loop-job
invariant-loop-job g l = (j : ℕ) → j < l.job → IsJobRanked l.self j
