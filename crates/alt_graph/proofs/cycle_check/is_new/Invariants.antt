use Rattle.std.proofs.Common.{ℕ, ◌<◌, ◌≢◌}
use Rattle.alt_graph.specs.Places.{node_at}
use Rattle.alt_graph.proofs.cycle_check.is_new.Given as goal

-- the node is none of the earlier ones that were looked at
abbrev pub invariant-loop-earlier : goal.invariant-loop-earlier
invariant-loop-earlier l = (k : ℕ) → k < l.earlier → node_at l.nodes k ≢ node_at l.nodes l.place
