use Rattle.std.proofs.Common.{ℕ, ◌<◌}
use Rattle.alt_graph.specs.Places.{IsNewAt}
use Rattle.alt_graph.proofs.cycle_check.are_distinct.Given as goal

-- none of the nodes looked at stands at an earlier place
abbrev pub invariant-loop-place : goal.invariant-loop-place
invariant-loop-place l = (i : ℕ) → i < l.place → IsNewAt l.nodes i
