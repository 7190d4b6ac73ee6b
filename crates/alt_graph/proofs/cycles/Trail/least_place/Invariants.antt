use Rattle.std.proofs.Common.{ℕ, ◌<◌, ◌≤◌}
use Rattle.alt_graph.specs.Evidence.{IsNodeBefore}
use Rattle.alt_graph.specs.Trails.{trail_at, trail_length}
use Rattle.alt_graph.proofs.cycles.Trail.least_place.Given as goal

-- the least of the places looked at
abbrev pub invariant-loop-place : goal.invariant-loop-place
invariant-loop-place l = record {
  after : l.self.start ≤ l.least;
  within : l.least < trail_length l.self;
  least : (i : ℕ) → l.self.start ≤ i → i < l.place → IsNodeBefore (trail_at l.self i) (trail_at l.self l.least) → ⊥;
}
