use Rattle.std.proofs.Common.{◌≡◌, ℕ, ◌<◌, ◌≤◌, length}
use Rattle.std.specs.Prelude.{vec_capacity}
use Rattle.alt_graph.specs.Trails.{IsPlaceAfter, trail_at}
use Rattle.alt_graph.specs.Places.{node_at}
use Rattle.alt_graph.proofs.cycles.Trail.turned.Given as goal

-- the nodes so far, and room for all
abbrev pub invariant-loop-arcs : goal.invariant-loop-arcs
invariant-loop-arcs l = record {
  size : length l.nodes.items ≡ l.arcs;
  room : l.count ≤ vec_capacity l.nodes;
  there : (i : ℕ) → i < l.arcs → (a : ℕ) × IsPlaceAfter l.self l.place i a × (node_at l.nodes.items i ≡ trail_at l.self a);
}
