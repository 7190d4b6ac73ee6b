use Rattle.std.proofs.Common.{◌≡◌, ◌≤◌, length}
use Rattle.std.specs.Prelude.{vec_capacity}
use Rattle.alt_graph.specs.Layout.{number_of}
use Rattle.alt_graph.specs.Trails.{IsWalk, unseen}
use Rattle.alt_graph.proofs.ranking.Ranking.follow.Given as goal

-- the nodes followed so far, and room for all
abbrev pub invariant-back : goal.invariant-back
invariant-back g l = record {
  walk : IsWalk l.self-inside.graph.plan l.self-inside.graph.firsts l.self-inside.rows.items l.nodes.items l.seen.items l.next;
  room : length l.self-inside.rows.items ≤ vec_capacity l.nodes;
  at : l.at ≡ number_of l.self-inside.graph.firsts l.next;
}

-- how many nodes don't stand among them
abbrev pub decreases-back : goal.decreases-back
decreases-back g l = unseen l.seen.items
