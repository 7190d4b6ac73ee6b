use Rattle.std.proofs.Common.{◌≤◌, length}
use Rattle.alt_graph.specs.LatestRows.{moment_in, HasRows, AreLatestFrom}
use Rattle.alt_graph.proofs.latest.latest_moments.Given as goal

-- the nodes of the ranks looked at have their latest moments
abbrev pub invariant-back : goal.invariant-back
invariant-back l = record {
  rows : HasRows l.shaped l.graph.firsts l.moments.items;
  latest : AreLatestFrom l.shaped l.times (moment_in l.graph.firsts l.moments.items) l.left;
  within : l.left ≤ length l.order.items;
}

-- how many ranks weren't looked at
abbrev pub decreases-back : goal.decreases-back
decreases-back l = l.left
