use Rattle.alt_graph.specs.LatestRows.{HasRows, moment_in}
use Rattle.plan_margin.specs.Lengths.{AreLengthsBelow}
use Rattle.plan_margin.proofs.lengths.fill_lengths.Given as goal

-- the nodes at the places looked at have their lengths
abbrev pub invariant-loop-at : goal.invariant-loop-at
invariant-loop-at l = record {
  rows : HasRows l.graph.plan l.graph.firsts l.lengths;
  below : AreLengthsBelow l.graph.plan l.thousandths (moment_in l.graph.firsts l.lengths) l.nodes l.at;
}
