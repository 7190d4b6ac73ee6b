use Rattle.std.proofs.Common.{◌-◌, ◌<◌, ◌≤◌}
use Rattle.alt_graph.specs.LatestRows.{HasRows}
use Rattle.plan_margin.specs.declared.margin.TheConstants.{MAX_MARGIN}
use Rattle.plan_margin.specs.Lengths.{HasLongerSchedule}
use Rattle.plan_margin.specs.Longer.{IsFirstPast}
use Rattle.plan_margin.proofs.margin.halved.Given as goal

-- with the lesser number every job keeps its budget, with the greater one some job doesn't
abbrev pub invariant-halve : goal.invariant-halve
invariant-halve l = record {
  rows : HasRows l.graph.plan l.graph.firsts l.lengths;
  kept : HasLongerSchedule l.graph.plan l.kept;
  past : IsFirstPast l.graph.plan l.past l.then;
  apart : l.kept < l.past;
  most : l.past ≤ MAX_MARGIN;
}

-- what lies between them
abbrev pub decreases-halve : goal.decreases-halve
decreases-halve l = l.past - l.kept
