use Rattle.std.proofs.Common.{◌≡◌}
use Rattle.alt_graph.specs.Turns.{steps_on}
use Rattle.alt_graph.proofs.turns.visits_before.Given as goal

-- those among the steps looked at are counted
abbrev pub invariant-loop-step : goal.invariant-loop-step
invariant-loop-step l = l.visits ≡ steps_on l.route l.machine l.step
