use Rattle.alt_graph.specs.Placing.{AreOrdersPlaced}
use Rattle.alt_graph.proofs.lookups.Lookups.new.Given as goal

-- the visits to the machines looked at have their places
abbrev pub invariant-loop-machine : goal.invariant-loop-machine
invariant-loop-machine l = AreOrdersPlaced l.shaped l.placing l.machine
