use Rattle.alt_graph.specs.Placing.{AreRoutesNoted}
use Rattle.alt_graph.proofs.lookups.Placing.of.Given as goal

-- the routes of the jobs looked at are noted
abbrev pub invariant-loop-job : goal.invariant-loop-job
invariant-loop-job l = AreRoutesNoted l.shaped l.placing l.job
