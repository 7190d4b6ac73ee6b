use Rattle.std.proofs.Common.{MatchOption}
use Rattle.plan_bounds.specs.Bounds.{times_of}
use Rattle.plan_bounds.specs.Greatest.{HaveNoBound, IsGreatestOfMachines}
use Rattle.plan_bounds.proofs.makespan.greatest_machine.Given as goal

-- the greatest of the bounds of the machines looked at
abbrev pub invariant-loop-machine : goal.invariant-loop-machine
invariant-loop-machine l = MatchOption l.greatest (HaveNoBound (times_of l.shaped) l.machine) (IsGreatestOfMachines (times_of l.shaped) l.machine)
