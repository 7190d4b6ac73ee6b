use Rattle.plan_bounds.specs.Bounds.{times_of}
use Rattle.plan_limits.specs.Asked.{AreEntries, AreMachinePairs}
use Rattle.plan_limits.proofs.pairs.machine_pairs.Given as goal

abbrev pub invariant-loop-number : goal.invariant-loop-number
invariant-loop-number l = record {
  entries : AreEntries (times_of l.shaped) l.nodes l.number l.entries.items;
  pairs : AreMachinePairs (times_of l.shaped) l.nodes l.pairs.items;
}
