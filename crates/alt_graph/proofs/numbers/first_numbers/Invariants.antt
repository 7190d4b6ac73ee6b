use Rattle.std.proofs.Common.{◌+◌, ◌≤◌}
use Rattle.std.specs.Prelude.{vec_capacity}
use Rattle.shop_base.specs.Plan.{jobs}
use Rattle.alt_graph.proofs.Filling.{AreFirstsBelow}
use Rattle.alt_graph.proofs.numbers.first_numbers.Given as goal

-- the first nodes of the jobs looked at have their numbers, and there is room for those of all jobs
abbrev pub invariant-loop-job : goal.invariant-loop-job
invariant-loop-job l = record {
  below : AreFirstsBelow l.shaped l.firsts.items l.job l.next;
  room : jobs l.shaped + 1 ≤ vec_capacity l.firsts;
}
