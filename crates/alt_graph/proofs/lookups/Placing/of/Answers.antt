use Rattle.std.proofs.Common.{arith}
use Rattle.shop_base.proofs.Visits.{visits_job}
use Rattle.alt_graph.proofs.lookups.Placing.of.Goals as goal

pub returns-clause-placed : goal.returns-clause-placed
returns-clause-placed c = record {
  tables = c.loop-job.invariant.tables;
  linked = λ j m k l from visits. c.loop-job.invariant.linked j (omega (arith, visits_job _ j k m visits)) m k l from visits;
  first = λ n j _ k visits. c.loop-job.invariant.first n j (omega (arith, visits_job _ j k n visits)) k visits;
  placed = λ n less. absurd (omega (arith, less));
  gap = (0, c.loop-job.invariant.gap, c.loop-job.invariant.size, omega arith);
}
