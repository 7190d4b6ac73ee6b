use Rattle.std.proofs.Common.{◌≡◌, length}
use Rattle.plan_limits.specs.Asked.{AreEmpty}
use Rattle.plan_limits.proofs.pairs.empty_rows.Given as goal

abbrev pub invariant-loop : goal.invariant-loop
invariant-loop l = record {
  count : length l.rows.items ≡ l.counter;
  empty : AreEmpty l.rows.items;
}
