use Rattle.std.proofs.Common.{length, arith, rules, ap}
use Rattle.plan_bounds.specs.Bounds.{times_of}
use Rattle.plan_limits.proofs.Entries.{entries_none}
use Rattle.plan_limits.proofs.pairs.machine_pairs.Goals as goal

pub loop-number-init : goal.loop-number-init
loop-number-init c = record {
  entries = entries_none (times_of c.args.shaped.now) c.args.nodes.now c.in_ok-entries.entries.items (search rules) c.in_ok-entries.ensures.empty;
  pairs = λ a inside. absurd (omega (arith, inside, ap length c.new-pairs.ensures.items));
}
