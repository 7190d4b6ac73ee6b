use Rattle.std.proofs.Common.{length, arith, ap, sym, subst}
use Rattle.std.proofs.lemmas.List.{length_push}
use Rattle.plan_limits.specs.Asked.{AreEmpty}
use Rattle.plan_limits.proofs.Entries.{empty_push}
use Rattle.plan_limits.proofs.pairs.empty_rows.Goals as goal

pub loop-preserved : goal.loop-preserved
loop-preserved c = record {
  count = omega (arith, ap length c.in_ok-push.ensures.items, length_push c.loop.rows.items c.new.result, c.loop.invariant.count);
  empty = subst AreEmpty (sym c.in_ok-push.ensures.items) (empty_push c.loop.rows.items c.new.result c.loop.invariant.empty c.new.ensures.items);
}
