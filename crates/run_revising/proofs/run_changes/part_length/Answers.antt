use Rattle.std.proofs.Common.{sym, ◌∙◌}
use Rattle.run_revising.proofs.PartsMade.{none_more}
use Rattle.run_revising.proofs.run_changes.part_length.Goals as goal

pub loop-place-preserved : goal.loop-place-preserved
loop-place-preserved c = none_more c.args.changes.now c.loop-place.place _ c.loop-place.invariant c.loop-place-test.true (sym c.is_hold.ensures ∙ c.if-is_hold.false)
