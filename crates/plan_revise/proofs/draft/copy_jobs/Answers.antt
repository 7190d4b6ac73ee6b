use Rattle.std.proofs.Common.{rules, arith}
use Rattle.plan_revise.proofs.Written.{copied_more}
use Rattle.plan_revise.proofs.draft.copy_jobs.Goals as goal

pub loop-place-preserved : goal.loop-place-preserved
loop-place-preserved c = copied_more c.args.rows.now c.loop-place.copies.items c.loop-place.place c.index-rows-place.result c.in_ok-to_vec.field-0 c.push.new.self.items c.in_ok-push.ensures.items (search rules) (search rules) (omega (arith, c.loop-place-test.true)) c.loop-place.invariant
