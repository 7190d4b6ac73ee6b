use Rattle.std.proofs.Common.{sym, subst}
use Rattle.plan_revise.specs.Answers.{ParsesFirst}
use Rattle.plan_revise.proofs.Written.{changes_more, first_reason_at}
use Rattle.plan_revise.proofs.Revisions.{becomes-revision}
use Rattle.plan_revise.proofs.draft.Draft.make_all.Goals as goal

pub loop-place-preserved : goal.loop-place-preserved
loop-place-preserved g c = record {
  made = changes_more c.args.run.now c.args.self.now c.args.changes.now c.loop-place.place c.loop-place.self c.make.new.self c.change_at-change.result c.change_at-change.ensures c.loop-place.invariant.made c.in-Ok.ensures.made;
  revision = becomes-revision c.args.run.now c.plant-plant.ensures.sound c.loop-place.self c.change_at-change.result c.make.new.self c.loop-place.invariant.revision c.in-Ok.ensures.made;
}

pub returns-in-Err-clause-refused : goal.returns-in-Err-clause-refused
returns-in-Err-clause-refused g c =
    subst (ParsesFirst c.args.run.now c.args.self.now c.args.changes.now) (sym c.refused_at.ensures)
    (first_reason_at c.args.run.now c.args.self.now c.args.changes.now c.loop-place.place c.loop-place.self c.change_at-change.result c.in-Err.refusal c.change_at-change.ensures c.loop-place.invariant.made c.in-Err.ensures.refused)
