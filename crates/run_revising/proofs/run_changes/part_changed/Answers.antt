use Rattle.std.proofs.Common.{◌++◌, ◌-◌, inl, inr, ap, ◌∙◌, subst, refl}
use Rattle.shop_base.specs.Plan.{jobs}
use Rattle.shop_base.specs.Cell.{Cell}
use Rattle.cell_tables.specs.Events.{events_of}
use Rattle.plan_revise.specs.Revised.{IsRevisedWithin, IsReasonNotRevisedWithin}
use Rattle.run_revising.specs.Holding.{hold_events}
use Rattle.run_revising.specs.RunChanges.{unchanged}
use Rattle.run_revising.proofs.RunsChanged.{none_changes, hold_changes}
use Rattle.run_revising.proofs.PartsMade.{part_reason, held_inside, held_some_job}
use Rattle.run_revising.proofs.run_changes.part_changed.Goals as goal

pub returns-in-Err-clause-refused : goal.returns-in-Err-clause-refused
returns-in-Err-clause-refused g c =
    let r = c.args.rest.now in
    part_reason c.args.plant r.present r.plan (events_of c.args.entries.items) c.args.part.now c.in-Err.answer c.requires.part
    (subst (λ (x : Cell). IsReasonNotRevisedWithin r.plan x r.present c.args.plant c.args.part.now c.in-Err.answer) c.requires.replayed.cell c.in-Err.ensures.refused)

pub with_entry-requires-clause-inside : goal.with_entry-requires-clause-inside
with_entry-requires-clause-inside g c = held_inside c.args.rest.now.plan c.args.rest.now.cell c.args.rest.now.present c.args.plant c.args.part.now c.in-Some.machine c.in-Ok.shaped c.requires.plant c.in-Some.ensures c.in-Ok.ensures.revised

pub with_entry-requires-clause-some_job : goal.with_entry-requires-clause-some_job
with_entry-requires-clause-some_job g c = held_some_job c.args.rest.now.plan c.args.rest.now.cell c.args.rest.now.present c.args.plant c.args.part.now c.in-Some.machine c.in-Ok.shaped c.in-Some.ensures c.in-Ok.ensures.revised

pub returns-in_ok-with_entry-in-Some-clause-made :
    goal.returns-in_ok-with_entry-in-Some-clause-made
returns-in_ok-with_entry-in-Some-clause-made g c =
    let r = c.args.rest.now in
    let es = events_of c.args.entries.items in
    let all = hold_changes c.args.plant r.present (unchanged r.plan es) c.args.part.now c.in-Some.machine c.in-Ok.shaped c.in-Some.ensures
    (subst (λ (x : Cell). IsRevisedWithin r.plan x r.present c.args.plant c.args.part.now c.in-Ok.shaped) c.requires.replayed.cell c.in-Ok.ensures.revised) in
    let run = c.in_ok-with_entry-in-Some in
    let events_are = run.ensures.entries ∙ ap (λ (x : Cell). es ++ hold_events x c.in-Some.machine (jobs c.in-Ok.shaped - 1) r.present) c.requires.replayed.cell in
    inr (rw (run.ensures.shaped, events_are) all)

pub returns-in-None-clause-made : goal.returns-in-None-clause-made
returns-in-None-clause-made g c =
    let r = c.args.rest.now in
    inl (
      c.in-None.ensures,
      none_changes c.args.plant r.present (unchanged r.plan (events_of c.args.entries.items)) c.args.part.now c.in-Ok.shaped c.in-None.ensures
          (subst (λ (x : Cell). IsRevisedWithin r.plan x r.present c.args.plant c.args.part.now c.in-Ok.shaped) c.requires.replayed.cell c.in-Ok.ensures.revised),
      refl,
    )
