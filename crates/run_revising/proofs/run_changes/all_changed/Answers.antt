use Rattle.std.proofs.Common.{rules, ◌-◌, ◌<◌, List, arith, length, take, drop, subst, sym}
use Rattle.std.proofs.lemmas.List.{length-drop}
use Rattle.shop_base.specs.Report.{IsNextMoment}
use Rattle.cell_tables.specs.Events.{events_of}
use Rattle.plan_revise.specs.declared.change.Change.{Change}
use Rattle.run_revising.specs.RunChanges.{unchanged, IsReasonNotMade}
use Rattle.run_revising.specs.Parts.{IsPartLength, IsPartMade}
use Rattle.run_revising.proofs.PartsMade.{part_is, part_some, made_first, made_next, further_reason, place_behind, left_is, sound_up_to}
use Rattle.run_revising.proofs.run_changes.all_changed.Goals as goal

pub part_changed-requires-clause-part : goal.part_changed-requires-clause-part
part_changed-requires-clause-part g c = part_is c.args.changes.now c.part_length-done.result c.part_length-done.ensures

pub loop-done-init : goal.loop-done-init
loop-done-init g c = rw c.present-present.ensures.present
    (made_first c.args.plant c.args.rest.now.present (unchanged c.args.rest.now.plan (events_of c.args.entries.items)) c.args.changes.now c.part_length-done.result c.in_ok-run.run'.shaped (events_of c.in_ok-run.run'.entries.items)
    c.part_length-done.ensures c.in_ok-run.ensures.made)

pub next_part_changed-requires-clause-run : goal.next_part_changed-requires-clause-run
next_part_changed-requires-clause-run g c =
    let r = c.args.rest.now in
    let moment = subst (λ t. IsNextMoment r.cell t) (sym c.present-present.ensures.present) c.present-present.ensures.moment in
    (sound_up_to r.plan (events_of c.args.entries.items) r.cell c.args.plant c.present-present.result c.shaped-plan.ensures.well_shaped c.requires.replayed.run c.requires.replayed.cell moment c.requires.plant
    c.args.changes.now c.loop-done.done c.loop-done.run.shaped (events_of c.loop-done.run.entries.items) c.loop-done.invariant c.loop-done-test.true).run

pub next_part_changed-requires-clause-moment : goal.next_part_changed-requires-clause-moment
next_part_changed-requires-clause-moment g c =
    let r = c.args.rest.now in
    let moment = subst (λ t. IsNextMoment r.cell t) (sym c.present-present.ensures.present) c.present-present.ensures.moment in
    (sound_up_to r.plan (events_of c.args.entries.items) r.cell c.args.plant c.present-present.result c.shaped-plan.ensures.well_shaped c.requires.replayed.run c.requires.replayed.cell moment c.requires.plant
    c.args.changes.now c.loop-done.done c.loop-done.run.shaped (events_of c.loop-done.run.entries.items) c.loop-done.invariant c.loop-done-test.true).moment

pub next_part_changed-requires-clause-plant : goal.next_part_changed-requires-clause-plant
next_part_changed-requires-clause-plant g c =
    let r = c.args.rest.now in
    let moment = subst (λ t. IsNextMoment r.cell t) (sym c.present-present.ensures.present) c.present-present.ensures.moment in
    (sound_up_to r.plan (events_of c.args.entries.items) r.cell c.args.plant c.present-present.result c.shaped-plan.ensures.well_shaped c.requires.replayed.run c.requires.replayed.cell moment c.requires.plant
    c.args.changes.now c.loop-done.done c.loop-done.run.shaped (events_of c.loop-done.run.entries.items) c.loop-done.invariant c.loop-done-test.true).is_plant

pub next_part_changed-requires-clause-part : goal.next_part_changed-requires-clause-part
next_part_changed-requires-clause-part g c = part_is (take (length c.args.changes.now - c.loop-done.done) (drop c.loop-done.done c.args.changes.now)) c.part_length-length.result c.part_length-length.ensures

pub placed_behind-requires : goal.placed_behind-requires
placed_behind-requires g c =
    let answered = subst (λ (cs : List Change). IsReasonNotMade c.args.plant c.present-present.result (unchanged c.loop-done.run.shaped (events_of c.loop-done.run.entries.items)) (take c.part_length-length.result cs) c.in-Err.answer)
    (left_is c.args.changes.now c.loop-done.done) c.in-Err.ensures.refused in
    place_behind c.args.plant c.present-present.result (unchanged c.loop-done.run.shaped (events_of c.loop-done.run.entries.items)) c.args.changes.now c.loop-done.done c.part_length-length.result c.in-Err.answer
    c.loop-done-test.true (search rules) answered

pub returns-in-Err-clause-refused : goal.returns-in-Err-clause-refused
returns-in-Err-clause-refused g c =
    let r = c.args.rest.now in
    let answered = subst (λ (cs : List Change). IsReasonNotMade c.args.plant c.present-present.result (unchanged c.loop-done.run.shaped (events_of c.loop-done.run.entries.items)) (take c.part_length-length.result cs) c.in-Err.answer)
    (left_is c.args.changes.now c.loop-done.done) c.in-Err.ensures.refused in
    rw (c.placed_behind.ensures, sym c.present-present.ensures.present)
    (further_reason c.args.plant c.present-present.result (unchanged r.plan (events_of c.args.entries.items)) c.args.changes.now c.loop-done.done c.part_length-length.result c.loop-done.run.shaped (events_of c.loop-done.run.entries.items)
    c.in-Err.answer c.loop-done.invariant c.loop-done-test.true answered)

pub loop-done-smaller : goal.loop-done-smaller
loop-done-smaller g c =
    let left = subst (λ (cs : List Change). IsPartLength cs c.part_length-length.result) (left_is c.args.changes.now c.loop-done.done) c.part_length-length.ensures in
    let some : 0 < c.part_length-length.result = part_some (drop c.loop-done.done c.args.changes.now) c.part_length-length.result left (omega (arith, c.loop-done-test.true, length-drop c.loop-done.done c.args.changes.now)) in
    omega (arith, some, c.loop-done-test.true)

pub loop-done-preserved : goal.loop-done-preserved
loop-done-preserved g c =
    let r = c.args.rest.now in
    let left = subst (λ (cs : List Change). IsPartLength cs c.part_length-length.result) (left_is c.args.changes.now c.loop-done.done) c.part_length-length.ensures in
    let made = subst (λ (cs : List Change). IsPartMade c.args.plant c.present-present.result (unchanged c.loop-done.run.shaped (events_of c.loop-done.run.entries.items)) (take c.part_length-length.result cs) c.in-Ok.next.shaped (events_of c.in-Ok.next.entries.items))
    (left_is c.args.changes.now c.loop-done.done) c.in-Ok.ensures.made in
    made_next c.args.plant c.present-present.result (unchanged r.plan (events_of c.args.entries.items)) c.args.changes.now c.loop-done.done c.part_length-length.result c.loop-done.run.shaped (events_of c.loop-done.run.entries.items)
    c.in-Ok.next.shaped (events_of c.in-Ok.next.entries.items) c.loop-done.invariant c.loop-done-test.true left made
