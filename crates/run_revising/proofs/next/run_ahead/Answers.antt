use Rattle.std.proofs.Common.{List, arith, ap, ◌∙◌, subst, sym}
use Rattle.shop_base.specs.Plan.{jobs}
use Rattle.cell_tables.specs.Events.{events_of}
use Rattle.plan_revise.specs.declared.change.Change.{Change}
use Rattle.run_revising.specs.RunChanges.{unchanged, IsReasonNotMade}
use Rattle.run_revising.proofs.Plants.{plant_is_of, plant_left}
use Rattle.run_revising.proofs.Renumbers.{at_one_of_all, place_within}
use Rattle.run_revising.proofs.next.run_ahead.Goals as goal

pub changed_run-requires-clause-plant : goal.changed_run-requires-clause-plant
changed_run-requires-clause-plant g c =
    let kept = c.in_ok-shaped.field-0.kept in
    let count = c.in_ok-shaped.ensures.is_left.choice.count ∙ ap jobs c.cell.ensures.plan in
    rw (c.in_ok-rest.ensures, c.in_ok-shaped.ensures.shaped, c.cell.ensures.plan)
    (plant_left c.args.rest.now.plan kept c.args.plant count (plant_is_of c.args.rest.now.plan c.args.plant c.requires.plant))

pub returns-in-Some-clause-placed : goal.returns-in-Some-clause-placed
returns-in-Some-clause-placed g c =
    omega (arith, place_within c.in_ok-shaped.field-0.kept c.args.changes.now 0 c.in-Some.change (sym c.in_ok-changes.ensures.left_out ∙ c.in-Some.is))

pub returns-in-Err-clause-placed : goal.returns-in-Err-clause-placed
returns-in-Err-clause-placed g c =
    let r = c.in_ok-rest.rest in
    let start = unchanged r.plan (events_of c.in_ok-shaped.field-0.entries.items) in
    at_one_of_all c.in_ok-shaped.field-0.kept c.args.changes.now c.args.plant r.present start c.in-Err.answer
    (subst (λ (changes : List Change). IsReasonNotMade c.args.plant r.present start changes c.in-Err.answer)
    (c.deref-2.ensures.value ∙ c.in_ok-changes.ensures.changes) c.in-Err.ensures.refused)
