use Rattle.std.proofs.Common.{◌∙◌}
use Rattle.plan_verifier.proofs.Soon.{node_soon}
use Rattle.plan_schedule.proofs.calendar.Calendar.new.Goals as goal

pub invariant_of-result : goal.invariant_of-result
invariant_of-result g c =
    let r = c.args.rest.now in
    let ordered = c.requires.ordered in
    let range = c.present-present.ensures.moment.in_range in
    let sound = rw (c.cell-cell.ensures.plan, c.cell-cell.ensures.cell) at c.shaped.ensures.sound in
    let cleanings = rw c.cell-cell.ensures.cell at c.cleanings_in_range.ensures in (
      c.in_ok-graph.ensures.graph.plan ∙ c.shaped.ensures.plan,
      rw (c.cell-cell.ensures.plan, c.cell-cell.ensures.cell, c.present-present.ensures.present) (record {
        ranks = ordered.ranks;
        dues = c.requires.deadlines;
        present = range;
        soon = λ v node ahead. node_soon r.plan r.cell r.present sound ordered.schedule.shaped cleanings range c.args.times.now ordered v node ahead;
      }),
    )
