use Rattle.std.proofs.Common.{ap, subst, ◌∙◌, arith}
use Rattle.shop_base.specs.Plan.{PlannedShop}
use Rattle.cell_control.specs.DueMoments.{AreDueMoments}
use Rattle.cell_drive.proofs.FollowedEvents.{one_more_happened}
use Rattle.cell_drive.proofs.lateness.follow_events.Goals as goal

pub loop-entry-preserved : goal.loop-entry-preserved
loop-entry-preserved g c =
    let p = c.args.cell.plan in
    let inv = c.loop-entry.invariant in
    let new = c.follow_event.new.cell in
    record {
      happened = one_more_happened p c.loop-entry.cell.plan c.args.cell.cell c.loop-entry.cell.cell new.cell c.args.entries.now c.loop-entry.entry-index _ c.loop-entry.late.items
          c.push_reserved.new.self.items c.follow_event.result c.loop-entry-test.true inv.plan inv.happened c.follow_event.ensures.late (ap (λ x. x.cell) c.follow_event.ensures.after) c.push_reserved.ensures.items;
      plan = ap (λ x. x.plan) c.follow_event.ensures.after ∙ inv.plan;
      due_moments = subst (λ (q : PlannedShop). AreDueMoments q new.cell (g.D.Dues.dues c.follow_event.new.dues)) inv.plan c.follow_event.ensures.due_moments;
      len = omega (arith, c.push_reserved.ensures.len, inv.len);
      capacity = omega (arith, c.push_reserved.ensures.capacity, inv.capacity);
    }
