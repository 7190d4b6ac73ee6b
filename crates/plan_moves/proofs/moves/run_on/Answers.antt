use Rattle.std.proofs.Common.{refl, ◌∙◌}
use Rattle.plan_moves.proofs.GoingOn.{runs_none, runs_more}
use Rattle.plan_moves.proofs.WentOn.{step_on_time}
use Rattle.plan_moves.proofs.moves.run_on.Goals as goal

pub next-init : goal.next-init
next-init g c = record { plan = refl; on_time = c.requires; runs = runs_none _ _ _ _ }

pub next-preserved : goal.next-preserved
next-preserved g c =
    let plan = c.next.invariant.plan in
    let answered = c.in-Ok.ensures.answered in
    let step = rw plan at answered.step in
    let cell = rw plan at answered.cell in
    let orders = rw plan at answered.orders in
    let next = rw plan at c.in-Some.ensures in
    let sound = rw plan at c.shaped-plan.ensures.control.sound in
    let shaped = rw plan at c.shaped-plan.ensures.control.ranks.shaped in
    let items = c.in_ok-extend_from_slice-in-Ok.ensures.items in
    record {
      plan = answered.planned ∙ plan;
      on_time = rw cell (step_on_time _ c.args.present c.next.controller.cell c.in-Some.report answered.movers shaped sound step next);
      runs = rw (cell, items) (runs_more _ c.args.present _ c.next.controller.cell _ _ c.orders.result.now c.in-Some.report answered.movers c.next.invariant.runs step next (c.orders.ensures ∙ orders));
    }
