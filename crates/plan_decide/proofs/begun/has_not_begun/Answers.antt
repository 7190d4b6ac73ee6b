use Rattle.std.proofs.Common.{arith}
use Rattle.plan_decide.proofs.Beginnings.{not_begun_exact}
use Rattle.plan_decide.proofs.begun.has_not_begun.Goals as goal

pub returns : goal.returns
returns g c =
    let r = c.args.rest.now in
    not_begun_exact r.plan r.cell r.present c.are_awaited.result c.shaped-plan.ensures.well_shaped c.cell.ensures.rest.reached (omega (arith, c.if-present-gt0.false, c.present-present.ensures.present))
    (rw (c.cell.ensures.plan, c.cell.ensures.cell) at c.are_awaited.ensures)
