use Rattle.std.proofs.Common.{sym}
use Rattle.cell_tables.proofs.Reaching.{recast_reached}
use Rattle.cell_control.proofs.handing.take_over.Goals as goal

pub rest_from-requires-clause-reached : goal.rest_from-requires-clause-reached
rest_from-requires-clause-reached g c =
    let recast = rw (sym c.in-Ok.ensures.plan) at c.in-Ok.ensures.recast in
    recast_reached _ _ _ _ c.shaped-plan.ensures.well_shaped c.shaped-other.ensures.well_shaped c.requires recast
