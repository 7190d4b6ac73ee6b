use Rattle.std.proofs.Common.{sym, arith}
use Rattle.cell_tables.proofs.Reaching.{recast_reached}
use Rattle.cell_tables.proofs.rest.Rest.recast.Goals as goal

-- a run ends with the new cell, whose last moment is that of the old one
pub invariant_of-result : goal.invariant_of-result
invariant_of-result g c =
    let recast = rw (sym c.in-Ok.ensures.plan) at c.in-Ok.ensures.recast in
    record {
      reached = recast_reached _ _ _ _ c.shaped-plan.ensures.well_shaped c.shaped-other.ensures.well_shaped c.self.invariant.reached recast;
      moment = record {
        in_order = omega (arith, recast.carried.last_same, c.self.invariant.moment.in_order);
        in_range = c.self.invariant.moment.in_range;
      };
    }
