use Rattle.std.proofs.Common.{◌-◌, ℕ, List, get_or, slice_index_or, ap, arith}
use Rattle.shop_base.proofs.Sizes.{place_job}
use Rattle.cell_tables.proofs.Seats.{free_at_first, free_where_left}
use Rattle.cell_tables.proofs.work_cell.WorkCell.holder.Goals as goal

pub returns-then-entered-eq0 : goal.returns-then-entered-eq0
returns-then-entered-eq0 g c =
    let v = c.args.self.now in
    free_at_first v.plan v.cell c.args.machine c.entered-entered.result c.shaped-plan.ensures.well_shaped c.shaped-plan.ensures.sound c.entered-entered.ensures.count c.if-entered-eq0.true

pub is_on-requires : goal.is_on-requires
is_on-requires g c =
    let v = c.args.self.now in
    rw c.order_of.ensures (place_job v.plan c.shaped-plan.ensures.well_shaped c.args.machine (c.entered-entered.result - 1) c.requires
    (omega (arith, c.entered-entered.ensures.few, c.if-entered-eq0.false)))

pub returns-else-is_on : goal.returns-else-is_on
returns-else-is_on g c =
    let v = c.args.self.now in
    free_where_left v.plan v.cell c.args.machine c.entered-entered.result (slice_index_or c.order_of.result.now (c.entered-entered.result - 1) 0)
    c.shaped-plan.ensures.well_shaped c.shaped-plan.ensures.sound c.entered-entered.ensures.count c.if-entered-eq0.false
    (ap (λ (o : List ℕ). get_or o (c.entered-entered.result - 1) 0) c.order_of.ensures) λ on. cc (c.if-is_on.ensures.1 on)
