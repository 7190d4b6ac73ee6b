use Rattle.shop_base.specs.Vectors.{lists_of}
use Rattle.cell_tables.proofs.{Reorders.rest_on, SameFronts.{new_is, put_by}}
use Rattle.cell_tables.proofs.rest_reordering.reorder_by.Goals as goal

pub of_parts-requires : goal.of_parts-requires
of_parts-requires c =
    let out = c.into_parts-shaped.ensures in
    let inn = c.into_parts-cell.ensures in
    (put_by c.into_parts-cell.result.0 c.into_parts-shaped.result.1 (lists_of c.args.order.items) c.into_parts-shaped.result.0 c.put_back.result c.args.rest.plan c.args.rest.cell
    out.plan out.cell out.sound out.basis c.put_back.ensures inn.plan inn.cell c.requires.shaped c.requires.begins).0

pub invariant_of-result : goal.invariant_of-result
invariant_of-result c =
    let out = c.into_parts-shaped.ensures in
    let inn = c.into_parts-cell.ensures in
    let x = c.into_parts-cell.result.0 in
    let t = c.into_parts-shaped.result.1 in
    let orders = lists_of c.args.order.items in
    let old = c.into_parts-shaped.result.0 in
    let new = c.put_back.result in
    let p = c.args.rest.plan in
    rw c.of_parts.ensures (rest_on new p new orders c.args.rest.cell _ c.args.rest.present _ c.shaped-plan.ensures.well_shaped c.requires.shaped inn.rest.reached inn.rest.moment c.requires.begins
    (new_is x t orders old new p c.args.rest.cell out.plan out.cell out.sound out.basis c.put_back.ensures inn.plan inn.cell)
    (put_by x t orders old new p c.args.rest.cell out.plan out.cell out.sound out.basis c.put_back.ensures inn.plan inn.cell c.requires.shaped c.requires.begins).1
    inn.present)

pub returns-clause-cell : goal.returns-clause-cell
returns-clause-cell c =
    let out = c.into_parts-shaped.ensures in
    let inn = c.into_parts-cell.ensures in
    rw c.of_parts.ensures (put_by c.into_parts-cell.result.0 c.into_parts-shaped.result.1 (lists_of c.args.order.items) c.into_parts-shaped.result.0 c.put_back.result c.args.rest.plan c.args.rest.cell
    out.plan out.cell out.sound out.basis c.put_back.ensures inn.plan inn.cell c.requires.shaped c.requires.begins).1
