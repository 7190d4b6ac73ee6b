use Rattle.std.proofs.Common.{arith, refl, sym, subst, ◌∙◌}
use Rattle.std.proofs.lemmas.Bool.{false≢true}
use Rattle.shop_base.specs.{Plan.IsWellShaped, Vectors.lists_of}
use Rattle.cell_tables.specs.Reordered.{reordered}
use Rattle.cell_tables.proofs.{Reorders.rest_on, SameFronts.{begins_all, new_is, put_by}}
use Rattle.cell_tables.proofs.rest_reordering.reorder.Goals as goal

pub returns-then-not-begin : goal.returns-then-not-begin
returns-then-not-begin c = (
  refl,
  refl,
  refl,
  λ fits begins. false≢true (sym c.if-not-begin.true ∙ c.begin.ensures.1
      (rw (c.cell.ensures.plan, c.cell.ensures.cell, c.deref.ensures.value) (omega (arith, fits.counts.orders), λ m lt. begins m))),
)

pub of_parts-requires : goal.of_parts-requires
of_parts-requires c =
    let out = c.into_parts-shaped.ensures in
    let inn = c.into_parts-cell.ensures in
    let x = c.into_parts-cell.result.0 in
    let t = c.into_parts-shaped.result.1 in
    let orders = lists_of c.args.order.items in
    let old = c.into_parts-shaped.result.0 in
    let p = c.args.rest.plan in
    let cell = c.args.rest.cell in
    let is = new_is x t orders old c.in-Fits.shaped p cell out.plan out.cell out.sound out.basis c.in-Fits.ensures.0 inn.plan inn.cell in
    let fits : IsWellShaped (reordered p orders) = subst IsWellShaped is c.in-Fits.ensures.3 in
    let begins = begins_all p orders cell c.shaped-plan.ensures.well_shaped c.shaped-plan.ensures.sound fits
    (rw (c.cell.ensures.plan, c.cell.ensures.cell, c.deref.ensures.value) at (c.begin.ensures.0 c.if-not-begin.false)) in
    (put_by x t orders old c.in-Fits.shaped p cell out.plan out.cell out.sound out.basis c.in-Fits.ensures.0 inn.plan inn.cell fits begins).0

pub invariant_of-result : goal.invariant_of-result
invariant_of-result c =
    let out = c.into_parts-shaped.ensures in
    let inn = c.into_parts-cell.ensures in
    let x = c.into_parts-cell.result.0 in
    let t = c.into_parts-shaped.result.1 in
    let orders = lists_of c.args.order.items in
    let old = c.into_parts-shaped.result.0 in
    let p = c.args.rest.plan in
    let cell = c.args.rest.cell in
    let is = new_is x t orders old c.in-Fits.shaped p cell out.plan out.cell out.sound out.basis c.in-Fits.ensures.0 inn.plan inn.cell in
    let fits : IsWellShaped (reordered p orders) = subst IsWellShaped is c.in-Fits.ensures.3 in
    let begins = begins_all p orders cell c.shaped-plan.ensures.well_shaped c.shaped-plan.ensures.sound fits
    (rw (c.cell.ensures.plan, c.cell.ensures.cell, c.deref.ensures.value) at (c.begin.ensures.0 c.if-not-begin.false)) in
    rw c.of_parts.ensures (rest_on c.in-Fits.shaped p c.in-Fits.shaped orders cell _ c.args.rest.present _ c.shaped-plan.ensures.well_shaped fits inn.rest.reached inn.rest.moment begins is
    (put_by x t orders old c.in-Fits.shaped p cell out.plan out.cell out.sound out.basis c.in-Fits.ensures.0 inn.plan inn.cell fits begins).1 inn.present)

pub returns-in-Fits : goal.returns-in-Fits
returns-in-Fits c =
    let out = c.into_parts-shaped.ensures in
    let inn = c.into_parts-cell.ensures in
    let x = c.into_parts-cell.result.0 in
    let t = c.into_parts-shaped.result.1 in
    let orders = lists_of c.args.order.items in
    let old = c.into_parts-shaped.result.0 in
    let p = c.args.rest.plan in
    let cell = c.args.rest.cell in
    let is = new_is x t orders old c.in-Fits.shaped p cell out.plan out.cell out.sound out.basis c.in-Fits.ensures.0 inn.plan inn.cell in
    let fits : IsWellShaped (reordered p orders) = subst IsWellShaped is c.in-Fits.ensures.3 in
    let begins = begins_all p orders cell c.shaped-plan.ensures.well_shaped c.shaped-plan.ensures.sound fits
    (rw (c.cell.ensures.plan, c.cell.ensures.cell, c.deref.ensures.value) at (c.begin.ensures.0 c.if-not-begin.false)) in
    rw c.of_parts.ensures (
      is,
      (put_by x t orders old c.in-Fits.shaped p cell out.plan out.cell out.sound out.basis c.in-Fits.ensures.0 inn.plan inn.cell fits begins).1,
      inn.present,
      sym inn.plan ∙ out.plan ∙ sym out.basis ∙ c.in-Fits.ensures.1,
      c.in-Fits.ensures.3,
      rw is begins,
    )
