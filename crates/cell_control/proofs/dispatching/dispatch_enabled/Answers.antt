use Rattle.std.proofs.Common.{◌≡◌, ap, sym, subst, ◌∙◌, arith, refl}
use Rattle.shop_base.specs.{Cell.Cell, Move.after_move}
use Rattle.shop_base.proofs.{CellFacts.ready_count-le, ReadyCount.after_move-ready_count}
use Rattle.cell_tables.specs.PlannedCell.{PlannedCell}
use Rattle.cell_control.specs.Sequences.{IsSettling}
use Rattle.cell_control.proofs.{Sequences.{first_at, settling_begins, settled_at_rest}, Sequences.settling_more}
use Rattle.cell_control.proofs.dispatching.dispatch_enabled.Goals as goal

pub loop-job-init : goal.loop-job-init
loop-job-init g c =
    let v = c.args.cell.now in (
      settling_begins v.plan v.cell c.args.at c.args.orders.now c.requires.moment c.requires.empty (omega (arith, c.requires.room, ready_count-le v.plan v.cell)),
      refl,
    )

pub make_move-order-requires-clause-can : goal.make_move-order-requires-clause-can
make_move-order-requires-clause-can g c =
    let v = c.loop-job.cell in
    (first_at v.plan v.cell c.args.at c.in-Some.job c.shaped-plan.ensures.sound c.loop-job.invariant.0.moment c.in-Some.ensures).can

pub push_reserved-requires : goal.push_reserved-requires
push_reserved-requires g c =
    let v = c.loop-job.cell in
    let first = first_at v.plan v.cell c.args.at c.in-Some.job c.shaped-plan.ensures.sound c.loop-job.invariant.0.moment c.in-Some.ensures in (
      omega arith,
      omega (
        arith,
        c.loop-job.invariant.0.moving.room,
        after_move-ready_count v.plan v.cell c.in-Some.job c.args.at c.shaped-plan.ensures.well_shaped c.shaped-plan.ensures.sound first.can,
      ),
    )

pub loop-job-smaller : goal.loop-job-smaller
loop-job-smaller g c =
    let v = c.loop-job.cell in
    let first = first_at v.plan v.cell c.args.at c.in-Some.job c.shaped-plan.ensures.sound c.loop-job.invariant.0.moment c.in-Some.ensures in
    rw c.make_move-order.ensures.moved
    (omega (arith, after_move-ready_count v.plan v.cell c.in-Some.job c.args.at c.shaped-plan.ensures.well_shaped c.shaped-plan.ensures.sound first.can))

pub loop-job-preserved : goal.loop-job-preserved
loop-job-preserved g c =
    let v = c.loop-job.cell in
    let new = c.make_move-order.new.self in
    let first = first_at v.plan v.cell c.args.at c.in-Some.job c.shaped-plan.ensures.sound c.loop-job.invariant.0.moment c.in-Some.ensures in
    let moved : new.cell ≡ after_move v.plan v.cell c.in-Some.job c.args.at = ap (λ x. x.cell) c.make_move-order.ensures.moved in (
      subst (λ p. IsSettling p c.args.cell.now.cell c.args.at c.args.orders.now.capacity new.cell c.push_reserved.new.self)
          (sym (ap (λ x. x.plan) c.make_move-order.ensures.moved))
          (settling_more v.plan c.args.cell.now.cell c.args.at c.args.orders.now.capacity v.cell new.cell c.loop-job.orders c.push_reserved.new.self c.in-Some.job c.make_move-order.result
          c.loop-job.invariant.0 first c.shaped-plan.ensures.well_shaped c.shaped-plan.ensures.sound c.make_move-order.ensures.order moved
          c.push_reserved.ensures.items c.push_reserved.ensures.capacity),
      c.make_move-order.ensures.moved ∙ ap (λ (x : PlannedCell g.row.P.Denot). let w : PlannedCell g.row.P.Denot = record x { cell = after_move v.plan v.cell c.in-Some.job c.args.at } in w) c.loop-job.invariant.1
          ∙ ap (λ (y : Cell). let w : PlannedCell g.row.P.Denot = record c.args.cell.now { cell = y } in w) (sym moved),
    )

pub returns-clause-settled : goal.returns-clause-settled
returns-clause-settled g c =
    rw (ap (λ x. x.plan) c.loop-job.invariant.1) at
    (settled_at_rest c.loop-job.cell.plan c.args.cell.now.cell c.args.at c.args.orders.now.capacity c.loop-job.cell.cell c.loop-job.orders c.loop-job.invariant.0 c.in_default.ensures)
