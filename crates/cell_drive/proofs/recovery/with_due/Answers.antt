use Rattle.std.proofs.Common.{◌++◌, List, map, take, length, ap, subst, ◌∙◌, arith}
use Rattle.std.specs.Prelude.{OnOk}
use Rattle.shop_base.specs.declared.move_order.MoveOrder.{MoveOrder}
use Rattle.cell_tables.specs.{declared.entry.Entry.Entry, declared.entry.Entry.TheVariants.Order as OrderEntry}
use Rattle.run_log.specs.Log.{Notes}
use Rattle.cell_drive.proofs.Recovering.{done_unless, room_for_due, recovered_run, replayed_first}
use Rattle.cell_drive.proofs.recovery.with_due.Goals as goal

pub unwrap-requires : goal.unwrap-requires
unwrap-requires c =
    let room = room_for_due c.args.controller c.args.log.entries c.args.late.items c.requires.run c.requires.begun c.requires.shaped in
    let orders = ap (λ (os : List MoveOrder). length os) c.orders.ensures in
    let reserved = c.requires.reserved in
    done_unless _ (λ full. (let past = c.note_orders.ensures.full.0 full in omega (arith, past, room, orders, reserved)))

pub invariant_of-result : goal.invariant_of-result
invariant_of-result c =
    let notes : Notes c.args.log c.note_orders.new.self (map OrderEntry c.orders.result.now) = subst (λ r. OnOk r (Notes c.args.log c.note_orders.new.self (map OrderEntry c.orders.result.now))) c.unwrap.ensures c.note_orders.ensures.noted in (
      recovered_run c.args.controller c.args.log.entries c.args.late.items c.requires.run c.requires.begun c.note_orders.new.self c.requires.shaped c.shaped-plan.ensures.control
          (notes.entries ∙ ap (λ (os : List MoveOrder). c.args.log.entries ++ map OrderEntry os) c.orders.ensures) (notes.reserved ∙ c.requires.reserved) c.requires.late,
      c.requires.room,
    )

pub returns-clause-replayed : goal.returns-clause-replayed
returns-clause-replayed c =
    let notes : Notes c.args.log c.note_orders.new.self (map OrderEntry c.orders.result.now) = subst (λ r. OnOk r (Notes c.args.log c.note_orders.new.self (map OrderEntry c.orders.result.now))) c.unwrap.ensures c.note_orders.ensures.noted in
    ap (λ (es : List Entry). take (length c.args.late.items) es) (notes.entries ∙ ap (λ (os : List MoveOrder). c.args.log.entries ++ map OrderEntry os) c.orders.ensures)
    ∙ replayed_first c.args.controller c.args.log.entries c.args.late.items c.requires.run c.requires.begun c.requires.late

pub returns-clause-run : goal.returns-clause-run
returns-clause-run c =
    let notes : Notes c.args.log c.note_orders.new.self (map OrderEntry c.orders.result.now) = subst (λ r. OnOk r (Notes c.args.log c.note_orders.new.self (map OrderEntry c.orders.result.now))) c.unwrap.ensures c.note_orders.ensures.noted in
    recovered_run c.args.controller c.args.log.entries c.args.late.items c.requires.run c.requires.begun c.note_orders.new.self c.requires.shaped c.shaped-plan.ensures.control
    (notes.entries ∙ ap (λ (os : List MoveOrder). c.args.log.entries ++ map OrderEntry os) c.orders.ensures) (notes.reserved ∙ c.requires.reserved) c.requires.late
