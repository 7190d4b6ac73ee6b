use Rattle.std.proofs.{Common.{◌+◌, ◌++◌, drop, ◌∙◌, arith}, lemmas.Result.err_from_is_err_and}
use Rattle.std.specs.List.{flat_map}
use Rattle.shop_base.specs.declared.move_order.MoveOrder.{MoveOrder}
use Rattle.event_lines.specs.EventLines.{order_line}
use Rattle.byte_streams.proofs.Written.{AllBut-more, TookPart-rest}
use Rattle.cell_drive.proofs.CellTexts.{next_line}
use Rattle.cell_drive.proofs.replies.put_orders.Goals as goal

pub returns-in_err-put_event-clause-wrote : goal.returns-in_err-put_event-clause-wrote
returns-in_err-put_event-clause-wrote g c =
    let i = c.loop-order.order-index in
    let line = λ (o : MoveOrder). c.args.prefix.now ++ order_line o in
    let p = err_from_is_err_and c.from_residual.result c.from_residual.ensures.1 in
    rw p.1 (
      c.in_err-put_event.ensures.wrote.0,
      TookPart-rest _ _ _ _ _ _ (flat_map line (drop (i + 1) c.args.orders.now)) c.loop-order.invariant.so_far c.in_err-put_event.ensures.wrote.1
          (next_line line c.args.orders.now i _ (omega arith)),
    )

pub loop-order-preserved : goal.loop-order-preserved
loop-order-preserved g c =
    let i = c.loop-order.order-index in
    let line = λ (o : MoveOrder). c.args.prefix.now ++ order_line o in
    record {
      so_far = AllBut-more _ _ _ _ _ _ _ c.loop-order.invariant.so_far c.in_ok-put_event.ensures.wrote
          (next_line line c.args.orders.now i _ (omega arith));
      unfailed = c.in_ok-put_event.ensures.unfailed ∙ c.loop-order.invariant.unfailed;
    }
