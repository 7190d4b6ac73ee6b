use Rattle.std.proofs.Common.{◌≡◌, ◌++◌, drop}
use Rattle.std.specs.List.{flat_map}
use Rattle.byte_streams.specs.Sinks.{AllBut}
use Rattle.event_lines.specs.EventLines.{order_line}
use Rattle.cell_drive.proofs.replies.put_orders.Given as goal

abbrev pub invariant-loop-order : goal.invariant-loop-order
invariant-loop-order g l = record {
  so_far : AllBut (g.W.Sink.written l.initial.writer) (g.W.Sink.written l.writer) (flat_map (λ o. l.prefix ++ order_line o) l.orders)
      (flat_map (λ o. l.prefix ++ order_line o) (drop l.order-index l.orders));
  unfailed : g.W.Sink.failed l.writer ≡ g.W.Sink.failed l.initial.writer;
}
