use Rattle.std.proofs.Common.{◌≡◌, ◌+◌, ◌++◌, map, take, vec_len, vec_capacity}
use Rattle.cell_tables.specs.declared.entry.Entry.TheVariants.{Order as OrderEntry}
use Rattle.run_log.proofs.run_log.push_orders.Given as goal

abbrev pub invariant-loop-order : goal.invariant-loop-order
invariant-loop-order l = record {
  items : l.entries.items ≡ l.initial.entries.items ++ map OrderEntry (take l.order-index l.orders);
  len : vec_len l.entries ≡ vec_len l.initial.entries + l.order-index;
  capacity : vec_capacity l.entries ≡ vec_capacity l.initial.entries;
}
