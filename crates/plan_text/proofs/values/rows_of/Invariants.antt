use Rattle.std.proofs.Common.{◌≡◌, ◌++◌, drop}
use Rattle.shop_base.specs.Vectors.{lists_of}
use Rattle.toml.specs.View.{items_view}
use Rattle.plan_text.specs.Listing.{row_faults, each_faults}
use Rattle.plan_text.specs.Reading.{numbers_in, each_item}
use Rattle.plan_text.proofs.values.rows_of.Given as goal

abbrev pub invariant-loop-row : goal.invariant-loop-row
invariant-loop-row l = record {
  faults : each_faults row_faults l.row (items_view (drop l.row l.items)) ≡ each_faults row_faults 0 (items_view l.items);
  rows : lists_of l.rows.items ++ each_item numbers_in (items_view (drop l.row l.items)) ≡ each_item numbers_in (items_view l.items);
}
