use Rattle.std.proofs.Common.{◌≡◌, ◌≤◌, take}
use Rattle.shop_base.specs.Ends.{reports_in}
use Rattle.cell_tables.specs.Events.{events_of}
use Rattle.run_log.proofs.auditing.report_count.Given as goal

abbrev pub invariant-loop-entry : goal.invariant-loop-entry
invariant-loop-entry l = record {
  counted : l.count ≡ reports_in (events_of (take l.entry-index l.entries));
  few : l.count ≤ l.entry-index;
}
