use Rattle.std.proofs.Common.{◌≡◌, drop}
use Rattle.shop_base.specs.Run.{AreEvents, after_all, ends_in}
use Rattle.cell_tables.specs.Events.{events_of}
use Rattle.run_revising.proofs.replaying.at_the_end.Given as goal

-- the entries that are left can happen from here on, and lead to the end of the run
abbrev pub invariant-loop-entry : goal.invariant-loop-entry
invariant-loop-entry l = record {
  basis : l.cell.basis ≡ l.fn.begun.basis;
  plan : l.cell.plan ≡ l.fn.begun.plan;
  left : AreEvents l.fn.begun.plan l.cell.cell (events_of (drop l.entry-index l.entries));
  ends : after_all l.fn.begun.plan l.cell.cell (events_of (drop l.entry-index l.entries)) ≡ ends_in l.fn.begun.plan (events_of l.entries);
}
