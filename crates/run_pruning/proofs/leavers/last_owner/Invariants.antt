use Rattle.std.proofs.Common.{◌≡◌, drop, replicate, None}
use Rattle.cell_tables.specs.Events.{events_of}
use Rattle.run_pruning.specs.PrunedEvents.{last_owner}
use Rattle.run_pruning.proofs.leavers.last_owner.Given as goal

-- the entries that are left give the whole
abbrev pub invariant-loop-entry : goal.invariant-loop-entry
invariant-loop-entry l = last_owner l.last l.left (events_of (drop l.entry-index l.entries)) ≡ last_owner None (replicate l.machines 0) (events_of l.entries)
