use Rattle.std.proofs.Common.{◌≡◌, ◌++◌, drop}
use Rattle.cell_tables.specs.Events.{events_of}
use Rattle.run_pruning.specs.PrunedEvents.{pruned_events}
use Rattle.run_pruning.specs.PruningLaw.{pruned_run}
use Rattle.run_pruning.proofs.pruning.prune_entries.Given as goal

-- the entries so far, and those that are left, give the whole
abbrev pub invariant-loop-entry : goal.invariant-loop-entry
invariant-loop-entry l =
    events_of l.left.items ++ pruned_events l.kept l.leavers (events_of (drop l.entry-index l.entries)) ≡ pruned_run l.kept l.shaped (events_of l.entries)
