use Rattle.std.proofs.Common.{◌-◌, length}
use Rattle.cell_tables.specs.Events.{events_of}
use Rattle.run_revising.specs.RunChanges.{unchanged}
use Rattle.run_revising.proofs.PartsMade.{IsMadeUpTo}
use Rattle.run_revising.proofs.run_changes.all_changed.Given as goal

-- the changes so far make the plan and the run, of which it goes on
abbrev pub invariant-loop-done : goal.invariant-loop-done
invariant-loop-done g l = IsMadeUpTo l.plant l.present (unchanged l.rest.plan (events_of l.fn.entries.items)) l.changes l.done l.run.shaped (events_of l.run.entries.items)

abbrev pub decreases-loop-done : goal.decreases-loop-done
decreases-loop-done g l = length l.changes - l.done
