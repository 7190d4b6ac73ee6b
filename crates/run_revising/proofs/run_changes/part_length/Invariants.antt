use Rattle.std.proofs.Common.{take}
use Rattle.run_revising.specs.Holding.{HoldNone}
use Rattle.run_revising.proofs.run_changes.part_length.Given as goal

-- none of the changes so far holds a machine
abbrev pub invariant-loop-place : goal.invariant-loop-place
invariant-loop-place l = HoldNone (take l.place l.changes)
