use Rattle.std.proofs.Common.{◌≡◌, ◌++◌, drop}
use Rattle.run_revising.specs.Renumbering.{renumbered_changes, first_left_out}
use Rattle.run_revising.proofs.renumbering.renumbered.Given as goal

-- the changes so far, and those that are left, are all up to the first that names a job that is left out
abbrev pub invariant-loop-place : goal.invariant-loop-place
invariant-loop-place l = record {
  changes : l.anew.items ++ renumbered_changes l.kept (drop l.place l.changes) ≡ renumbered_changes l.kept l.changes;
  first : first_left_out l.place l.kept (drop l.place l.changes) ≡ first_left_out 0 l.kept l.changes;
}
