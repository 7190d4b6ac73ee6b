use Rattle.std.proofs.Common.{◌≡◌, ◌++◌, drop}
use Rattle.run_revising.specs.NextRuns.{numbers_kept}
use Rattle.run_revising.proofs.next.numbers_kept.Given as goal

-- the numbers so far, and those of the jobs that are left, are all that stay
abbrev pub invariant-loop-job : goal.invariant-loop-job
invariant-loop-job l = l.numbers.items ++ numbers_kept l.job (drop l.job l.kept) ≡ numbers_kept 0 l.kept
