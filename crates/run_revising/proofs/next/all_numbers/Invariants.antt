use Rattle.std.proofs.Common.{◌≡◌, ◌++◌, drop, replicate, true}
use Rattle.run_revising.specs.NextRuns.{numbers_kept}
use Rattle.run_revising.proofs.next.all_numbers.Given as goal

-- the numbers so far, and those that are left, are all
abbrev pub invariant-loop-job : goal.invariant-loop-job
invariant-loop-job l = l.numbers.items ++ numbers_kept l.job (drop l.job (replicate l.jobs true)) ≡ numbers_kept 0 (replicate l.jobs true)
