use Rattle.std.proofs.Common.{◌≡◌, slice_index_or, None, map}
use Rattle.std.specs.List.{range_with_len}
use Rattle.run_picture.specs.Late.{late_leaving}
use Rattle.run_picture.proofs.late_leaving.late_leavings.Given as goal

abbrev pub invariant-loop-job : goal.invariant-loop-job
invariant-loop-job l = l.late.items ≡ map (λ j. late_leaving l.shaped j (slice_index_or l.leavings j None)) (range_with_len 0 l.job)
