use Rattle.std.proofs.Common.{length, ap, arith, is_some}
use Rattle.std.proofs.lemmas.List.{length-map}
use Rattle.shop_base.proofs.Counting.{count_within}
use Rattle.run_pruning.specs.Staying.{stays}
use Rattle.run_pruning.specs.Numbers.{marks_of}
use Rattle.run_pruning.proofs.kept_jobs.KeptJobs.number_behind.Goals as goal

pub overflow_add-result : goal.overflow_add-result
overflow_add-result c =
    let numbers = c.self.inside.numbers.items in
    omega (
      arith,
      c.ranges.job.fits,
      c.if-job-were.false,
      c.len-were.ensures.count,
      ap length c.self.view_is,
      length-map numbers (λ n. is_some n),
      c.self.invariant.all,
      count_within (stays (marks_of numbers)) (length numbers),
    )
