use Rattle.std.proofs.Common.{◌++◌, arith}
use Rattle.log_chapters.specs.Chapters.{number_lines}
use Rattle.log_chapters.proofs.Numbers.{numbers_more}
use Rattle.log_chapters.proofs.writing.push_numbers.Goals as goal

pub loop-job-preserved : goal.loop-job-preserved
loop-job-preserved c =
    let origins = c.args.origins.now in
    rw c.in_ok-push_number.ensures (numbers_more c.loop-job.text.items (c.args.text.now.items ++ number_lines 0 origins) origins c.loop-job.job _ (omega arith) c.loop-job.invariant)
