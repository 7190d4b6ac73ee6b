use Rattle.std.proofs.Common.{◌+◌, ◌++◌, List, ℕ, ap, ◌∙◌, arith, replicate, true, false, drop}
use Rattle.std.proofs.lemmas.List.{length-replicate, get_or-replicate}
use Rattle.run_revising.specs.NextRuns.{numbers_kept}
use Rattle.run_revising.proofs.Numbering.{one_that_stays, all_numbered}
use Rattle.run_revising.proofs.next.all_numbers.Goals as goal

pub loop-job-preserved : goal.loop-job-preserved
loop-job-preserved c =
    let jobs = c.args.jobs in
    let job = c.loop-job.job in
    let marks = replicate jobs true in
    ap (λ (ns : List ℕ). ns ++ numbers_kept (job + 1) (drop (job + 1) marks)) c.in_ok-push.ensures.items
    ∙ one_that_stays c.loop-job.numbers.items (numbers_kept 0 marks) marks job c.loop-job.invariant (omega (arith, c.loop-job-test.true, length-replicate jobs true))
    (get_or-replicate jobs job true false c.loop-job-test.true)

pub returns : goal.returns
returns c =
    let marks = replicate c.args.jobs true in
    all_numbered c.loop-job.numbers.items (numbers_kept 0 marks) marks c.loop-job.job c.loop-job.invariant (omega (arith, c.loop-job-test.false, length-replicate c.args.jobs true))
