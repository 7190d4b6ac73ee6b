use Rattle.std.proofs.Common.{ℕ, ◌+◌, ◌++◌, ◌<◌, List, Vec, Global, ap, ◌∙◌, arith, length, drop, sym}
use Rattle.run_pruning.proofs.Marking.{number_stays}
use Rattle.run_revising.specs.NextRuns.{numbers_kept}
use Rattle.run_revising.proofs.Numbering.{one_that_stays, one_that_goes, all_numbered}
use Rattle.run_revising.proofs.next.numbers_kept.Goals.{then-is_some+in_ok-push, else-is_some}
use Rattle.run_revising.proofs.next.numbers_kept.Goals as goal

pub loop-job-preserved : goal.loop-job-preserved
loop-job-preserved c =
    let items : Vec ℕ Global → List ℕ = λ v. v.items in
    let marks = c.args.kept.now in
    let job = c.loop-job.job in
    let all = numbers_kept 0 marks in
    let inside : job < length marks = omega (arith, c.loop-job-test.true, c.len-job-end.ensures.count) in
    elim c.if-is_some.branch [
      | then-is_some+in_ok-push w ↦ ap (λ (ns : List ℕ). ns ++ numbers_kept (job + 1) (drop (job + 1) marks)) (ap items w.numbers-is ∙ w.in_ok-push.ensures.items)
          ∙ one_that_stays c.loop-job.numbers.items all marks job c.loop-job.invariant inside
          (number_stays marks job c.number_of.result _ c.number_of.ensures (sym c.is_some.ensures ∙ w.if-is_some.true))
      | else-is_some w ↦ ap (λ (ns : List ℕ). ns ++ numbers_kept (job + 1) (drop (job + 1) marks)) (ap items w.numbers-is)
          ∙ one_that_goes c.loop-job.numbers.items all marks job c.loop-job.invariant inside
          (number_stays marks job c.number_of.result _ c.number_of.ensures (sym c.is_some.ensures ∙ w.if-is_some.false))
    ]

pub returns : goal.returns
returns c =
    all_numbered c.loop-job.numbers.items (numbers_kept 0 c.args.kept.now) c.args.kept.now c.loop-job.job c.loop-job.invariant
    (omega (arith, c.loop-job-test.false, c.len-job-end.ensures.count))
