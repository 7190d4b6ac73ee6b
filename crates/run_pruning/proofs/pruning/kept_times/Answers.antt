use Rattle.std.proofs.Common.{ℕ, ◌+◌, ◌++◌, ◌<◌, length, drop, Vec, Global, List, refl, sym, ap, ◌∙◌, arith}
use Rattle.run_pruning.specs.Staying.{staying}
use Rattle.run_pruning.proofs.Marking.{number_stays}
use Rattle.run_pruning.proofs.Walks.{staying_more, staying_without}
use Rattle.run_pruning.proofs.pruning.kept_times.Goals.{then-is_some+in_ok-push, else-is_some}
use Rattle.run_pruning.proofs.pruning.kept_times.Goals as goal

pub loop-job-preserved : goal.loop-job-preserved
loop-job-preserved c =
    let items : Vec ℕ Global → List ℕ = λ v. v.items in
    let marked : c.loop-job.job < length c.args.kept.now = omega (arith, c.loop-job-test.true, c.len-job-end.ensures.count) in
    let inside : c.loop-job.job < length c.args.times.now = omega (arith, marked, c.requires) in
    elim c.if-is_some.branch [
      | then-is_some+in_ok-push w ↦ staying_more c.args.kept.now c.args.times.now c.loop-job.left.items c.if-is_some.left.items (staying c.args.kept.now c.args.times.now) c.loop-job.job 0 _ marked inside
          (number_stays c.args.kept.now c.loop-job.job c.number_of.result _ c.number_of.ensures (sym c.is_some.ensures ∙ w.if-is_some.true)) refl
          (ap items w.left-is ∙ w.in_ok-push.ensures.items) c.loop-job.invariant
      | else-is_some w ↦ ap (λ xs. xs ++ staying (drop (c.loop-job.job + 1) c.args.kept.now) (drop (c.loop-job.job + 1) c.args.times.now)) (ap items w.left-is)
          ∙ staying_without c.args.kept.now c.args.times.now c.loop-job.left.items (staying c.args.kept.now c.args.times.now) c.loop-job.job 0 marked inside
          (number_stays c.args.kept.now c.loop-job.job c.number_of.result _ c.number_of.ensures (sym c.is_some.ensures ∙ w.if-is_some.false)) c.loop-job.invariant
    ]
