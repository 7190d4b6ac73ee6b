use Rattle.std.proofs.Common.{◌≡◌, ◌<◌, length, drop, arith, ap, inl, inr}
use Rattle.std.proofs.lemmas.Bool.{cases_order}
use Rattle.std.proofs.lemmas.Grind.{common_steps}
use Rattle.std.proofs.lemmas.List.{take_at}
use Rattle.shop_base.specs.Plan.{jobs, steps}
use Rattle.shop_base.specs.Graph.{node}
use Rattle.alt_graph.proofs.latest.by_rank.Goals as goal

pub loop-job-init : goal.loop-job-init
loop-job-init c = grind (arith, common_steps)

pub loop-job-preserved : goal.loop-job-preserved
loop-job-preserved c =
    let job : c.loop-job.job < jobs c.args.shaped.now = omega arith in
    let new = c.note_ranks.new.nodes in
    let size : length new ≡ c.loop-job.nodes.len = omega (arith, c.note_ranks.auto.nodes, c.deref_mut.ensures.len, c.loop-job.nodes.ok.0) in
    let same = take_at new (drop (length new) c.loop-job.nodes.items) c.loop-job.nodes.len size in
    let still = rw c.deref_mut.ensures.value at c.note_ranks.ensures.still in
    rw same (record {
      size = omega (arith, size, c.loop-job.invariant.size, c.loop-job.nodes.ok.0);
      ranked = c.note_ranks.ensures.ranked;
      all = λ j lt k le. elim (cases_order j c.loop-job.job) [
        | inl is ↦ rw is (c.note_ranks.ensures.noted k (omega (arith, le, ap (steps c.args.shaped.now) is)))
        | inr other ↦ (let lower : j < c.loop-job.job = elim other [ inl less ↦ omega arith | inr more ↦ omega arith ] in
            still (node j k) (record { job = omega (arith, lower, job); place = le }) (c.loop-job.invariant.all j lower k le))
      ];
    })
