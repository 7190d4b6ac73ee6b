use Rattle.std.proofs.Common.{◌+◌, arith, ap, refl, sym, subst}
use Rattle.shop_base.specs.declared.job_state.JobState.{JobState}
use Rattle.shop_base.specs.Plan.{PlannedShop, steps}
use Rattle.shop_base.specs.Graph.{node}
use Rattle.plan_bounds.specs.Bounds.{times_of}
use Rattle.plan_limits.specs.Asked.{IsPlace, AreNumberedTo}
use Rattle.plan_limits.proofs.Numbered.{numbered_push, numbered_from}
use Rattle.plan_limits.proofs.numbering.add_job.Goals as goal

pub loop-place-init : goal.loop-place-init
loop-place-init g c =
    let cell = c.args.cell.now in
    numbered_from (times_of cell.plan) cell.cell c.args.job 0 c.args.nodes.now.items c.requires.numbered _ refl

pub loop-place-preserved : goal.loop-place-preserved
loop-place-preserved g c =
    let cell = c.args.cell.now in
    let t = times_of cell.plan in
    let j = c.args.job in
    let k = c.loop-place.place in
    let same = ap (λ (p : PlannedShop). steps p j) c.shaped-shaped.ensures.plan in
    let is : IsPlace t cell.cell (node j k) = record {
      job = c.requires.job;
      place = omega (arith, c.loop-place-test.true, c.step_count-place-end.ensures.count, same);
      ahead = omega (arith, c.loop-place.auto.place, ap (λ (s : JobState). s.made) c.job_state-place.ensures);
    } in
    subst (AreNumberedTo t cell.cell j (k + 1)) (sym c.in_ok-push.ensures.items) (numbered_push t cell.cell j k c.loop-place.nodes.items c.loop-place.invariant is)
