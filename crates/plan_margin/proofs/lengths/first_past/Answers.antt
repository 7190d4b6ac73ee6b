use Rattle.std.proofs.Common.{arith, ap, le_refl}
use Rattle.shop_base.specs.Plan.{steps}
use Rattle.shop_base.specs.Graph.{leaving, IsNode}
use Rattle.alt_graph.specs.Layout.{number_of}
use Rattle.alt_graph.proofs.Latests.{row_inside}
use Rattle.plan_margin.proofs.lengths.first_past.Goals as goal

pub offset_bounds-lengths-number : goal.offset_bounds-lengths-number
offset_bounds-lengths-number c =
    let p = c.args.graph.now.plan in
    let there : IsNode p (leaving p c.loop-job.job) = record { job = omega (arith, c.loop-job-test.true, rw c.shaped-shaped.ensures.plan at c.job_count-job-end.ensures.count); place = le_refl (steps p c.loop-job.job) } in
    let same = rw c.shaped-shaped.ensures.plan at c.leaving_of.ensures in
    omega (arith, c.number.ensures.number, ap (number_of c.args.graph.now.firsts) same, row_inside _ _ _ _ c.requires there, c.requires.size, c.requires.numbers.few)

pub bounds-lengths-number : goal.bounds-lengths-number
bounds-lengths-number c =
    let p = c.args.graph.now.plan in
    let there : IsNode p (leaving p c.loop-job.job) = record { job = omega (arith, c.loop-job-test.true, rw c.shaped-shaped.ensures.plan at c.job_count-job-end.ensures.count); place = le_refl (steps p c.loop-job.job) } in
    let same = rw c.shaped-shaped.ensures.plan at c.leaving_of.ensures in
    omega (arith, c.number.ensures.number, ap (number_of c.args.graph.now.firsts) same, row_inside _ _ _ _ c.requires there)
