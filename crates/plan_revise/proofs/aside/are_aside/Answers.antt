use Rattle.std.proofs.Common.{◌<◌, List, ℕ, length, get_or, ap, arith}
use Rattle.shop_base.specs.Plan.{order}
use Rattle.plan_revise.proofs.Written.{listed_job}
use Rattle.plan_revise.proofs.aside.are_aside.Goals as goal

pub is_aside_job-requires : goal.is_aside_job-requires
is_aside_job-requires c =
    let within : c.loop-place.place < length (order c.args.shaped.now c.args.machine) = omega (arith, ap length c.order_of-place-end.ensures.order) in
    omega (arith, listed_job c.args.shaped.now c.args.machine c.loop-place.place c.plan-plan.ensures.well_shaped c.requires within, ap (λ (xs : List ℕ). get_or xs c.loop-place.place 0) c.order_of.ensures.order)
