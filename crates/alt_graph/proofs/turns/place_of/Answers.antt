use Rattle.std.proofs.Common.{◌<◌, ℕ, arith, ap, length, nat_eq, eq-eqb}
use Rattle.shop_base.specs.Plan.{job_at}
use Rattle.shop_base.proofs.Counting.{count_rises}
use Rattle.shop_base.proofs.Visits.{visits-stands}
use Rattle.alt_graph.proofs.turns.place_of.Goals as goal

pub unreachable-requires : goal.unreachable-requires
unreachable-requires c =
    let p = c.args.shaped.now in
    let (a, stands) = visits-stands _ _ _ _ c.order_of-order.ensures.well_shaped c.requires in
    let looked_at : a < c.loop-place.place = omega (arith, stands.within, c.loop-place-test.false, ap length c.order_of-order.ensures.order) in
    omega (arith, c.loop-place.invariant, stands.turn, count_rises (λ (b : ℕ). nat_eq (job_at p c.args.machine b) c.args.visit.job) a c.loop-place.place (eq-eqb (job_at p c.args.machine a) c.args.visit.job stands.job) looked_at)
