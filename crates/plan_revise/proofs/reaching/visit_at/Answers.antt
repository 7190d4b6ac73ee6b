use Rattle.std.proofs.Common.{◌≡◌, subst, arith}
use Rattle.shop_base.specs.Plan.{PlannedShop, Stands}
use Rattle.plan_revise.proofs.Searching.{few-place, next-stands, next-none}
use Rattle.plan_revise.proofs.reaching.visit_at.Goals as goal

pub loop-init : goal.loop-init
loop-init c = subst (λ (p : PlannedShop). Stands p c.args.machine 0 c.first_visit-visit.result.job c.first_visit-visit.result.place) c.shaped.ensures.plan c.first_visit-visit.ensures

pub leaving_of-requires : goal.leaving_of-requires
leaving_of-requires c = few-place c.args.graph.now.plan c.shaped.ensures.sound.shaped c.loop.visit.job c.loop.visit.place c.loop.invariant.visits.within

pub unreachable-requires : goal.unreachable-requires
unreachable-requires c = next-none c.args.graph.now.plan c.shaped.ensures.sound.shaped c.args.machine c.requires.machine c.loop.counter c.loop.visit c.leaving_of.result c.loop.invariant c.leaving_of.ensures c.in-None.ensures (omega (arith, c.loop-test.true, c.requires.within))

pub loop-preserved : goal.loop-preserved
loop-preserved c = next-stands c.args.graph.now.plan c.shaped.ensures.sound.shaped c.args.machine c.loop.counter c.loop.visit c.in-Some.next c.leaving_of.result c.in-Some.ensures.0 c.loop.invariant c.leaving_of.ensures c.in-Some.ensures.1

pub returns : goal.returns
returns c =
    let same : c.loop.counter ≡ c.args.place = omega (arith, c.loop-test.false, c.loop.auto.counter-end) in
    subst (λ a. Stands c.args.graph.now.plan c.args.machine a c.loop.visit.job c.loop.visit.place) same c.loop.invariant
