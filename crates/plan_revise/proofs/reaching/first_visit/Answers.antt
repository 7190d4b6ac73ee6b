use Rattle.std.proofs.Common.{◌≡◌, ◌∙◌, ℕ, List, get_or, length, inl, inr, sym, ap, subst, arith}
use Rattle.std.proofs.lemmas.Bool.{cases_eq}
use Rattle.shop_base.specs.declared.shop.Step.{Step}
use Rattle.shop_base.specs.Shop.{step_at}
use Rattle.shop_base.specs.Plan.{PlannedShop, job_at, route, Visits}
use Rattle.shop_base.proofs.Visits.{visits_job}
use Rattle.shop_base.proofs.Places.{stands_at}
use Rattle.plan_revise.proofs.Searching.{first-stands}
use Rattle.plan_revise.proofs.reaching.first_visit.Goals as goal

pub route_of-route-requires : goal.route_of-route-requires
route_of-route-requires c =
    let p : PlannedShop = c.args.shaped.now in
    let m : ℕ = c.args.machine in
    let there = stands_at p m 0 c.order_of.ensures.well_shaped c.requires.machine c.requires.some in
    let job : get_or c.order_of.result.now 0 0 ≡ job_at p m 0 = ap (λ (xs : List ℕ). get_or xs 0 0) c.order_of.ensures.order in
    omega (arith, job, visits_job p (job_at p m 0) there.0 m there.1.visits)

pub loop-step-init : goal.loop-step-init
loop-step-init c = λ k less. absurd (omega (arith, less))

pub returns-then-route-step : goal.returns-then-route-step
returns-then-route-step c =
    let p : PlannedShop = c.args.shaped.now in
    let m : ℕ = c.args.machine in
    let j : ℕ = get_or c.order_of.result.now 0 0 in
    let job : job_at p m 0 ≡ j = sym (ap (λ (xs : List ℕ). get_or xs 0 0) c.order_of.ensures.order) in
    let way : c.route_of-route.result.now ≡ route p j = c.route_of-route.ensures.route in
    first-stands p c.order_of.ensures.well_shaped m j c.loop-step.step c.requires.some job
    (record { within = omega (arith, c.loop-step-test.true, ap length way); here = sym (ap (λ (r : List Step). (step_at r c.loop-step.step).machine) way) ∙ c.if-route-step.true })
    (λ l less same. c.loop-step.invariant l less (ap (λ (r : List Step). (step_at r l).machine) way ∙ same))

pub loop-step-preserved : goal.loop-step-preserved
loop-step-preserved c = λ k less. elim (cases_eq k c.loop-step.step) [
  | inl same ↦ (λ here. c.if-route-step.false (sym (ap (λ n. (step_at c.route_of-route.result.now n).machine) same) ∙ here))
  | inr other ↦ c.loop-step.invariant k (omega (arith, less, other))
]

pub unreachable-requires : goal.unreachable-requires
unreachable-requires c =
    let p : PlannedShop = c.args.shaped.now in
    let m : ℕ = c.args.machine in
    let j : ℕ = get_or c.order_of.result.now 0 0 in
    let job : job_at p m 0 ≡ j = sym (ap (λ (xs : List ℕ). get_or xs 0 0) c.order_of.ensures.order) in
    let there = stands_at p m 0 c.order_of.ensures.well_shaped c.requires.machine c.requires.some in
    let visits : Visits p j there.0 m = subst (λ i. Visits p i there.0 m) job there.1.visits in
    let way : c.route_of-route.result.now ≡ route p j = c.route_of-route.ensures.route in
    c.loop-step.invariant there.0 (omega (arith, c.loop-step-test.false, visits.within, ap length way)) (ap (λ (r : List Step). (step_at r there.0).machine) way ∙ visits.here)
