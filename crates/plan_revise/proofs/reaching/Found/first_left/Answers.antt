use Rattle.std.proofs.Common.{◌≡◌, ℕ, ◌+◌, ◌<◌, ◌∙◌, false, true, inl, inr, length, sym, ap, subst, arith}
use Rattle.std.proofs.lemmas.Bool.{cases_eq, cases_lt}
use Rattle.shop_base.specs.Plan.{PlannedShop, order}
use Rattle.plan_revise.specs.Reaching.{ReachesLeaving}
use Rattle.plan_revise.proofs.Searching.{few-place, next-stands, next-none, none-left}
use Rattle.plan_revise.proofs.reaching.Found.first_left.Goals as goal

differ : false ≡ true → ⊥
differ e = cc

pub loop-place-init : goal.loop-place-init
loop-place-init c = record { stands = c.visit_at-visit.ensures; before = λ b more less. absurd (omega (arith, more, less)) }

pub has_left-requires-clause-visit : goal.has_left-requires-clause-visit
has_left-requires-clause-visit c = c.loop-place.invariant.stands.visits.within

pub returns-then-has_left : goal.returns-then-has_left
returns-then-has_left c = record {
  after = c.loop-place.auto.place;
  within = omega (arith, c.loop-place.invariant.stands.within);
  there = λ less. (c.loop-place.visit.job, c.loop-place.visit.place, c.loop-place.invariant.stands, c.has_left.ensures.0 c.if-has_left.true);
  before = c.loop-place.invariant.before;
}

pub leaving_of-requires : goal.leaving_of-requires
leaving_of-requires c = few-place c.args.graph.now.plan c.requires.reached.sound.shaped c.loop-place.visit.job c.loop-place.visit.place c.loop-place.invariant.stands.visits.within

pub returns-in-None : goal.returns-in-None
returns-in-None c =
    let p : PlannedShop = c.args.graph.now.plan in
    let m : ℕ = c.args.machine in
    let a : ℕ = c.loop-place.place in
    let end_is : length c.order_of-end.result.now ≡ length (order p m) = ap length (c.order_of-end.ensures.order ∙ ap (λ (x : PlannedShop). order x m) c.shaped.ensures.plan) in
    let last : a + 1 < length (order p m) → ⊥ = next-none p c.requires.reached.sound.shaped m c.requires.machine a c.loop-place.visit c.leaving_of.result c.loop-place.invariant.stands c.leaving_of.ensures c.in-None.ensures in
    record {
      after = omega (arith, c.loop-place.auto.place, c.loop-place-test.true);
      within = omega (arith, end_is);
      there = λ less. absurd (omega (arith, less, end_is));
      before = λ b more less there. elim (cases_lt b a) [
        | inl lower ↦ c.loop-place.invariant.before b more lower there
        | inr higher ↦ elim (cases_eq b a) [
          | inl same ↦ none-left p c.requires.reached.sound.shaped m c.args.self.now.origin a c.loop-place.visit.job c.loop-place.visit.place c.loop-place.invariant.stands
              (λ reached. differ (sym c.if-has_left.false ∙ c.has_left.ensures.1 reached)) (subst (ReachesLeaving p c.args.self.now.origin m) same there)
          | inr other ↦ last (omega (arith, higher, other, less, end_is))
        ]
      ];
    }

pub loop-place-preserved : goal.loop-place-preserved
loop-place-preserved c =
    let p : PlannedShop = c.args.graph.now.plan in
    let m : ℕ = c.args.machine in
    let a : ℕ = c.loop-place.place in
    record {
      stands = next-stands p c.requires.reached.sound.shaped m a c.loop-place.visit c.in-Some.next c.leaving_of.result c.in-Some.ensures.0 c.loop-place.invariant.stands c.leaving_of.ensures c.in-Some.ensures.1;
      before = λ b more less there. elim (cases_eq b a) [
        | inl same ↦ none-left p c.requires.reached.sound.shaped m c.args.self.now.origin a c.loop-place.visit.job c.loop-place.visit.place c.loop-place.invariant.stands
            (λ reached. differ (sym c.if-has_left.false ∙ c.has_left.ensures.1 reached)) (subst (ReachesLeaving p c.args.self.now.origin m) same there)
        | inr other ↦ c.loop-place.invariant.before b more (omega (arith, less, other)) there
      ];
    }

pub returns : goal.returns
returns c =
    let end_is : length c.order_of-end.result.now ≡ length (order c.args.graph.now.plan c.args.machine) = ap length (c.order_of-end.ensures.order ∙ ap (λ (x : PlannedShop). order x c.args.machine) c.shaped.ensures.plan) in
    absurd (omega (arith, c.loop-place-test.false, c.loop-place.invariant.stands.within, end_is))
