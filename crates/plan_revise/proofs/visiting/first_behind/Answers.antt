use Rattle.std.proofs.Common.{◌-◌, ◌<◌, get_or, inl, inr, ap, sym, ◌∙◌, arith}
use Rattle.std.proofs.lemmas.Bool.{cases_eq, cases_lt}
use Rattle.plan_revise.proofs.visiting.first_behind.Goals as goal

pub loop-place-init : goal.loop-place-init
loop-place-init c = λ b more less mine. omega (arith, more, less)

pub returns-then-order-place : goal.returns-then-order-place
returns-then-order-place c = record {
  behind_entries = omega (arith, c.loop-place-test.true);
  behind_own = λ b less mine. elim (cases_lt b c.loop-place.place) [
    | inl before ↦ omega (arith, before)
    | inr behind ↦ absurd (c.loop-place.invariant b behind less mine)
  ];
  first = λ a more behind. (let own : c.loop-place.place - 1 < a = behind (c.loop-place.place - 1) (omega (arith, c.loop-place-test.true, c.loop-place.auto.place)) c.if-order-place.true in omega (arith, own));
}

pub loop-place-preserved : goal.loop-place-preserved
loop-place-preserved c = λ b more less mine. elim (cases_eq b (c.loop-place.place - 1)) [
  | inl is ↦ c.if-order-place.false (ap (λ b. get_or c.args.order.now b 0) (sym is) ∙ mine)
  | inr other ↦ c.loop-place.invariant b (omega (arith, more, other, c.loop-place-test.true)) less mine
]

pub returns : goal.returns
returns c = record {
  behind_entries = omega arith;
  behind_own = λ b less mine. elim (cases_lt b c.args.entered) [
    | inl before ↦ before
    | inr behind ↦ absurd (c.loop-place.invariant b (omega (arith, behind, c.loop-place-test.false)) less mine)
  ];
  first = λ a more behind. more;
}
