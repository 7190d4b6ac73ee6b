use Rattle.std.proofs.Common.{◌≡◌, ℕ, ◌-◌, ◌<◌, List, length, get_or, inl, inr, ap, sym, ◌∙◌, arith}
use Rattle.std.specs.Prelude.{remove}
use Rattle.std.proofs.lemmas.Bool.{cases_eq}
use Rattle.std.proofs.lemmas.List.{get_or_read}
use Rattle.plan_revise.proofs.Places.{last_taken, none_taken}
use Rattle.plan_revise.proofs.orders.take_last_out_of.Goals as goal

pub returns-then-index-job : goal.returns-then-index-job
returns-then-index-job c =
    let place : ℕ = c.loop-place.place - 1 in
    let same = c.loop-place.invariant.same in
    let within : place < length c.loop-place.order.items = omega (arith, c.loop-place-test.true, c.loop-place.auto.place, ap length same) in
    let here : get_or c.loop-place.order.items place 0 ≡ c.args.job = sym (get_or_read c.loop-place.order.items place c.index.result.now within c.index.ensures 0) ∙ c.if-index-job.true in
    c.remove.ensures.items ∙ ap (λ (xs : List ℕ). remove xs place) same
    ∙ sym (last_taken c.args.job c.args.order.now.items place (omega (arith, within, ap length same)) (ap (λ (xs : List ℕ). get_or xs place 0) (sym same) ∙ here)
    (λ a more less. c.loop-place.invariant.none a (omega arith) less))

pub loop-place-preserved : goal.loop-place-preserved
loop-place-preserved c =
    let place : ℕ = c.loop-place.place - 1 in
    let same = c.loop-place.invariant.same in
    let within : place < length c.loop-place.order.items = omega (arith, c.loop-place-test.true, c.loop-place.auto.place, ap length same) in
    let read : c.index.result.now ≡ get_or c.args.order.now.items place 0 = get_or_read c.loop-place.order.items place c.index.result.now within c.index.ensures 0 ∙ ap (λ (xs : List ℕ). get_or xs place 0) same in
    record {
      same = same;
      none = λ a more less. elim (cases_eq a place) [
        | inl is ↦ (λ mine. c.if-index-job.false (read ∙ ap (λ b. get_or c.args.order.now.items b 0) (sym is) ∙ mine))
        | inr other ↦ c.loop-place.invariant.none a (omega (arith, other)) less
      ];
    }

pub returns : goal.returns
returns c = c.loop-place.invariant.same ∙ sym (none_taken c.args.job c.args.order.now.items (λ a less. c.loop-place.invariant.none a (omega (arith, c.loop-place-test.false)) less))
