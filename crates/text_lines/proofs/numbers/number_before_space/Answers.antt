use Rattle.std.proofs.Common.{◌≡◌, ℕ, ◌^◌, ◌<◌, Option, None, Some, IfSome, get_or, sym, ◌∙◌, arith}
use Rattle.text_lines.proofs.Digits.{digit_bounds, more_digits, fewer_digits}
use Rattle.text_lines.proofs.NumbersBefore.{no_number-within}
use Rattle.text_lines.proofs.numbers.number_before_space.Goals as goal

pub overflow_mul-value : goal.overflow_mul-value
overflow_mul-value c =
    let few : c.loop-end.end < 19 = omega arith in
    omega (arith, more_digits c.loop-end.value c.loop-end.end 0 c.loop-end.invariant.below few (omega arith))

pub overflow_add-value : goal.overflow_add-value
overflow_add-value c =
    let few : c.loop-end.end < 19 = omega arith in
    let digit = digit_bounds (get_or c.args.bytes.now c.loop-end.end 0) (sym c.is_digit.ensures ∙ c.if-not-is_digit.false) in
    omega (arith, more_digits c.loop-end.value c.loop-end.end c.from.result c.loop-end.invariant.below few (omega arith))

-- a number that is found is the value
small_found : {X : Type 0} (found : Option (ℕ × X)) (value most : ℕ) → IfSome found (λ f. f.0 ≡ value) → value < 10 ^ most → IfSome found (λ f. f.0 < 10 ^ most)
small_found None value most same below = tt
small_found (Some f) value most same below = omega (arith, same)

pub returns-then-not-is_digit-clause-small : goal.returns-then-not-is_digit-clause-small
returns-then-not-is_digit-clause-small c = small_found _ c.loop-end.value c.args.most c.ended_number.ensures.same
    (fewer_digits c.loop-end.value c.loop-end.end c.args.most c.loop-end.invariant.below (omega (arith, c.loop-end-test.true, c.min-end-end.ensures)))

pub returns-clause-number : goal.returns-clause-number
returns-clause-number c n rest =
    no_number-within c.args.most n c.args.bytes.now rest c.loop-end.end (omega (arith, c.loop-end-test.false, c.min-end-end.ensures)) c.loop-end.invariant.digits
