use Rattle.std.proofs.Common.{◌<◌, get_or, sym, ◌∙◌, arith}
use Rattle.text_lines.proofs.Digits.{digit_bounds, more_digits, fewer_digits}
use Rattle.text_lines.proofs.numbers.number_of.Goals as goal

pub overflow_mul-value : goal.overflow_mul-value
overflow_mul-value c =
    let few : c.loop-byte.byte-index < 19 = omega arith in
    omega (arith, more_digits c.loop-byte.value c.loop-byte.byte-index 0 c.loop-byte.invariant.below few (omega arith))

pub overflow_add-value : goal.overflow_add-value
overflow_add-value c =
    let few : c.loop-byte.byte-index < 19 = omega arith in
    let digit = digit_bounds (get_or c.args.word.now c.loop-byte.byte-index 0) (sym c.is_digit.ensures ∙ c.if-not-is_digit.false) in
    omega (arith, more_digits c.loop-byte.value c.loop-byte.byte-index c.from.result c.loop-byte.invariant.below few (omega arith))

pub returns-clause-small : goal.returns-clause-small
returns-clause-small c = fewer_digits c.loop-byte.value c.loop-byte.byte-index c.args.most c.loop-byte.invariant.below (omega arith)
