use Rattle.std.proofs.Common.{◌∙◌, ◌+◌, length, sym, ap, arith, length-drop}
use Rattle.text_lines.proofs.FirstPlaces.{HasNone-from_search, IsCutAt-from_search}
use Rattle.text_lines.proofs.NextLines.{first_line, only_line, lines_of-le}
use Rattle.text_lines.proofs.lines.line_count.Goals as goal

pub overflow_add-count : goal.overflow_add-count
overflow_add-count c =
    let line = first_line c.loop-end.rest.now _ _ (IsCutAt-from_search 10 c.loop-end.rest.now c.in-Some.end c.in-Some.ensures) in
    omega (arith, c.loop-end.invariant.counted, ap length line, lines_of-le c.args.text.now)

pub overflow_add-rest : goal.overflow_add-rest
overflow_add-rest c = omega (arith, c.in-Some.ensures.0.high, c.loop-end.invariant.shorter)

pub loop-end-preserved : goal.loop-end-preserved
loop-end-preserved c =
    let rest = c.loop-end.rest.now in
    let line = first_line rest _ _ (IsCutAt-from_search 10 rest c.in-Some.end c.in-Some.ensures) in
    record {
      counted = omega (arith, c.loop-end.invariant.counted, ap length line);
      shorter = omega (arith, c.loop-end.invariant.shorter, length-drop (c.in-Some.end + 1) rest);
    }

pub overflow_add-result : goal.overflow_add-result
overflow_add-result c =
    let line = only_line c.loop-end.rest.now (HasNone-from_search 10 c.loop-end.rest.now c.in_default.ensures) (sym c.is_empty.ensures ∙ c.if-is_empty.false) in
    omega (arith, c.loop-end.invariant.counted, ap length line, lines_of-le c.args.text.now)

pub returns-else-is_empty : goal.returns-else-is_empty
returns-else-is_empty c =
    let line = only_line c.loop-end.rest.now (HasNone-from_search 10 c.loop-end.rest.now c.in_default.ensures) (sym c.is_empty.ensures ∙ c.if-is_empty.false) in
    omega (arith, c.loop-end.invariant.counted, ap length line)
