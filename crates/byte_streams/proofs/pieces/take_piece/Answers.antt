use Rattle.std.proofs.Common.{◌∷◌, ◌∙◌, length, length-append, ap, arith, rules}
use Rattle.std.proofs.lemmas.Grind.{common_steps}
use Rattle.std.proofs.lemmas.Result.{err_from_is_err_and}
use Rattle.text_lines.specs.Cuts.{HasNone}
use Rattle.byte_streams.proofs.Taking.{Taking-line, Taking-failed, Taking-answered, Taking-held, Taking-lines}
use Rattle.byte_streams.proofs.pieces.take_piece.Goals as goal

pub returns-in_err-answer_ended-clause-answered : goal.returns-in_err-answer_ended-clause-answered
returns-in_err-answer_ended-clause-answered g c =
    let p = err_from_is_err_and c.from_residual.result c.from_residual.ensures.1 in
    rw p.1 (Taking-failed _ _ _ _ _ _ _ _ _ _ _ _ _ _ c.loop-line.invariant.so_far c.in-Some.ensures _ _ c.in_err-answer_ended.ensures.answered)

pub loop-line-preserved : goal.loop-line-preserved
loop-line-preserved g c = record {
  so_far = Taking-line _ _ _ _ _ _ _ _ _ _ _ _ _ _ c.loop-line.invariant.so_far c.in-Some.ensures _ _ _ c.in_ok-answer_ended.ensures.answered c.answer_ended.ensures.cleared;
  room = let split = ap length c.in-Some.ensures.split in omega (arith, split, length-append c.in-Some.line.now (10 ∷ c.in-Some.after.now));
}

pub returns-clause-answered : goal.returns-clause-answered
returns-clause-answered g c =
    let no_end : HasNone 10 c.loop-line.rest.now = first_of (search (rules, c.in_default.ensures), grind (arith, common_steps)) in
    Taking-answered _ _ _ _ _ _ _ _ _ _ _ c.loop-line.invariant.so_far no_end

pub returns-clause-held : goal.returns-clause-held
returns-clause-held g c =
    let no_end : HasNone 10 c.loop-line.rest.now = first_of (search (rules, c.in_default.ensures), grind (arith, common_steps)) in
    c.push.ensures ∙ Taking-held _ _ _ _ _ _ _ _ _ _ _ c.loop-line.invariant.so_far no_end

pub returns-clause-lines : goal.returns-clause-lines
returns-clause-lines g c =
    let no_end : HasNone 10 c.loop-line.rest.now = first_of (search (rules, c.in_default.ensures), grind (arith, common_steps)) in
    Taking-lines _ _ _ _ _ _ _ _ _ _ _ c.loop-line.invariant.so_far no_end
