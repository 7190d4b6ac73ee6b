use Rattle.std.proofs.Common.{◌≡◌, ◌<◌, length, sym, ◌∙◌, arith}
use Rattle.std.proofs.lemmas.Grind.{common_steps}
use Rattle.std.proofs.lemmas.Bool.{MatchBool-at_true, MatchBool-at_false}
use Rattle.plan_text.proofs.Rows.{same_more, row_same}
use Rattle.plan_text.proofs.compare.are_same_rows.Goals as goal

pub returns-then-not-are_same_jobs : goal.returns-then-not-are_same_jobs
returns-then-not-are_same_jobs c = λ same.
    let la : c.loop-i.i < length c.args.a.now = omega arith in
    let lb : c.loop-i.i < length c.args.b.now = omega arith in
    let e = row_same c.args.a.now c.args.b.now c.loop-i.i c.index-a-i.result c.index-b-i.result la lb c.index-a-i.is c.index-b-i.is same in
    MatchBool-at_false _ _ c.if-not-are_same_jobs.true c.are_same_jobs.ensures (c.as_slice.ensures.value ∙ e ∙ sym c.as_slice-in-loop-i.ensures.value)

pub loop-i-preserved : goal.loop-i-preserved
loop-i-preserved c =
    let la : c.loop-i.i < length c.args.a.now = omega arith in
    let lb : c.loop-i.i < length c.args.b.now = omega arith in
    let slices = MatchBool-at_true _ _ c.if-not-are_same_jobs.false c.are_same_jobs.ensures in
    let e : c.index-a-i.result.items ≡ c.index-b-i.result.items = sym c.as_slice.ensures.value ∙ slices ∙ c.as_slice-in-loop-i.ensures.value in
    same_more c.args.a.now c.args.b.now c.loop-i.i c.index-a-i.result c.index-b-i.result la lb c.index-a-i.is c.index-b-i.is e c.loop-i.invariant

pub returns : goal.returns
returns c = grind (arith, common_steps)
