use Rattle.std.proofs.Common.{arith, ◌≡◌, get_or, sym}
use Rattle.std.proofs.lemmas.List.{get_or_read}
use Rattle.std.proofs.lemmas.Bool.{ltb-true}
use Rattle.arc_choice.proofs.Narrowing.{turned, too_late}
use Rattle.arc_choice.proofs.branch.Branch.excludes.Goals as goal

pub returns : goal.returns
returns c =
    let s = c.args.self.now in
    let arc = c.args.arc in
    let head : c.index-2.result.now ≡ get_or s.state.heads.items arc.from 0 = get_or_read s.state.heads.items arc.from c.index-2.result.now (omega (arith, c.requires.branch.heads, c.requires.arc.from)) c.index-2.ensures 0 in
    let last : c.index.result.now ≡ get_or s.state.latest.items arc.to 0 = get_or_read s.state.latest.items arc.to c.index.result.now (omega (arith, c.requires.branch.latest, c.requires.arc.to)) c.index.ensures 0 in
    λ late. too_late c.args.question.now arc c.requires.arc s c.saturating_add.result c.index.result.now c.requires.branch
    (omega (arith, c.saturating_add.ensures, head)) (sym last) (ltb-true _ _ late)

pub returns-then-has : goal.returns-then-has
returns-then-has c = λ yes_. turned c.args.question.now c.args.arc c.requires.arc c.args.self.now c.requires.branch (c.has.ensures.0 c.if-has.true)
