use Rattle.std.proofs.Common.{arith, ◌≡◌, get_or, refl, sym}
use Rattle.std.proofs.lemmas.List.{get_or_read}
use Rattle.arc_choice.proofs.Narrowing.{kept, too_late}
use Rattle.arc_choice.proofs.branch.Branch.keep.Goals as goal

pub returns : goal.returns
returns c =
    let s = c.args.self.now in
    let arc = c.args.arc in
    let head : c.index.result.now ≡ get_or s.state.heads.items arc.from 0 = get_or_read s.state.heads.items arc.from c.index.result.now (omega (arith, c.requires.branch.heads, c.requires.arc.from)) c.index.ensures 0 in
    let last : c.index-last.result.now ≡ get_or s.state.latest.items arc.to 0 = get_or_read s.state.latest.items arc.to c.index-last.result.now (omega (arith, c.requires.branch.latest, c.requires.arc.to)) c.index-last.ensures 0 in
    kept c.args.question.now arc c.requires.arc s _ c.saturating_add-head.result c.index-last.result.now c.saturating_sub-latest.result c.requires.branch
    (omega (arith, c.saturating_add-head.ensures, head)) (sym last) (omega (arith, c.saturating_sub-latest.ensures))
    c.raise.ensures.heads c.raise.ensures.length c.lower.ensures.latest c.lower.ensures.length refl refl

pub returns-then-last-head : goal.returns-then-last-head
returns-then-last-head c =
    let s = c.args.self.now in
    let arc = c.args.arc in
    let head : c.index.result.now ≡ get_or s.state.heads.items arc.from 0 = get_or_read s.state.heads.items arc.from c.index.result.now (omega (arith, c.requires.branch.heads, c.requires.arc.from)) c.index.ensures 0 in
    let last : c.index-last.result.now ≡ get_or s.state.latest.items arc.to 0 = get_or_read s.state.latest.items arc.to c.index-last.result.now (omega (arith, c.requires.branch.latest, c.requires.arc.to)) c.index-last.ensures 0 in
    too_late c.args.question.now arc c.requires.arc s c.saturating_add-head.result c.index-last.result.now c.requires.branch
    (omega (arith, c.saturating_add-head.ensures, head)) (sym last) c.if-last-head.true
