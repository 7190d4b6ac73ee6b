use Rattle.std.proofs.Common.{refl, ap, set, subst, sym, arith}
use Rattle.arc_choice.specs.declared.branch.Decision.{Decision}
use Rattle.arc_choice.specs.Choices.{IsArc, nodes}
use Rattle.arc_choice.proofs.Narrowing.{deciding, side_arc}
use Rattle.arc_choice.proofs.Reaching.{rises_connected}
use Rattle.arc_choice.proofs.branch.Branch.note.Goals as goal

pub returns : goal.returns
returns c =
    let q = c.args.question.now in
    let s = c.args.self.now in
    let is : IsArc (nodes q) c.side-arc.result = subst (IsArc (nodes q)) (sym c.side-arc.ensures) (side_arc q c.args.side.pair c.args.side.one c.requires.branch.sound c.requires.pair) in
    deciding q s (record { state = s.state; reach = c.connect.new.self; decisions = _ }) c.args.side.pair c.args.side.one c.side-arc.result c.side-arc.ensures c.requires.branch c.requires.pair refl
    (ap (λ (x : Decision). set s.decisions.items c.args.side.pair x) c.decision_of.ensures) c.connect.ensures.nodes
    (λ w later. rises_connected s.reach c.connect.new.self c.side-arc.result.from c.side-arc.result.to w c.connect.ensures.nodes (omega (arith, is.from, c.requires.branch.reach)) (omega (arith, is.to, c.requires.branch.reach)) c.connect.ensures.bits later)

pub returns-then-has : goal.returns-then-has
returns-then-has c =
    let q = c.args.question.now in
    let s = c.args.self.now in
    deciding q s (record { state = s.state; reach = s.reach; decisions = _ }) c.args.side.pair c.args.side.one c.side-arc.result c.side-arc.ensures c.requires.branch c.requires.pair refl
    (ap (λ (x : Decision). set s.decisions.items c.args.side.pair x) c.decision_of.ensures) refl (λ w later rises. rises)
