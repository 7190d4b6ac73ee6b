use Rattle.std.proofs.Common.{Option, IfSome, subst}
use Rattle.arc_choice.specs.declared.question.Side.{Side}
use Rattle.arc_choice.specs.Choices.{Keeps, side_of}
use Rattle.arc_choice.specs.Branches.{IsForced, Always}
use Rattle.arc_choice.proofs.Narrowing.{copied, narrows_none, narrows_by, narrows_then}
use Rattle.arc_choice.proofs.branch.Branch.decide_forced.Goals as goal

pub returns-in_ok-decide-in-Some : goal.returns-in_ok-decide-in-Some
returns-in_ok-decide-in-Some c =
    let q = c.args.question.now in
    let s = c.args.self.now in
    let side = c.in-Some.side in
    let forced : IsForced q s side = subst (λ (o : Option Side). IfSome o (λ side. IsForced q s side)) c.in-Some.is c.in_ok-side.ensures in
    narrows_by (λ w. Keeps w (side_of q side.pair side.one)) q s c.decide.new.self forced.keeps
    (narrows_then (λ w. Keeps w (side_of q side.pair side.one)) q s c.close.new.self c.decide.new.self (copied q s c.close.new.self c.requires c.close.ensures) c.in_ok-decide-in-Some.ensures)

pub returns-then-at-len : goal.returns-then-at-len
returns-then-at-len c = narrows_none Always c.args.question.now c.args.self.now c.requires

pub returns-then-pair-len : goal.returns-then-pair-len
returns-then-pair-len c = narrows_none Always c.args.question.now c.args.self.now c.requires

pub returns-in-None : goal.returns-in-None
returns-in-None c = narrows_none Always c.args.question.now c.args.self.now c.requires
