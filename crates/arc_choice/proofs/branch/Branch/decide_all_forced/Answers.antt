use Rattle.std.proofs.Common.{rules}
use Rattle.arc_choice.specs.Branches.{Always, HasNone}
use Rattle.arc_choice.proofs.Narrowing.{narrows_none, narrows_on, none_after}
use Rattle.arc_choice.proofs.branch.Branch.decide_all_forced.Goals as goal

pub loop-init : goal.loop-init
loop-init c = narrows_none Always c.args.question.now c.args.self.now c.requires

pub loop-preserved : goal.loop-preserved
loop-preserved c = narrows_on Always c.args.question.now c.args.self.now c.loop.self c.decide_forced.new.self c.loop.invariant c.in_ok-at.ensures

pub returns-in_err-at : goal.returns-in_err-at
returns-in_err-at c =
    let none : HasNone Always c.args.question.now c.args.self.now = none_after Always c.args.question.now c.args.self.now c.loop.self c.loop.invariant c.in_err-at.ensures in
    search rules
