use Rattle.std.proofs.Common.{rules}
use Rattle.arc_choice.specs.Branches.{Always, HasNone}
use Rattle.arc_choice.proofs.Narrowing.{narrows_none, narrows_on, none_after}
use Rattle.arc_choice.proofs.branch.Branch.tighten.Goals as goal

pub loop-init : goal.loop-init
loop-init c = narrows_none Always c.args.question.now c.args.self.now c.requires

pub returns-in_err-spread : goal.returns-in_err-spread
returns-in_err-spread c =
    let none : HasNone Always c.args.question.now c.args.self.now = none_after Always c.args.question.now c.args.self.now c.loop.self c.loop.invariant c.in_err-spread.ensures in
    search rules

pub returns-in_err-decide_all_forced : goal.returns-in_err-decide_all_forced
returns-in_err-decide_all_forced c =
    let q = c.args.question.now in
    let s = c.args.self.now in
    let none : HasNone Always q s = none_after Always q s c.spread.new.self (narrows_on Always q s c.loop.self c.spread.new.self c.loop.invariant c.in_ok-spread.ensures) c.in_err-decide_all_forced.ensures in
    search rules

pub returns-then-len-before : goal.returns-then-len-before
returns-then-len-before c =
    let q = c.args.question.now in
    let s = c.args.self.now in
    narrows_on Always q s c.spread.new.self c.decide_all_forced.new.self (narrows_on Always q s c.loop.self c.spread.new.self c.loop.invariant c.in_ok-spread.ensures) c.in_ok-decide_all_forced.ensures

pub loop-preserved : goal.loop-preserved
loop-preserved c =
    let q = c.args.question.now in
    let s = c.args.self.now in
    narrows_on Always q s c.spread.new.self c.decide_all_forced.new.self (narrows_on Always q s c.loop.self c.spread.new.self c.loop.invariant c.in_ok-spread.ensures) c.in_ok-decide_all_forced.ensures
