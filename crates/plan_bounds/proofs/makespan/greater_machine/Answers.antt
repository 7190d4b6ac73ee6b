use Rattle.std.proofs.Common.{MatchOption, arith, subst}
use Rattle.plan_bounds.specs.Bounds.{times_of}
use Rattle.plan_bounds.specs.Greatest.{HaveNoBound, IsGreatestOfMachines}
use Rattle.plan_bounds.proofs.Greater.{first_bound, greater_bound, same_bound, no_bound}
use Rattle.plan_bounds.proofs.makespan.greater_machine.Goals as goal

pub returns-then-most-bound : goal.returns-then-most-bound
returns-then-most-bound c =
    let t = times_of c.args.shaped.now in
    let m = c.args.machine in
    let before = subst (λ g. MatchOption g (HaveNoBound t m) (IsGreatestOfMachines t m)) c.in-Some-greatest.is c.requires.before in
    greater_bound t m (c.in-Some-greatest.first, c.in-Some-greatest.most) c.in-Some.bound before c.in-Some.ensures (omega (arith, c.if-most-bound.true))

pub returns-else-most-bound : goal.returns-else-most-bound
returns-else-most-bound c =
    let t = times_of c.args.shaped.now in
    let m = c.args.machine in
    let before = subst (λ g. MatchOption g (HaveNoBound t m) (IsGreatestOfMachines t m)) c.in-Some-greatest.is c.requires.before in
    same_bound t m (c.in-Some-greatest.first, c.in-Some-greatest.most) c.in-Some.bound before c.in-Some.ensures (omega (arith, c.if-most-bound.false))

pub returns-in-None-greatest : goal.returns-in-None-greatest
returns-in-None-greatest c =
    let t = times_of c.args.shaped.now in
    let m = c.args.machine in
    let before = subst (λ g. MatchOption g (HaveNoBound t m) (IsGreatestOfMachines t m)) c.in-None-greatest.is c.requires.before in
    first_bound t m c.in-Some.bound before c.in-Some.ensures

pub returns-in-None : goal.returns-in-None
returns-in-None c = no_bound (times_of c.args.shaped.now) c.args.machine c.args.greatest c.in-None.ensures c.requires.before
