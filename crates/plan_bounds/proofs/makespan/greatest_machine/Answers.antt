use Rattle.std.proofs.Common.{MatchOption, arith, subst}
use Rattle.plan_bounds.specs.Bounds.{times_of}
use Rattle.plan_bounds.specs.Greatest.{HaveNoBound, IsGreatestOfMachines}
use Rattle.plan_bounds.proofs.makespan.greatest_machine.Goals as goal

pub returns : goal.returns
returns c =
    let t = times_of c.args.shaped.now in
    subst (λ n. MatchOption c.loop-machine.greatest (HaveNoBound t n) (IsGreatestOfMachines t n))
    (omega (arith, c.loop-machine-test.false, c.loop-machine.auto.machine-end, c.machine_count-machine-end.ensures.count)) c.loop-machine.invariant
