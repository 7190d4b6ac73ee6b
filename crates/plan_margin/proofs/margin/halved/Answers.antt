use Rattle.std.proofs.Common.{arith}
use Rattle.plan_margin.proofs.Halving.{halved_margin}
use Rattle.plan_margin.proofs.margin.halved.Goals as goal

pub returns-clause-margin : goal.returns-clause-margin
returns-clause-margin c =
    halved_margin _ c.halve.kept c.halve.past c.halve.then c.halve.invariant.kept c.halve.invariant.past c.halve.invariant.apart (omega (arith, c.halve-test.false)) c.halve.invariant.most
