use Rattle.std.proofs.Common.{arith}
use Rattle.plan_decide.specs.Settings.{case_in}
use Rattle.plan_decide.proofs.Values.{halved}
use Rattle.plan_decide.proofs.halving.halve.Goals as goal

pub returns : goal.returns
returns g c =
    halved (case_in c.args.setting.now) c.args.objective c.loop-halfway.halfway c.known-within.result c.requires.free c.known-within.ensures.at_least c.known-within.ensures.at_most c.known-within.ensures.ended_open
    (omega (arith, c.loop-halfway-test.false)) c.loop-halfway.invariant
