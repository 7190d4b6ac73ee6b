use Rattle.std.proofs.Common.{◌+◌, ◌*◌, ap}
use Rattle.plan_margin.specs.Longer.{longer}
use Rattle.plan_margin.proofs.lengths.made_longer.Goals as goal

pub returns : goal.returns
unfolding longer
returns c = ap (λ n. c.args.time * (1000 + n)) c.from.ensures
