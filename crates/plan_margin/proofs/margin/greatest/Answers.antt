use Rattle.plan_margin.proofs.Halving.{greatest_margin}
use Rattle.plan_margin.proofs.margin.greatest.Goals as goal

pub returns-in-None-clause-margin : goal.returns-in-None-clause-margin
returns-in-None-clause-margin c = greatest_margin _ c.in-None.ensures.late
