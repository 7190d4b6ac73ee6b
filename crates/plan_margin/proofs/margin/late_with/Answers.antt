use Rattle.plan_margin.proofs.GreatestLengths.{late_exact}
use Rattle.plan_margin.proofs.margin.late_with.Goals as goal

pub returns-clause-late : goal.returns-clause-late
returns-clause-late c = late_exact _ _ _ c.fill_lengths.ensures.lengths c.fill_lengths.ensures.reached c.first_past.result c.first_past.ensures
