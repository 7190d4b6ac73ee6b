use Rattle.std.proofs.Common.{inl, refl}
use Rattle.plan_improve.proofs.Once.{no_cost}
use Rattle.plan_improve.proofs.beginning.first_plan.Goals as goal

pub returns-in-Ok-Some-clause-first : goal.returns-in-Ok-Some-clause-first
returns-in-Ok-Some-clause-first c =
    let is = rw c.in-Ok-Some.field-0-is at c.in-Ok-Some.ensures in
    (inl ((λ cycle. no_cost c.args.fixed.now c.args.start c.args.start.plan cycle c.in-Ok-Some.cost is), refl), c.requires.stands, is)
