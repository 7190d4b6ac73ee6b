use Rattle.shop_base.specs.Plan.{Stands}
use Rattle.plan_revise.proofs.reaching.visit_at.Given as goal

-- it stands at the place that is reached
abbrev pub invariant-loop : goal.invariant-loop
invariant-loop l = Stands l.graph.plan l.machine l.counter l.visit.job l.visit.place
