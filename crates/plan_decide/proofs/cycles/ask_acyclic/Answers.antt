use Rattle.plan_decide.proofs.Kepts.{own_acyclic}
use Rattle.plan_decide.proofs.cycles.ask_acyclic.Goals as goal

pub returns-then-is_found-clause-is : goal.returns-then-is_found-clause-is
returns-then-is_found-clause-is g c = own_acyclic c.args.setting.now c.rest.ensures.set (rw c.rest.ensures.plan at c.in_ok-is_found.ensures.none c.if-is_found.true)
