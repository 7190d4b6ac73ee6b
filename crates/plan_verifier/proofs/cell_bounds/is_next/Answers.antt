use Rattle.std.proofs.Common.{◌∙◌}
use Rattle.shop_base.proofs.Visits.{visits_machine}
use Rattle.plan_verifier.proofs.Tables.{next_if_first}
use Rattle.plan_verifier.proofs.cell_bounds.is_next.Goals as goal

pub next_on-requires : goal.next_on-requires
next_on-requires g c = visits_machine _ c.args.node.job c.args.node.place c.args.machine c.shaped-plan.ensures.well_shaped c.requires.visits

pub returns-then-next-node : goal.returns-then-next-node
returns-then-next-node g c =
    next_if_first _ _ c.args.node c.args.machine c.shaped-plan.ensures.well_shaped c.shaped-plan.ensures.sound c.in-Some.ensures.0 (c.in-Some.ensures.1 ∙ c.if-next-node.true)
    c.requires.visits c.requires.ahead c.is_first_ahead.result c.is_first_ahead.ensures
