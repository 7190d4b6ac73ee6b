use Rattle.plan_decide.proofs.Deciders.{setting_holds}
use Rattle.plan_decide.proofs.setting.Setting.of.Goals as goal

pub returns-clause-past : goal.returns-clause-past
returns-clause-past g c = setting_holds c.args.rest.now.plan c.args.rest.now.cell c.args.rest.now.present c.has_not_begun.result c.free_by.result c.args.aim
    (record { shaped = c.shaped-plan.ensures.well_shaped; reached = c.cell-cell.ensures.rest.reached; moment = c.present-present.ensures.moment; whole = c.has_not_begun.ensures })
    c.free_by.ensures
