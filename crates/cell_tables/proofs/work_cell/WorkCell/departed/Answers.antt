use Rattle.std.proofs.Common.{arith}
use Rattle.cell_tables.proofs.Departed.{departed_free, departed_on}
use Rattle.cell_tables.proofs.work_cell.WorkCell.departed.Goals as goal

pub overflow_sub-result : goal.overflow_sub-result
overflow_sub-result g c =
    omega (arith, departed_on _ _ _ _ c.args.machine _ c.shaped-plan.ensures.well_shaped c.shaped-plan.ensures.sound c.in-Some.ensures c.entered-entered.ensures.count)

pub returns-in-None-clause-count : goal.returns-in-None-clause-count
returns-in-None-clause-count g c = departed_free _ _ c.args.machine _ c.in-None.ensures c.entered-entered.ensures.count
