use Rattle.std.proofs.Common.{suc, arith}
use Rattle.shop_base.proofs.Cleanings.{cleanings-le}
use Rattle.shop_base.proofs.shaped.Shaped.cleaning_count.Goals as goal

pub overflow_add-count : goal.overflow_add-count
overflow_add-count c = omega (arith, cleanings-le c.args.self.now (suc c.loop-machine.machine) c.machine_count-machine-end.ensures.well_shaped (omega arith))

pub returns-clause-few : goal.returns-clause-few
returns-clause-few c = omega (arith, cleanings-le c.args.self.now c.loop-machine.machine c.machine_count-machine-end.ensures.well_shaped (omega arith))
