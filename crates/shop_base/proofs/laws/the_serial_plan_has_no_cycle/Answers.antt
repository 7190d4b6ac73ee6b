use Rattle.shop_base.proofs.SerialLaw.{serial_plan_has_no_cycle}
use Rattle.shop_base.proofs.laws.the_serial_plan_has_no_cycle.Goals as goal

pub returns : goal.returns
returns c = serial_plan_has_no_cycle
