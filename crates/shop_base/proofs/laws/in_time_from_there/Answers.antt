use Rattle.shop_base.proofs.Within.{in_time_from_there-holds}
use Rattle.shop_base.proofs.SomeSchedule.{every_cell_has_a_schedule-holds}
use Rattle.shop_base.proofs.laws.in_time_from_there.Goals as goal

pub returns : goal.returns
returns c = record { kept = in_time_from_there-holds; some = every_cell_has_a_schedule-holds }
