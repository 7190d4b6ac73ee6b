use Rattle.shop_base.proofs.Deadlines.{deadlines_are_tight-holds, a_late_end_is_too_late-holds}
use Rattle.shop_base.proofs.laws.the_deadlines_are_tight.Goals as goal

pub returns : goal.returns
returns c = record { made = deadlines_are_tight-holds; reported = a_late_end_is_too_late-holds }
