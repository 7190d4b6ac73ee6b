use Rattle.shop_base.proofs.GoingOn.{a_cycle_stops_every_continuation-holds}
use Rattle.shop_base.proofs.laws.a_cycle_stops_every_continuation.Goals as goal

pub returns : goal.returns
returns c = a_cycle_stops_every_continuation-holds
