use Rattle.shop_base.proofs.CycleLaw.{cycle_never_made, cycle_never_done}
use Rattle.shop_base.proofs.laws.a_cycle_stops_every_run.Goals as goal

pub returns : goal.returns
returns c = λ p nodes shaped cycle. (cycle_never_made p nodes shaped cycle, cycle_never_done p nodes shaped cycle)
