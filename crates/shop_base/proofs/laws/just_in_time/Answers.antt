use Rattle.shop_base.proofs.StartAhead.{just_in_time-holds}
use Rattle.shop_base.proofs.laws.just_in_time.Goals as goal

pub returns : goal.returns
returns c = just_in_time-holds
