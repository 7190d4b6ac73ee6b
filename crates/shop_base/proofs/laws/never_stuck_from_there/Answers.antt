use Rattle.shop_base.proofs.GoingOn.{never_stuck_from_there-holds}
use Rattle.shop_base.proofs.laws.never_stuck_from_there.Goals as goal

pub returns : goal.returns
returns c = never_stuck_from_there-holds
