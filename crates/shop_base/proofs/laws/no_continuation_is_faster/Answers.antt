use Rattle.shop_base.proofs.LowerBounds.{no_continuation_is_faster-holds}
use Rattle.shop_base.proofs.laws.no_continuation_is_faster.Goals as goal

pub returns : goal.returns
returns c = no_continuation_is_faster-holds
