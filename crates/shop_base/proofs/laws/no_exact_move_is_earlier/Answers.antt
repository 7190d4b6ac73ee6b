use Rattle.shop_base.proofs.StartAhead.{no_exact_move_is_earlier-holds}
use Rattle.shop_base.proofs.laws.no_exact_move_is_earlier.Goals as goal

pub returns : goal.returns
returns c = no_exact_move_is_earlier-holds
