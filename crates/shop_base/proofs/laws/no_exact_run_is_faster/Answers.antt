use Rattle.shop_base.proofs.StartAhead.{no_exact_run_is_faster-holds}
use Rattle.shop_base.proofs.laws.no_exact_run_is_faster.Goals as goal

pub returns : goal.returns
returns c = no_exact_run_is_faster-holds
