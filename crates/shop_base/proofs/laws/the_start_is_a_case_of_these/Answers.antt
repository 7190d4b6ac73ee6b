use Rattle.shop_base.proofs.StartAhead.{the_start_is_a_case-holds}
use Rattle.shop_base.proofs.laws.the_start_is_a_case_of_these.Goals as goal

pub returns : goal.returns
returns c = the_start_is_a_case-holds
