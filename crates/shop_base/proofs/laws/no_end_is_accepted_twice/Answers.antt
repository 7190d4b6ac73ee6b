use Rattle.shop_base.proofs.SentAgain.{no_end_is_accepted_twice}
use Rattle.shop_base.proofs.laws.no_end_is_accepted_twice.Goals as goal

pub returns : goal.returns
returns c = no_end_is_accepted_twice
