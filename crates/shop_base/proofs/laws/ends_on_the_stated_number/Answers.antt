use Rattle.shop_base.proofs.StatedNumber.{ends_on_the_stated_number-holds, run-stated_number}
use Rattle.shop_base.proofs.laws.ends_on_the_stated_number.Goals as goal

pub returns : goal.returns
returns c = record { controlled = ends_on_the_stated_number-holds; any = run-stated_number }
