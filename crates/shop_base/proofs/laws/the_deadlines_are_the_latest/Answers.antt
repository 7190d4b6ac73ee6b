use Rattle.shop_base.proofs.Deadlines.{deadlines_are_the_latest-holds, deadlines_are_the_same-holds, deadlines_stay-holds}
use Rattle.shop_base.proofs.SomeDeadlines.{deadlines_exist-holds}
use Rattle.shop_base.proofs.laws.the_deadlines_are_the_latest.Goals as goal

pub returns : goal.returns
returns c = record { latest = deadlines_are_the_latest-holds; exist = deadlines_exist-holds; same = deadlines_are_the_same-holds; stay = deadlines_stay-holds }
