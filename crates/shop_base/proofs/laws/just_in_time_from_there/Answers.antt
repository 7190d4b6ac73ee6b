use Rattle.shop_base.proofs.Within.{just_in_time_from_there-holds}
use Rattle.shop_base.proofs.SomeExact.{some_continuation_is_exact-holds}
use Rattle.shop_base.proofs.laws.just_in_time_from_there.Goals as goal

pub returns : goal.returns
returns c = record { exact = just_in_time_from_there-holds; some = some_continuation_is_exact-holds }
