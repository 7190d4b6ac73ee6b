use Rattle.shop_base.proofs.StatedNumber.{orders_never_outnumber_reports-holds, moves_never_outnumber_reports-holds}
use Rattle.shop_base.proofs.laws.orders_never_outnumber_reports.Goals as goal

pub returns : goal.returns
returns c = record { controlled = orders_never_outnumber_reports-holds; any = moves_never_outnumber_reports-holds }
