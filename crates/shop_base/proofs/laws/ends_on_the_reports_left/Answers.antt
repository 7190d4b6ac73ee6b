use Rattle.shop_base.proofs.GoingOn.{ends_on_the_reports_left-holds, reports_left_add_up-holds}
use Rattle.shop_base.proofs.laws.ends_on_the_reports_left.Goals as goal

pub returns : goal.returns
returns c = record { controlled = ends_on_the_reports_left-holds; any = reports_left_add_up-holds }
