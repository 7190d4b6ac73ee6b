use Rattle.shop_base.proofs.GoingOn.{no_arc_leads_back-holds}
use Rattle.shop_base.proofs.laws.no_arc_leads_back.Goals as goal

pub returns : goal.returns
returns c = no_arc_leads_back-holds
