use Rattle.shop_base.proofs.OneStep.{one_step}
use Rattle.shop_base.proofs.laws.one_list_of_moves_fits_a_report.Goals as goal

pub returns : goal.returns
returns c = one_step
