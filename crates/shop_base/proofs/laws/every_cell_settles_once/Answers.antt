use Rattle.shop_base.proofs.Settling.{every_cell_settles_once-holds, every_list_goes_on-holds, no_job_settles_twice-holds, a_cut_step_settles-holds}
use Rattle.shop_base.proofs.laws.every_cell_settles_once.Goals as goal

pub returns : goal.returns
returns c = record { one = every_cell_settles_once-holds; once = no_job_settles_twice-holds; cut = a_cut_step_settles-holds; goes_on = every_list_goes_on-holds }
