use Rattle.shop_base.proofs.Within.{in_time_within-holds, each_move_is_in_time-holds, a_report_in_time_is_possible-holds, punctual_reports_are_within-holds}
use Rattle.shop_base.proofs.InTime.{moments_still_fit-holds}
use Rattle.shop_base.proofs.OwnReports.{their_own_are_enough-holds}
use Rattle.shop_base.proofs.laws.in_time_within.Goals as goal

pub returns : goal.returns
returns c = record {
  kept = in_time_within-holds;
  moves = each_move_is_in_time-holds;
  still = moments_still_fit-holds;
  possible = a_report_in_time_is_possible-holds;
  punctual = punctual_reports_are_within-holds;
  own = their_own_are_enough-holds;
}
