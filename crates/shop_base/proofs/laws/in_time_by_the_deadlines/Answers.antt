use Rattle.shop_base.proofs.Deadlines.{no_deadline_is_too_early-holds, each_move_is_by_its_deadline-holds, in_time_by_deadlines-holds, the_rest_stays_accepted-holds, all_out_by_deadlines-holds}
use Rattle.shop_base.proofs.laws.in_time_by_the_deadlines.Goals as goal

pub returns : goal.returns
returns c = record {
  enough = no_deadline_is_too_early-holds;
  moves = each_move_is_by_its_deadline-holds;
  in_time = in_time_by_deadlines-holds;
  accepted = the_rest_stays_accepted-holds;
  ended = all_out_by_deadlines-holds;
}
