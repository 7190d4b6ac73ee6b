use Rattle.shop_base.proofs.StartAhead.{out_by_the_deadlines-holds, in_time_to_the_deadlines-holds, each_such_plan_has_deadlines-holds}
use Rattle.shop_base.proofs.laws.out_by_the_deadlines.Goals as goal

pub returns : goal.returns
returns c = record { ended = out_by_the_deadlines-holds; in_time = in_time_to_the_deadlines-holds; exist = each_such_plan_has_deadlines-holds }
