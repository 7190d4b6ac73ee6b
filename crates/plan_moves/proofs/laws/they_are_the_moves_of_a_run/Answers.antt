use Rattle.plan_moves.proofs.GoingOn.{moves_of_a_run-holds, exact_run-holds}
use Rattle.plan_moves.proofs.OneList.{one_list-holds}
use Rattle.plan_moves.proofs.laws.they_are_the_moves_of_a_run.Goals as goal

pub returns : goal.returns
returns c = record { run = moves_of_a_run-holds; exact = exact_run-holds; one = one_list-holds }
