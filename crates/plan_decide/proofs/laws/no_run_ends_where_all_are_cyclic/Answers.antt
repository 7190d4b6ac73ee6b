use Rattle.plan_decide.proofs.Lawful.{no_run_ends_where_all_are_cyclic-holds}
use Rattle.plan_decide.proofs.laws.no_run_ends_where_all_are_cyclic.Goals as goal

pub returns : goal.returns
returns c t p es none plan run gone = no_run_ends_where_all_are_cyclic-holds t p es none plan run gone
