use Rattle.plan_decide.proofs.Lawful.{no_exact_run_keeps_them-holds}
use Rattle.plan_decide.proofs.laws.no_exact_run_keeps_them.Goals as goal

pub returns : goal.returns
returns c t js p es excluded plan run exact keeps = no_exact_run_keeps_them-holds t js p es excluded plan run exact keeps
