use Rattle.plan_schedule.proofs.ExactRun.{schedule_is_exact_run, some_exact_run}
use Rattle.plan_schedule.proofs.laws.schedule_is_the_exact_run.Goals as goal

pub returns : goal.returns
returns c = record { exact = schedule_is_exact_run; some = some_exact_run }
