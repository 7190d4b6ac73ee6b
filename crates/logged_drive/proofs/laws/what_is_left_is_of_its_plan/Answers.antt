use Rattle.logged_drive.proofs.LeftLogs.{driven_log, recovered_log}
use Rattle.logged_drive.proofs.laws.what_is_left_is_of_its_plan.Goals as goal

pub returns-clause-new_log : goal.returns-clause-new_log
returns-clause-new_log c = driven_log c.a_crash_keeps_the_plan.ensures

pub returns-clause-recovered : goal.returns-clause-recovered
returns-clause-recovered c = recovered_log c.a_crash_keeps_the_plan.ensures
