use Rattle.program_laws.proofs.OneLogs.{a_new_log, a_recovered_log}
use Rattle.program_laws.proofs.laws.a_log_is_of_one_run.Goals as goal

pub returns-clause-new_log : goal.returns-clause-new_log
returns-clause-new_log c = a_new_log c.a_driven_run_is_recovered.ensures

pub returns-clause-recoverable : goal.returns-clause-recoverable
returns-clause-recoverable c = a_recovered_log c.a_recovered_run_is_recovered.ensures
