use Rattle.program_laws.proofs.KnownHistories.{new_log_has_history, old_log_has_history, unrecovered_log_has_history}
use Rattle.program_laws.proofs.laws.a_log_has_history.Goals as goal

pub returns-clause-new_log : goal.returns-clause-new_log
returns-clause-new_log g c = λ words before logs start digits there output none are. new_log_has_history g.T.Texts.gives words before logs start digits there output none are

pub returns-clause-old_log : goal.returns-clause-old_log
returns-clause-old_log g c = old_log_has_history

pub returns-clause-unrecovered : goal.returns-clause-unrecovered
returns-clause-unrecovered g c = unrecovered_log_has_history
