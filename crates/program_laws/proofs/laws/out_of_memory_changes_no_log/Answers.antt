use Rattle.program_laws.proofs.TouchedLogs.{no_log_changed}
use Rattle.program_laws.proofs.laws.out_of_memory_changes_no_log.Goals as goal

pub returns : goal.returns
returns g c = no_log_changed g.T.Texts.gives
