use Rattle.drive_laws.proofs.Recoveries as law
use Rattle.drive_laws.proofs.laws.a_log_without_events_is_driven.Goals as goal

pub returns : goal.returns
returns c = law.a_log_without_events_is_driven
