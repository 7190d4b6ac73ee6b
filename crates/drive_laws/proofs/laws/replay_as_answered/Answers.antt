use Rattle.drive_laws.proofs.ReplayInProtocol as again
use Rattle.drive_laws.proofs.laws.replay_as_answered.Goals as goal

pub returns-clause-plain : goal.returns-clause-plain
returns-clause-plain c = again.replay_as_answered

pub returns-clause-stated : goal.returns-clause-stated
returns-clause-stated c = again.replay_in_protocol
