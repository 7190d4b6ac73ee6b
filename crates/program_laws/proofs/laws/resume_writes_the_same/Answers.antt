use Rattle.program_laws.proofs.SameResuming as resuming
use Rattle.program_laws.proofs.laws.resume_writes_the_same.Goals as goal

pub returns-clause-same : goal.returns-clause-same
returns-clause-same c = resuming.resume_writes_the_same

pub returns-clause-as_drive : goal.returns-clause-as_drive
returns-clause-as_drive c = resuming.resume_writes_as_drive
