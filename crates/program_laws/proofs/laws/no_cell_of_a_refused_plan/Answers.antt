use Rattle.program_laws.proofs.GoodFiles.{no_drive, no_unshaped_resume, no_resume}
use Rattle.program_laws.proofs.GoodHubs.{no_hub}
use Rattle.program_laws.proofs.laws.no_cell_of_a_refused_plan.Goals as goal

pub returns-clause-drive : goal.returns-clause-drive
returns-clause-drive c = λ protocol before after content inputs p outcome asked good never run. no_drive content inputs p good protocol before after outcome asked never run

pub returns-clause-unshaped : goal.returns-clause-unshaped
returns-clause-unshaped c = λ protocol at log before after content inputs p outcome asked good never run. no_unshaped_resume content inputs p good protocol at log before after outcome asked never run

pub returns-clause-resume : goal.returns-clause-resume
returns-clause-resume c = λ protocol at before after content inputs log text p recorded outcome asked good well is parses events not_past no_plan run.
    no_resume content inputs p good protocol at text recorded well parses events not_past no_plan log before after outcome asked is run

pub returns-clause-hub : goal.returns-clause-hub
returns-clause-hub c = λ protocol before after content path instance name files plans file p others outcome asked is good parses never run.
    no_hub content instance name file p others parses never protocol path files plans before after outcome asked is good run
