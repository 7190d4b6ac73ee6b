use Rattle.program_laws.proofs.PlainWords.{instance_first_of, facts_first, plan_first, improve_first, picture_first, drive_first, resume_first, hub_first}
use Rattle.program_laws.proofs.laws.instance_first.Goals as goal

pub returns-clause-facts : goal.returns-clause-facts
returns-clause-facts c = λ content inputs text fault outcome asked is first run. facts_first content inputs.path text inputs.name fault is first outcome asked run

pub returns-clause-shape : goal.returns-clause-shape
returns-clause-shape c = λ content inputs text fault outcome asked is first run. instance_first_of content inputs text fault is first _ outcome asked run

pub returns-clause-digest : goal.returns-clause-digest
returns-clause-digest c = λ content inputs text fault outcome asked is first run. instance_first_of content inputs text fault is first _ outcome asked run

pub returns-clause-rest : goal.returns-clause-rest
returns-clause-rest c = λ wanted run content inputs text fault outcome asked is first runs. instance_first_of content inputs text fault is first _ outcome asked runs

pub returns-clause-moves : goal.returns-clause-moves
returns-clause-moves c = λ run content inputs text fault outcome asked is first runs. instance_first_of content inputs text fault is first _ outcome asked runs

pub returns-clause-schedule_picture : goal.returns-clause-schedule_picture
returns-clause-schedule_picture c = λ run before after content inputs text fault outcome asked is first runs. picture_first content inputs text fault is first _ before after outcome asked runs

pub returns-clause-bounds : goal.returns-clause-bounds
returns-clause-bounds c = λ names content inputs text fault outcome asked is first run. instance_first_of content inputs text fault is first _ outcome asked run

pub returns-clause-margin : goal.returns-clause-margin
returns-clause-margin c = λ names content inputs text fault outcome asked is first run. instance_first_of content inputs text fault is first _ outcome asked run

pub returns-clause-log : goal.returns-clause-log
returns-clause-log c = λ wanted names log content inputs text fault outcome asked is first run. instance_first_of content inputs text fault is first _ outcome asked run

pub returns-clause-state : goal.returns-clause-state
returns-clause-state c = λ names log at content inputs text fault outcome asked is first run. instance_first_of content inputs text fault is first _ outcome asked run

pub returns-clause-log_picture : goal.returns-clause-log_picture
returns-clause-log_picture c = λ names log before after content inputs text fault outcome asked is first run. picture_first content inputs text fault is first _ before after outcome asked run

pub returns-clause-plan : goal.returns-clause-plan
returns-clause-plan c = λ rounds content inputs text fault outcome asked is first run. plan_first content inputs text fault is first rounds outcome asked run

pub returns-clause-improve : goal.returns-clause-improve
returns-clause-improve c = λ rounds run content inputs text fault outcome asked is first runs. improve_first content inputs text fault is first rounds run outcome asked runs

pub returns-clause-drive : goal.returns-clause-drive
returns-clause-drive c = λ protocol before after content inputs text fault outcome asked is first run. drive_first content inputs text fault is first protocol before after outcome asked run

pub returns-clause-resume : goal.returns-clause-resume
returns-clause-resume c = λ protocol at log before after content inputs text fault outcome asked is first run. resume_first content inputs text fault is first protocol at log before after outcome asked run

pub returns-clause-hub : goal.returns-clause-hub
returns-clause-hub c = λ protocol plans before after content inputs text fault outcome asked is first run. hub_first content inputs.path text inputs.name fault is first protocol inputs.plan plans before after outcome asked run
