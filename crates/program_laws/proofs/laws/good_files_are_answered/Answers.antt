use Rattle.std.proofs.Common.{None, Some, refl}
use Rattle.people_names.specs.NameBooks.{no_names}
use Rattle.command_answers.specs.Shapes.{IsShapeLine}
use Rattle.command_answers.specs.Commands.{Itself}
use Rattle.command_answers.specs.Rests.{IsRestLine, job_asked}
use Rattle.command_answers.specs.Digests.{IsDigestAnswer}
use Rattle.command_answers.specs.LogLines.{IsLogLine}
use Rattle.command_answers.specs.Margins.{IsMarginAnswer}
use Rattle.command_answers.specs.Moves.{AreMovesAhead}
use Rattle.command_answers.specs.States.{IsStateLine}
use Rattle.command_answers.specs.Pictures.{IsLineAlone, IsLogDrawn, IsRestDrawing}
use Rattle.command_answers.proofs.AskedRuns.{OnLog}
use Rattle.command_run.specs.Laws.{in_log}
use Rattle.program_laws.proofs.GoodFiles.{good_facts, good_plan, good_bounds, good_named, good_search, good_drive, good_resume}
use Rattle.program_laws.proofs.GoodHubs.{good_hub}
use Rattle.program_laws.proofs.GoodInputs.{good_input}
use Rattle.program_laws.proofs.GoodRuns.{good_improvement, good_run, run_drawn}
use Rattle.program_laws.proofs.laws.good_files_are_answered.Goals as goal

pub returns-clause-facts : goal.returns-clause-facts
returns-clause-facts c = λ content path text description name shop outcome asked is parses run. good_facts content path text description name shop outcome asked is parses run

pub returns-clause-shape : goal.returns-clause-shape
returns-clause-shape c = λ content inputs p outcome asked good run. good_plan content inputs p good IsShapeLine outcome asked run

pub returns-clause-digest : goal.returns-clause-digest
returns-clause-digest c = λ content inputs p outcome asked good run. good_plan content inputs p good IsDigestAnswer outcome asked run

pub returns-clause-bounds : goal.returns-clause-bounds
returns-clause-bounds c = λ content inputs p outcome asked good run. good_bounds content inputs p good outcome asked run

pub returns-clause-margin : goal.returns-clause-margin
returns-clause-margin c = λ content inputs p outcome asked good run. good_named content inputs p good IsMarginAnswer outcome asked run

pub returns-clause-rest : goal.returns-clause-rest
returns-clause-rest c = λ wanted content run p text outcome asked good none runs. good_run content run p text Itself (λ q book. IsRestLine book wanted run.at q) good (job_asked wanted) outcome asked none runs

pub returns-clause-moves : goal.returns-clause-moves
returns-clause-moves c = λ content run p text outcome asked good runs. good_run content run p text Itself (λ q book. AreMovesAhead book run.at q) good None outcome asked refl runs

pub returns-clause-schedule_picture : goal.returns-clause-schedule_picture
returns-clause-schedule_picture c = λ before after content run p text outcome asked good runs.
    run_drawn p run (IsRestDrawing no_names run.at p text) runs.drawn before after outcome asked
    (good_run content run p text IsLineAlone (λ q book. IsRestDrawing book run.at q) good None runs.drawn asked refl runs.came) runs.draws

pub returns-clause-log : goal.returns-clause-log
returns-clause-log c = λ wanted content inputs log text p outcome asked good is run.
    good_run content (in_log inputs log) p (Some text) Itself (λ q book. OnLog (IsLogLine book wanted q)) (record { plan = good; log = (text, is, refl); unnamed = refl }) None outcome asked refl run

pub returns-clause-state : goal.returns-clause-state
returns-clause-state c = λ at content inputs log text p outcome asked good is run.
    good_run content (in_log inputs log) p (Some text) Itself (λ q book. OnLog (IsStateLine book at q)) (record { plan = good; log = (text, is, refl); unnamed = refl }) None outcome asked refl run

pub returns-clause-log_picture : goal.returns-clause-log_picture
returns-clause-log_picture c = λ before after content inputs log text p outcome asked good is run.
    run_drawn p (in_log inputs log) (IsLogDrawn no_names p text) run.drawn before after outcome asked
    (good_run content (in_log inputs log) p (Some text) IsLineAlone (λ q book. OnLog (IsLogDrawn book q)) (record { plan = good; log = (text, is, refl); unnamed = refl }) None run.drawn asked refl run.came) run.draws

pub returns-clause-plan : goal.returns-clause-plan
returns-clause-plan c = λ rounds content inputs p outcome asked good run. good_search content inputs p good rounds outcome asked run

pub returns-clause-improve : goal.returns-clause-improve
returns-clause-improve c = λ rounds content run p text outcome asked parses has runs. good_improvement content run p text rounds has outcome asked parses runs

pub returns-clause-drive : goal.returns-clause-drive
returns-clause-drive c = λ protocol before after content inputs p outcome asked good shaped acceptable run. good_drive content inputs p good protocol before after outcome asked shaped acceptable run

pub returns-clause-resume : goal.returns-clause-resume
returns-clause-resume c = λ protocol at before after content inputs log text p outcome asked good shaped is run. good_resume content inputs p good protocol at before after log text outcome asked shaped is run

pub returns-clause-hub : goal.returns-clause-hub
returns-clause-hub c = λ protocol before after content path instance name files plans outcome asked is good run. good_hub content instance name protocol path files plans before after outcome asked is good run

pub returns-clause-input : goal.returns-clause-input
returns-clause-input c = λ before after text description shop outcome given few parses run. good_input before after text description shop outcome given few parses run
