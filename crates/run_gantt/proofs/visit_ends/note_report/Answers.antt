use Rattle.run_gantt.proofs.VisitEndFacts.{arrival-passed, cleaning-passed, finish-passed, finish-noted}
use Rattle.run_gantt.proofs.visit_ends.note_report.Goals as goal

pub returns-in-Arrive : goal.returns-in-Arrive
returns-in-Arrive c later are = rw c.in-Arrive.is (arrival-passed _ later c.in-Arrive.job c.in-Arrive.at are)

pub returns-in-Some : goal.returns-in-Some
returns-in-Some c later are = rw c.in-Finish.is (finish-noted _ later c.in-Finish.job c.in-Finish.machine c.in-Some.place c.in-Finish.at c.in-Some.ensures are)

pub returns-in_default : goal.returns-in_default
returns-in_default c later are = rw c.in-Finish.is (finish-passed _ later c.in-Finish.job c.in-Finish.machine c.in-Finish.at c.in_default.ensures are)

pub returns-in-Clean : goal.returns-in-Clean
returns-in-Clean c later are = rw c.in-Clean.is (cleaning-passed _ later c.in-Clean.machine c.in-Clean.at are)
