use Rattle.drive_laws.proofs.SameReports.{the_same_reports_are_answered_so}
use Rattle.drive_laws.proofs.laws.version_2_only_adds.Goals as goal

pub returns-clause-reports : goal.returns-clause-reports
returns-clause-reports c = the_same_reports_are_answered_so
