use Rattle.std.proofs.Common.{rules}
use Rattle.cell_control.proofs.checking.check_report.Goals as goal

pub returns-in-Arrive-clause-first : goal.returns-in-Arrive-clause-first
returns-in-Arrive-clause-first g c = search rules depth 2

pub returns-in-Finish-clause-first : goal.returns-in-Finish-clause-first
returns-in-Finish-clause-first g c = search rules depth 2

pub returns-in-Clean-clause-first : goal.returns-in-Clean-clause-first
returns-in-Clean-clause-first g c = search rules depth 2
