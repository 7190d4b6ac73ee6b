use Rattle.std.proofs.Common.{rules}
use Rattle.shop_base.proofs.report.Report.at.Goals as goal

pub returns-in-Arrive : goal.returns-in-Arrive
returns-in-Arrive c = search rules depth 2
