-- What is said to have ended, as a report of a planned shop.
use Rattle.std.specs.Prelude.{ℕ}
use Rattle.shop_base.specs.declared.report.Report as reports
use Rattle.shop_base.specs.declared.report.Report.TheVariants.{Finish, Clean}
use Rattle.shop_base.specs.{Plan.PlannedShop, Plan.machine_of, Report.at}
use Rattle.cell_tables.specs.declared.claim.Claim.{Claim}
use Rattle.cell_tables.specs.declared.claim.Claim.TheVariants.{Report, CleanAfter, FinishStep, CleanAfterStep}

-- the report that it is: of a step the end of the operation on the machine of that step; of a cleaning after a job, or after a step of one, the end of the cleaning
abbrev pub claimed : PlannedShop → Claim → reports.Report
claimed p (Report report) = report
claimed p (CleanAfter machine job moment) = Clean machine moment
claimed p (FinishStep job step moment) = Finish job (machine_of p job step) moment
claimed p (CleanAfterStep machine job step moment) = Clean machine moment

-- the moment at which it is said to have ended
abbrev pub claim_moment : Claim → ℕ
claim_moment (Report report) = at report
claim_moment (CleanAfter machine job moment) = moment
claim_moment (FinishStep job step moment) = moment
claim_moment (CleanAfterStep machine job step moment) = moment
