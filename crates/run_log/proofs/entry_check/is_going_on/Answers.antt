use Rattle.std.proofs.Common.{◌↔◌, sym, subst}
use Rattle.std.specs.Prelude.{IsTrue}
use Rattle.shop_base.specs.declared.report.Report.{Report}
use Rattle.shop_base.specs.Report.{ended}
use Rattle.run_log.specs.Audits.{IsGoingOn}
use Rattle.run_log.proofs.PossibleEntries.{cleaning_there}
use Rattle.run_log.proofs.entry_check.is_going_on.Goals as goal

pub returns-in-Finish : goal.returns-in-Finish
returns-in-Finish g c =
    subst (λ (r : Report). IsTrue c.is_worked.result ↔ IsGoingOn c.args.cell.now.plan c.args.cell.now.cell (ended r)) (sym c.in-Finish.is) c.is_worked.ensures

pub returns-in-Clean : goal.returns-in-Clean
returns-in-Clean g c =
    subst (λ (r : Report). IsTrue c.is_some.result ↔ IsGoingOn c.args.cell.now.plan c.args.cell.now.cell (ended r)) (sym c.in-Clean.is)
    (rw c.is_some.ensures
    (cleaning_there c.args.cell.now.plan c.args.cell.now.cell c.in-Clean.machine c.cleaned_since.result c.cleaned_since.ensures.since))
