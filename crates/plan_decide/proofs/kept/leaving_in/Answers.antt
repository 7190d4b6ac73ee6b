use Rattle.plan_decide.specs.Settings.{case_in}
use Rattle.plan_decide.proofs.Kepts.{rest_leaving}
use Rattle.plan_decide.proofs.kept.leaving_in.Goals as goal

pub returns-in-Rest : goal.returns-in-Rest
returns-in-Rest g c =
    let fits = rw c.in-Rest.is at c.requires.fits in
    let inside = rw c.in-Rest.is at c.requires.job in
    rw c.in-Rest.is (rest_leaving (case_in c.args.setting.now).past c.in-Rest.shaped c.in-Rest.times c.args.job c.leave_time.result fits inside c.leave_time.ensures)
