use Rattle.plan_decide.specs.Settings.{case_in}
use Rattle.plan_decide.proofs.Kepts.{rest_makespan}
use Rattle.plan_decide.proofs.kept.makespan_of.Goals as goal

pub returns-in-Rest : goal.returns-in-Rest
returns-in-Rest g c =
    let fits = rw c.in-Rest.is at c.requires in
    rw c.in-Rest.is (rest_makespan (case_in c.args.setting.now).past c.in-Rest.shaped c.in-Rest.times c.makespan-in-Rest.result fits c.makespan-in-Rest.ensures)
