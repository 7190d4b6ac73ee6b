use Rattle.std.proofs.Common.{refl}
use Rattle.plan_decide.specs.Settings.{case_in}
use Rattle.plan_decide.specs.Cases.{case_jobs}
use Rattle.plan_decide.proofs.Collecting.{none_alone}
use Rattle.plan_decide.proofs.promises.ask_promises.Goals as goal

pub returns-in-Orders : goal.returns-in-Orders
returns-in-Orders g c =
    let t = case_in c.args.setting.now in
    none_alone t c.args.standings.now (case_jobs t) refl c.requires.standings c.requires.none

pub returns-in-Open : goal.returns-in-Open
returns-in-Open g c =
    let t = case_in c.args.setting.now in
    none_alone t c.args.standings.now (case_jobs t) refl c.requires.standings c.requires.none
