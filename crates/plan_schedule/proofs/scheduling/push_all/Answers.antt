use Rattle.shop_base.specs.Plan.{jobs, machines}
use Rattle.plan_explain.specs.Parts.{AreTextsFrom}
use Rattle.plan_explain.proofs.Texts.{both_added}
use Rattle.plan_schedule.specs.Calendars.{IsJobTextBy, IsCleanedTextBy}
use Rattle.plan_schedule.proofs.scheduling.push_all.Goals as goal

pub returns : goal.returns
returns g c =
    let k = c.args.calendar.now in
    both_added (AreTextsFrom (IsJobTextBy c.args.names.now k) 0 (jobs k.plan)) (AreTextsFrom (IsCleanedTextBy c.args.names.now k) 0 (machines k.plan)) c.push_cleanings.result _ _ _
    c.in_ok-push_jobs.ensures c.push_cleanings.ensures
