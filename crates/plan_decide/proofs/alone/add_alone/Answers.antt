use Rattle.std.proofs.Common.{◌∙◌, sym}
use Rattle.plan_decide.specs.Settings.{case_in}
use Rattle.plan_decide.specs.Cases.{case_jobs}
use Rattle.plan_decide.proofs.Collecting.{alone_more, alone_passed, late_is}
use Rattle.plan_decide.proofs.alone.add_alone.Goals as goal

pub returns-in_default : goal.returns-in_default
returns-in_default g c = alone_passed (case_in c.args.setting.now) c.args.standings.now c.args.job c.args.listed.now.items (λ late. c.in_default.not-Late (c.standing_of.ensures ∙ late)) c.requires.known

pub returns : goal.returns
returns g c =
    let t = case_in c.args.setting.now in
    let ss = c.args.standings.now in
    let late = sym c.standing_of.ensures ∙ c.in-Late.is in
    alone_more t ss c.args.job c.args.listed.now.items c.push.new.self.items c.in_ok-push.ensures.items (late_is t (case_jobs t) ss c.requires.standings c.args.job late) late c.requires.known
