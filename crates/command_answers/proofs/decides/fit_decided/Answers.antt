use Rattle.std.proofs.Common.{rules, ℕ, ◌<◌, IfSome}
use Rattle.shop_base.specs.Plan.{jobs}
use Rattle.command_answers.specs.Commands.{WithNamesAndRun}
use Rattle.command_answers.specs.Deciding.{job_of}
use Rattle.command_answers.specs.DecidingRests.{IsRunDecision}
use Rattle.command_answers.proofs.AskedJobs.{if_there}
use Rattle.command_answers.proofs.decides.fit_decided.Goals as goal

pub returns-in-Some-log : goal.returns-in-Some-log
returns-in-Some-log g c =
    let run = c.args.run.now in
    let inside : IfSome (job_of c.args.aim) (λ (j : ℕ). j < jobs c.args.shaped) = search rules in
    if_there g.T.Texts.gives (job_of c.args.aim) c.args.shaped (WithNamesAndRun g.T.Texts.gives run.names run.log c.args.shaped (λ book. IsRunDecision book c.args.aim run.at c.args.shaped)) c.args.texts.now
    c.logged_decided.result c.logged_decided.new.texts inside (rw (← c.run.view_is, c.in-Some-log.is) c.logged_decided.ensures)
