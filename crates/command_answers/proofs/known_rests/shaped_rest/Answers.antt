use Rattle.std.proofs.Common.{rules, ℕ, ◌<◌, IfSome}
use Rattle.shop_base.specs.Plan.{jobs}
use Rattle.command_answers.specs.Commands.{WithNamesAndRun}
use Rattle.command_answers.specs.KnownRests.{IsFoundRest, IsInstead}
use Rattle.command_answers.specs.Steps.{IsOrMemory}
use Rattle.command_answers.proofs.AskedJobs.{if_there_by}
use Rattle.command_answers.proofs.known_rests.shaped_rest.Goals as goal

pub returns-in-Some-log-clause-asks : goal.returns-in-Some-log-clause-asks
returns-in-Some-log-clause-asks g c =
    let run = c.args.run.now in
    let inside : IfSome c.args.job (λ (j : ℕ). j < jobs c.args.shaped) = search rules in
    if_there_by IsInstead c.args.job c.args.shaped (WithNamesAndRun g.T.Texts.gives run.names run.log c.args.shaped (λ book log. IsOrMemory (IsFoundRest run.at c.args.shaped book log))) c.args.texts.now c.logged_rest.result c.logged_rest.new.texts inside
    (rw (← c.run.view_is, c.in-Some-log.is) c.logged_rest.ensures.asks)

pub returns-in-None-clause-asks : goal.returns-in-None-clause-asks
returns-in-None-clause-asks g c =
    let run = c.args.run.now in
    let inside : IfSome c.args.job (λ (j : ℕ). j < jobs c.args.shaped) = search rules in
    if_there_by IsInstead c.args.job c.args.shaped (WithNamesAndRun g.T.Texts.gives run.names run.log c.args.shaped (λ book log. IsOrMemory (IsFoundRest run.at c.args.shaped book log))) c.args.texts.now c.whole_rest.result c.whole_rest.new.texts inside
    (rw (← c.run.view_is, c.in-None.is) (c.whole_rest.ensures.asks _))
