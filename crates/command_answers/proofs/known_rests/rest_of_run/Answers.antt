use Rattle.command_answers.specs.Commands.{IfThereBy, WithNamesAndRun}
use Rattle.command_answers.specs.KnownRests.{IsFoundRest, IsInstead}
use Rattle.command_answers.specs.Steps.{IsOrMemory}
use Rattle.command_answers.proofs.ShapedPlans.{followed}
use Rattle.command_answers.proofs.known_rests.rest_of_run.Goals as goal

pub returns-in-Ok-clause-asks : goal.returns-in-Ok-clause-asks
returns-in-Ok-clause-asks g c =
    let run = c.args.run.now in
    followed g.T.Texts.gives IsInstead run.inputs (λ p. IfThereBy IsInstead c.args.job p (WithNamesAndRun g.T.Texts.gives run.names run.log p (λ book log. IsOrMemory (IsFoundRest run.at p book log))))
    c.args.texts.now c.shape_files.new.texts c.shape_files.result (rw (← c.run.view_is) c.shape_files.ensures) c.in_ok-shaped.field-0 c.in-Ok.shaped c.shaped_rest.result c.shaped_rest.new.texts c.in_ok-shaped.was c.in-Ok.is
    c.shaped_rest.ensures.asks
