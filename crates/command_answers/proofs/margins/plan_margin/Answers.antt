use Rattle.command_answers.proofs.CheckLines.{margin_answered}
use Rattle.command_answers.proofs.margins.plan_margin.Goals as goal

pub returns-in-Ok : goal.returns-in-Ok
returns-in-Ok c =
    margin_answered c.args.names.now c.args.shaped c.in-Ok.verdict c.verdict_margin.result c.in-Ok.ensures.accepted c.in-Ok.ensures.refused c.verdict_margin.ensures
