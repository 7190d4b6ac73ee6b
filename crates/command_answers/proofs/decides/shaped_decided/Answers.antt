use Rattle.plan_decide.specs.Pasts.{whole_case}
use Rattle.command_answers.proofs.DecideLines.{decided_is}
use Rattle.command_answers.proofs.decides.shaped_decided.Goals as goal

pub returns-in-Ok : goal.returns-in-Ok
returns-in-Ok g c = decided_is c.args.names.now (whole_case c.args.shaped) c.args.aim c.in-Ok.decided c.decided_answer-answer.result c.in-Ok.ensures.decided c.decided_answer-answer.ensures
