use Rattle.command_answers.proofs.DecideRestLines.{rest_decided_is}
use Rattle.command_answers.proofs.rest_decides.answer_decided.Goals as goal

pub returns-in-Ok : goal.returns-in-Ok
returns-in-Ok g c =
    let r = c.args.rest.now in
    rest_decided_is c.args.names.now c.args.aim r.plan r.cell r.present c.in-Ok.decided c.decided_answer-answer.result c.in-Ok.ensures.decided c.decided_answer-answer.ensures
