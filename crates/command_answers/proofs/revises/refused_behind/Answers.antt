use Rattle.command_answers.specs.Asked.{asked}
use Rattle.command_answers.proofs.RevisedAnswers.{refused_itself, unnamed_before}
use Rattle.command_answers.proofs.revises.refused_behind.Goals as goal

pub returns-in-Ok : goal.returns-in-Ok
returns-in-Ok c = refused_itself (asked c.args.wanted) c.args.names.now c.args.left.now c.args.change c.args.fault c.unrevised.result c.in-Ok.ensures.fine c.unrevised.ensures

pub returns-in-Err : goal.returns-in-Err
returns-in-Err c =
    unnamed_before (asked c.args.wanted) c.args.names.now c.args.left.now c.args.change c.args.fault c.in-Err.why c.unrevised-in-Err.result c.in-Err.ensures.refused c.unrevised-in-Err.ensures
