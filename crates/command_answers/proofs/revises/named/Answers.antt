use Rattle.std.proofs.Common.{inl, inr}
use Rattle.command_answers.specs.Asked.{asked}
use Rattle.command_answers.proofs.RevisedAnswers.{unnamed_answered}
use Rattle.command_answers.proofs.revises.named.Goals as goal

pub returns-in-Ok : goal.returns-in-Ok
returns-in-Ok c = inl (record { named = c.in-Ok.ensures.fine; printed = rw (← c.in-Ok.ensures.named) c.printed-answer.ensures })

pub returns-in-Err : goal.returns-in-Err
returns-in-Err c = inr (unnamed_answered (asked c.args.wanted) c.args.names.now c.args.next.now c.args.wanted.changes.now c.in-Err.why c.unrevised.result c.in-Err.ensures.refused c.unrevised.ensures)
