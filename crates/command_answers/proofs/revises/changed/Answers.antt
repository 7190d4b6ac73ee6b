use Rattle.std.proofs.Common.{inl, inr}
use Rattle.cell_tables.specs.Events.{events_of}
use Rattle.command_answers.specs.Asked.{asked}
use Rattle.command_answers.proofs.RevisedAnswers.{refused_answered}
use Rattle.command_answers.proofs.revises.changed.Goals as goal

pub returns-in-Ok : goal.returns-in-Ok
returns-in-Ok c = inl (record { next = c.in-Ok.next; is = rw (← c.leaves_out-leaves_out.ensures, ← c.deref.ensures.value) c.in-Ok.ensures.next; named = c.named-answer.ensures })

pub returns-in-Err-Refused : goal.returns-in-Err-Refused
returns-in-Err-Refused c =
    let r = c.args.run.now.rest in
    inr (refused_answered (asked c.args.wanted) c.args.description.now c.args.names.now r.plan r.cell r.present (events_of c.args.run.now.entries.items) c.in-Err-Refused.change c.in-Err-Refused.fault c.refused.result
    (rw (← c.leaves_out-leaves_out.ensures, ← c.deref.ensures.value, ← c.in-Err-Refused.field-0-is) c.in-Err-Refused.ensures.refused) c.refused.ensures)
