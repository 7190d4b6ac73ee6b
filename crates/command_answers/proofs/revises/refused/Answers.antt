use Rattle.std.proofs.Common.{[]}
use Rattle.cell_tables.specs.Events.{events_of}
use Rattle.command_answers.specs.Asked.{asked}
use Rattle.command_answers.proofs.RevisedAnswers.{behind_those_left}
use Rattle.command_answers.proofs.revises.refused.Goals as goal

pub returns-in-Ok : goal.returns-in-Ok
returns-in-Ok c =
    let r = c.args.run.now.rest in
    behind_those_left (asked c.args.wanted) [] c.args.names.now r.plan r.cell r.present (events_of c.args.run.now.entries.items) c.in-Ok.left c.args.change c.args.fault c.refused_behind-answer.result
    (rw (← c.leaves_out-leaves_out.ensures, ← c.deref.ensures.value) c.in-Ok.ensures.next) c.refused_behind-answer.ensures
