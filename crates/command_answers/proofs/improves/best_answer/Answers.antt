use Rattle.command_answers.specs.Improving.{RoundsOf}
use Rattle.command_answers.proofs.ImproveLines.{best_answer_is, no_best_is}
use Rattle.command_answers.proofs.improves.best_answer.Goals as goal

pub returns-in-Ok : goal.returns-in-Ok
returns-in-Ok g c =
    best_answer_is (RoundsOf c.args.rounds (λ b. (goal.Improver-dyn g (b.vtable, b.value)).may b.value) c.args.improvers.now) c.args.rounds c.args.start c.in-Ok.verdict c.verdict_answer-answer.result
    (record {
      same = c.in-Ok.ensures.same;
      acyclic = c.in-Ok.ensures.acyclic;
      never_worse = c.in-Ok.ensures.never_worse;
      found = c.in-Ok.ensures.found;
      stays_accepted = λ accepted. c.in-Ok.ensures.exact.0 (c.in-Ok.ensures.stays_accepted accepted);
    })
    c.in-Ok.ensures.few_rounds c.in-Ok.ensures.exact c.verdict_answer-answer.ensures

pub returns-in-Err : goal.returns-in-Err
returns-in-Err g c =
    no_best_is (RoundsOf c.args.rounds (λ b. (goal.Improver-dyn g (b.vtable, b.value)).may b.value) c.args.improvers.now) c.args.rounds c.args.start c.in-Err.refused.fault c.unfound_answer.result
    c.in-Err.ensures.refused c.unfound_answer.ensures
