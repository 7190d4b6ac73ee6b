use Rattle.command_answers.proofs.RestAnswers.{judged_answered}
use Rattle.command_answers.proofs.rests.answer_rest.Goals as goal

pub answer_judged-answer-requires-clause-judged : goal.answer_judged-answer-requires-clause-judged
answer_judged-answer-requires-clause-judged g c = record { accepted = c.in_ok-verdict.ensures.accepted; refused = c.in_ok-verdict.ensures.refused }

pub returns : goal.returns
returns g c =
    let r = c.args.rest.now in
    judged_answered c.args.names.now c.args.wanted r.plan r.cell r.present c.in_ok-verdict.verdict c.answer_judged-answer.result
    (record { accepted = c.in_ok-verdict.ensures.accepted; refused = c.in_ok-verdict.ensures.refused }) c.answer_judged-answer.ensures
