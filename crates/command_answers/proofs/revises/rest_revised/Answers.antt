use Rattle.command_answers.proofs.revises.rest_revised.Goals as goal

pub verdict_revised-answer-requires-clause-judged : goal.verdict_revised-answer-requires-clause-judged
verdict_revised-answer-requires-clause-judged c = record { accepted = c.in_ok-verdict.ensures.accepted; refused = c.in_ok-verdict.ensures.refused }
