use Rattle.plan_verifier.proofs.AtStart.{accepted_ahead, reason_ahead}
use Rattle.command_answers.proofs.known_rests.verdict_rest.Goals as goal

pub returns-in-Ok-clause-judged : goal.returns-in-Ok-clause-judged
returns-in-Ok-clause-judged c =
    rw (c.in-Ok.ensures.start, c.into_parts-shaped.ensures.plan, c.into_parts-shaped.ensures.same)
    (record { accepted = accepted_ahead c.args.verdict c.into_parts-shaped.ensures.verified; refused = reason_ahead c.args.verdict c.requires })
