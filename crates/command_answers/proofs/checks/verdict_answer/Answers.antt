use Rattle.shop_base.specs.Cell.{start}
use Rattle.plan_verifier.specs.Seen.{judged}
use Rattle.plan_verifier.proofs.AtStart.{accepted_ahead}
use Rattle.command_answers.proofs.CheckLines.{verdict_ranks}
use Rattle.command_answers.proofs.checks.verdict_answer.Goals as goal

pub first_line-text-requires : goal.first_line-text-requires
first_line-text-requires c = rw (c.into_parts-shaped.ensures.plan, c.into_parts-shaped.ensures.same) (verdict_ranks c.args.verdict c.into_parts-shaped.ensures.verified)

pub returns : goal.returns
returns c =
    let line = rw (c.into_parts-shaped.ensures.plan, c.into_parts-shaped.ensures.same) at c.in_ok-text.ensures in
    (line (start (judged c.args.verdict)) 0 (accepted_ahead c.args.verdict c.into_parts-shaped.ensures.verified), c.status_of-status.ensures)
