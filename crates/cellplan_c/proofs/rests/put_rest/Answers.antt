use Rattle.cellplan_c.proofs.Asking.{rest_put, no_rest}
use Rattle.cellplan_c.proofs.rests.put_rest.Goals as goal

pub returns-in-Err-clause-asked : goal.returns-in-Err-clause-asked
returns-in-Err-clause-asked c = rw c.hand_over_status.ensures (no_rest _ _ _ _ c.in-Err.fault c.shaped-plan.ensures.control.sound.last_in_range c.in-Err.ensures.fault)

pub returns-in-Ok-answer-clause-asked : goal.returns-in-Ok-answer-clause-asked
returns-in-Ok-answer-clause-asked c =
    let next = rw (c.in-Ok.ensures.cell, c.in-Ok.ensures.present) at c.present-present.ensures.moment in
    rest_put _ _ _ _ _ _ _ c.in-Ok-answer.answer next.in_range next.in_order
    (rw (c.none-names.ensures, c.in-Ok.ensures.plan, c.in-Ok.ensures.cell, c.in-Ok.ensures.present) at c.in-Ok-answer.ensures) (rw (c.deref.ensures.value, c.from.ensures) at c.put_text.ensures)

pub answer_rest-answer-requires : goal.answer_rest-answer-requires
answer_rest-answer-requires c = rw c.requires tt
