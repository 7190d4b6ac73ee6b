use Rattle.plan_seek.specs.Turns.{search_by}
use Rattle.command_answers.proofs.SearchLines.{found_answer, no_plan_answer_is}
use Rattle.command_answers.proofs.search.search_answer.Goals as goal

pub returns-in-Ok : goal.returns-in-Ok
returns-in-Ok g c =
    rw (← c.parsed.view_is, ← c.plan.view_is) (found_answer (search_by (λ b. (goal.Proposer-dyn g (b.vtable, b.value)).may b.value) c.args.proposers.now _) c.args.rounds
    c.in-Ok.verified.planned c.document_answer-answer.result
    c.in-Ok.ensures.same c.in-Ok.ensures.accepted c.in-Ok.ensures.sought (rw (← c.shaped.ensures.same, ← c.plan-in-Ok.ensures.same) c.document_answer-answer.ensures))

pub returns : goal.returns
returns g c =
    rw (← c.parsed.view_is, ← c.plan.view_is) (no_plan_answer_is (search_by (λ b. (goal.Proposer-dyn g (b.vtable, b.value)).may b.value) c.args.proposers.now _) c.args.rounds
    c.in-Err.refused.fault c.no_plan_answer.result c.in-Err.ensures.refused c.no_plan_answer.ensures)
