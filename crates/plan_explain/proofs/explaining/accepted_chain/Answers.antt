use Rattle.plan_verifier.proofs.Answers.{ok_each}
use Rattle.plan_explain.proofs.ChainTexts.{last_found}
use Rattle.plan_explain.proofs.explaining.accepted_chain.Goals as goal

pub returns-in-Some-last_to_leave : goal.returns-in-Some-last_to_leave
returns-in-Some-last_to_leave g c =
    let r = c.args.rest.now in
    rw c.in-None.is
    (ok_each c.chain_to-in-Some-last_to_leave.result
    (λ chain found. last_found r.plan r.cell r.present c.args.times.now c.in-Some-last_to_leave.job chain.items (rw (c.cell.ensures.plan, c.cell.ensures.cell) at c.in-Some-last_to_leave.ensures) found)
    c.chain_to-in-Some-last_to_leave.ensures)
