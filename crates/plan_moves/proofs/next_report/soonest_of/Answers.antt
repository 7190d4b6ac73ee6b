use Rattle.std.proofs.Common.{arith}
use Rattle.plan_moves.proofs.Turns.{first_soonest, passed_more, passed_idle}
use Rattle.plan_moves.proofs.next_report.soonest_of.Goals as goal

pub returns-in-Some : goal.returns-in-Some
returns-in-Some g c =
    let job_count = rw c.shaped-shaped.ensures.plan at c.job_count.ensures.count in
    let machine_count = rw c.shaped-shaped.ensures.plan at c.machine_count.ensures.count in
    first_soonest _ c.args.present _ _ c.loop-turn.turn c.in-Some.soonest (omega (arith, c.loop-turn-test.true, job_count, machine_count)) c.loop-turn.invariant c.in-Some.ensures

pub loop-turn-preserved : goal.loop-turn-preserved
loop-turn-preserved g c =
    let passed = rw c.in_default.is at c.if_first.ensures in
    passed_more _ c.args.present _ c.loop-turn.turn c.loop-turn.invariant passed

pub returns : goal.returns
returns g c =
    let job_count = rw c.shaped-shaped.ensures.plan at c.job_count.ensures.count in
    let machine_count = rw c.shaped-shaped.ensures.plan at c.machine_count.ensures.count in
    passed_idle _ c.args.present _ c.shaped-shaped.ensures.control.sound (λ k less. c.loop-turn.invariant k (omega (arith, less, c.loop-turn-test.false, job_count, machine_count)))
