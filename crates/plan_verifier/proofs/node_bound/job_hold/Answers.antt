use Rattle.std.proofs.Common.{◌<◌, ap, arith}
use Rattle.shop_base.specs.{declared.job_state.JobState.JobState, Cell.made}
use Rattle.plan_verifier.proofs.Holding.{hold_done}
use Rattle.plan_verifier.proofs.node_bound.job_hold.Goals as goal

pub returns-then-state-2 : goal.returns-then-state-2
returns-then-state-2 g c =
    let inside : 0 < made c.args.cell.now.cell c.args.job = omega (arith, c.if-state-eq0.false, ap (λ (s : JobState). s.made) c.job_state-state.ensures) in
    hold_done _ _ c.args.job c.job_state-state.result c.in-Some.step c.job_state-state.ensures inside (rw c.shaped.ensures.plan at c.in-Some.ensures.none)
    (rw c.shaped.ensures.plan at c.in-Some.ensures.same) c.if-state-2.true
