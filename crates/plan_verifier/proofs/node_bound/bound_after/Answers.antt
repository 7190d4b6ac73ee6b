use Rattle.std.proofs.Common.{◌≡◌, ap, arith}
use Rattle.shop_base.specs.{declared.job_state.JobState.JobState, Cell.made}
use Rattle.plan_verifier.proofs.Holding.{alone_bound, first_bound, free_passed, later_bound}
use Rattle.plan_verifier.proofs.node_bound.bound_after.Goals as goal

pub returns-then-node-made : goal.returns-then-node-made
returns-then-node-made g c =
    free_passed c.args.cell.now.plan c.args.cell.now.cell c.args.present c.args.node c.shaped-plan.ensures.sound
    (omega (arith, c.if-node-made.true, ap (λ (s : JobState). s.made) c.job_state-made.ensures))

pub returns-then-made-node : goal.returns-then-made-node
returns-then-made-node g c =
    later_bound c.args.cell.now.plan c.args.cell.now.cell c.args.present c.args.node c.cleaning_bound-cleaned.result
    (λ next. omega (arith, next, c.if-made-node.true, ap (λ (s : JobState). s.made) c.job_state-made.ensures)) c.cleaning_bound-cleaned.ensures

pub returns-in-Some : goal.returns-in-Some
returns-in-Some g c =
    let here : made c.args.cell.now.cell c.args.node.job ≡ c.args.node.place = omega (arith, c.if-node-made.false, c.if-made-node.false, ap (λ (s : JobState). s.made) c.job_state-made.ensures) in
    first_bound _ _ _ _ c.job_bound-own.result here c.job_bound-own.ensures c.in-Some.cleaned c.prior_bound.result c.in-Some.ensures c.prior_bound.ensures

pub returns-in-None : goal.returns-in-None
returns-in-None g c =
    let here : made c.args.cell.now.cell c.args.node.job ≡ c.args.node.place = omega (arith, c.if-node-made.false, c.if-made-node.false, ap (λ (s : JobState). s.made) c.job_state-made.ensures) in
    alone_bound _ _ _ _ c.job_bound-own.result here c.job_bound-own.ensures c.in-None.ensures
