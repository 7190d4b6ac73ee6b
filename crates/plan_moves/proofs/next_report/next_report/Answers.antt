use Rattle.plan_moves.proofs.Turns.{idle_over, late_over, next_of}
use Rattle.plan_moves.proofs.next_report.next_report.Goals as goal

pub returns-then-soonest-le-MAX_MOMENT : goal.returns-then-soonest-le-MAX_MOMENT
returns-then-soonest-le-MAX_MOMENT g c =
    next_of _ c.args.present _ c.shaped-plan.ensures.control.sound c.in-Some.soonest c.in-Some.ensures c.report_of.result c.if-soonest-le-MAX_MOMENT.true c.report_of.ensures

pub returns-else-soonest-le-MAX_MOMENT : goal.returns-else-soonest-le-MAX_MOMENT
returns-else-soonest-le-MAX_MOMENT g c =
    late_over _ c.args.present _ c.shaped-plan.ensures.control.sound c.in-Some.soonest c.in-Some.ensures c.if-soonest-le-MAX_MOMENT.false

pub returns-in-None : goal.returns-in-None
returns-in-None g c = idle_over _ c.args.present _ c.shaped-plan.ensures.control.sound c.in-None.ensures
