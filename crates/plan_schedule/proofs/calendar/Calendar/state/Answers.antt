use Rattle.std.proofs.Common.{arith, ap}
use Rattle.shop_base.specs.declared.job_state.JobState.{JobState}
use Rattle.plan_schedule.proofs.calendar.Calendar.state.Goals as goal

pub returns-clause-early : goal.returns-clause-early
returns-clause-early g c =
    omega (arith, ap (λ (s : JobState). s.since) c.job_state.ensures, c.shaped-plan.ensures.sound.begun c.args.job, c.shaped-plan.ensures.sound.last_in_range)
