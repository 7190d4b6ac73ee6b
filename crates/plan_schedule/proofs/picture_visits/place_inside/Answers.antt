use Rattle.std.proofs.Common.{◌-◌, sym, arith}
use Rattle.plan_schedule.proofs.Drawing.{inside_behind}
use Rattle.plan_schedule.proofs.picture_visits.place_inside.Goals as goal

pub returns-clause-place : goal.returns-clause-place
returns-clause-place g c =
    let k = c.args.calendar.now in
    sym (inside_behind k.plan k.cell c.args.job (c.state-made.result.made - 1) (omega (arith, c.state-made.ensures.made)) (omega arith))
