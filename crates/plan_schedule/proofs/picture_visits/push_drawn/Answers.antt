use Rattle.std.proofs.Common.{◌++◌, ◌∷◌, [], ap, ◌∙◌, refl, arith}
use Rattle.plan_schedule.specs.{Calendars.at_of, DrawnVisits.ended_visit}
use Rattle.plan_schedule.proofs.Drawing.{one_more_drawn, all_drawn}
use Rattle.plan_schedule.proofs.picture_visits.push_drawn.Goals as goal

pub loop-visit-init : goal.loop-visit-init
loop-visit-init g c = refl

pub loop-visit-preserved : goal.loop-visit-preserved
loop-visit-preserved g c =
    let k = c.args.calendar.now in
    one_more_drawn (ended_visit k.plan k.cell k.present (at_of k)) _ _ _ c.args.drawn.now c.loop-visit.visit-index _ (omega arith) c.loop-visit.invariant
    (c.in_ok-push.ensures.items ∙ ap (λ visit. c.loop-visit.visits.items ++ visit ∷ []) c.ended_visit.ensures)

pub returns : goal.returns
returns g c =
    let k = c.args.calendar.now in all_drawn (ended_visit k.plan k.cell k.present (at_of k)) _ _ c.args.drawn.now c.loop-visit.visit-index (omega arith) c.loop-visit.invariant
