use Rattle.std.proofs.Common.{ℕ, ◌-◌, ◌++◌, ◌∷◌, [], ap, ◌∙◌, arith}
use Rattle.shop_base.specs.Plan.{steps}
use Rattle.plan_schedule.specs.{Calendars.at_of, DrawnVisits.job_visits}
use Rattle.plan_schedule.proofs.Drawing.{count_ahead, one_more_visit}
use Rattle.plan_schedule.proofs.picture_visits.push_job.Goals as goal

pub loop-place-preserved : goal.loop-place-preserved
loop-place-preserved g c =
    let d = c.args.calendar.now in
    let so_far = c.loop-place.invariant in
    record {
      from = omega (arith, so_far.from);
      gone = λ gone. absurd (omega (arith, gone, so_far.from, c.loop-place-test.true, c.steps-place-end.ensures));
      visits = one_more_visit d.plan (at_of d) _ _ _ c.args.job c.state-made.result.made c.loop-place.place so_far.from so_far.visits
          (c.in_ok-push.ensures.items ∙ ap (λ visit. c.loop-place.visits.items ++ visit ∷ []) c.drawn_visit.ensures);
    }

pub returns : goal.returns
returns g c =
    let d = c.args.calendar.now in
    let j = c.args.job in
    let n = steps d.plan j in
    let ahead = λ (m k : ℕ). c.args.visits.now.items ++ job_visits d.plan (at_of d) j m k in
    let so_far = c.loop-place.invariant in
    let end = c.steps-place-end.ensures in
    so_far.visits
    ∙ ap (ahead c.state-made.result.made) (count_ahead c.state-made.result.made c.loop-place.place n so_far.from (rw end at c.loop-place-test.false) (rw end at c.loop-place.auto.place-end) so_far.gone)
    ∙ ap (λ (m : ℕ). ahead m (n - m)) c.state-made.ensures.made
