use Rattle.std.proofs.Common.{ℕ, ◌<◌}
use Rattle.shop_base.specs.{Plan.jobs, Cell.IsGone, Graph.leaving}
use Rattle.alt_graph.specs.Times.{NodeTimes, earliest_of}
use Rattle.plan_verifier.specs.FromThere.{IsNeverStuckFrom, IsInTimeFrom, IsNeverGoneAfterFrom, IsNeverGoneBeforeFrom, IsJustInTimeFrom}
use Rattle.plan_verifier.proofs.GoingOn.{never_stuck_from, in_time_from, never_gone_after, never_gone_before, just_in_time_from}
use Rattle.plan_verifier.proofs.{Answers.{ok_both, ok_each}, ByBounds.{judged_accepted, judged_reason}}
use Rattle.plan_verifier.proofs.Verdicts.{verdict_exact, verdict_times, verdict_stops, verdict_just}
use Rattle.plan_verifier.proofs.ahead.judge.Goals as goal

pub returns : goal.returns
returns g c =
    let p = c.args.rest.now.plan in
    let cell = c.args.rest.now.cell in
    let t = c.args.rest.now.present in
    let judged = c.judge_from.result in
    let sound = c.shaped-shaped.ensures.sound in
    let shaped = c.shaped-shaped.ensures.well_shaped in
    let moment = c.present-present.ensures.moment in
    let known = rw (c.shaped-shaped.ensures.plan, c.cell-cell.ensures.plan, c.cell-cell.ensures.cell, c.present-present.ensures.present) at c.judge_from.ensures in
    let is = ok_each judged (judged_accepted p cell t shaped sound) known in
    let why = ok_each judged (judged_reason p cell t shaped sound) known in
    record {
      accepted = is;
      refused = why;
      exact = ok_both judged (λ verdict accepted reason. verdict_exact p cell t verdict accepted reason) is why;
      never_stuck = verdict_times p cell t (λ (times : NodeTimes). IsNeverStuckFrom p cell t) judged (λ times ordered. never_stuck_from p cell t times ordered) is why;
      in_time = verdict_times p cell t (λ (times : NodeTimes). IsInTimeFrom p cell t) judged (λ times ordered. in_time_from p cell t times ordered moment) is why;
      no_later = verdict_times p cell t (λ (times : NodeTimes). (j : ℕ) → j < jobs p → IsNeverGoneAfterFrom p cell t j (earliest_of times (leaving p j))) judged
          (λ times ordered. never_gone_after p cell t times ordered moment) is why;
      no_faster = verdict_times p cell t (λ (times : NodeTimes). (j : ℕ) → j < jobs p → (IsGone p cell j → ⊥) → IsNeverGoneBeforeFrom p cell t j (earliest_of times (leaving p j))) judged
          (λ times ordered. never_gone_before p cell t times ordered) is why;
      just_in_time = verdict_times p cell t (λ (times : NodeTimes). IsJustInTimeFrom p cell t (earliest_of times)) judged (λ times ordered. just_in_time_from p cell t times ordered moment) is why;
      stops = ok_each judged (λ verdict reason. verdict_stops p cell t verdict shaped reason) why;
      just = ok_each judged (λ verdict reason. verdict_just p cell t verdict shaped reason) why;
    }
