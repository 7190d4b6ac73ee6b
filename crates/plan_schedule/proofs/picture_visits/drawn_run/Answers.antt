use Rattle.alt_graph.specs.Times.{earliest_of}
use Rattle.plan_schedule.proofs.{Behind.are_moments, Drawing.run_visits}
use Rattle.plan_schedule.proofs.picture_visits.drawn_run.Goals as goal

pub returns : goal.returns
returns g c =
    let is = c.in_ok-calendar.ensures in
    record {
      moments = earliest_of c.args.times.now;
      earliest = are_moments c.args.rest.now.plan c.args.rest.now.cell c.args.rest.now.present c.args.times.now c.requires;
      left = c.requires.left;
      visits = run_visits _ _ _ _ _ c.new-visits.ensures.items (rw is at c.in_ok-push_drawn.ensures) (rw is at c.in_ok-push_ahead.ensures);
      leavings = c.in_ok-leavings.ensures;
      late_by = rw (c.cell.ensures.plan, c.cell.ensures.cell) at c.lateness.ensures;
    }
