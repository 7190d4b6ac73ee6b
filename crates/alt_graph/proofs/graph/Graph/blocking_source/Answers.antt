use Rattle.std.proofs.Common.{arith, refl}
use Rattle.shop_base.proofs.Visits.{visits_job}
use Rattle.shop_base.proofs.Sizes.{steps_few}
use Rattle.alt_graph.proofs.Standing.{first_free}
use Rattle.alt_graph.proofs.graph.Graph.blocking_source.Goals as goal

pub returns-in_err-ahead-clause-arc : goal.returns-in_err-ahead-clause-arc
returns-in_err-ahead-clause-arc c =
    rw c.from_residual-in_err-ahead.ensures (first_free _ _ c.args.node (c.in_err-ahead.ensures _ (rw c.shaped-shaped.ensures.plan at c.in_ok-machine.ensures.machine)))

pub overflow_add-node : goal.overflow_add-node
overflow_add-node c =
    let (a, ahead, here) = c.in_ok-ahead.ensures _ (rw c.shaped-shaped.ensures.plan at c.in_ok-machine.ensures.machine) in
    omega (arith, ahead.visits.within, steps_few _ c.shaped-shaped.ensures.sound.shaped _ (visits_job _ _ _ _ ahead.visits))

pub returns-clause-arc : goal.returns-clause-arc
returns-clause-arc c =
    let (a, ahead, here) = c.in_ok-ahead.ensures _ (rw c.shaped-shaped.ensures.plan at c.in_ok-machine.ensures.machine) in
    record {
      machine = c.in_ok-machine.machine;
      ahead = a;
      step = c.in_ok-ahead.ahead.place;
      left = ahead;
      enters = here;
      place = refl;
      length = rw c.shaped-shaped.ensures.plan at c.clean_of-length.ensures;
    }
