use Rattle.std.proofs.Common.{arith, sym, ◌∙◌}
use Rattle.shop_base.proofs.Visits.{visits_machine, stands_once}
use Rattle.shop_base.proofs.Sizes.{order_few}
use Rattle.alt_graph.proofs.Standing.{neighbours, left_machine, entered_machine}
use Rattle.alt_graph.proofs.arcs.blocking_arc.Goals as goal
use Rattle.alt_graph.proofs.arcs.blocking_arc.Goals.{then-left-entered-via-then-left-entered, then-left-entered-via-else-left-entered+then-place_of}

pub returns-in_err-left : goal.returns-in_err-left
returns-in_err-left c = rw c.from_residual.ensures (λ d arc. absurd (omega (arith, arc.place, arc.left.visits.within, c.in_err-left.ensures.machine)))

pub overflow_add-place_of : goal.overflow_add-place_of
overflow_add-place_of c =
    let shaped = c.machine_at.ensures.well_shaped in
    omega (arith, c.place_of.ensures.within, order_few _ shaped _ (visits_machine _ _ _ _ shaped c.in_ok-left.ensures.machine))

pub returns-then-left-entered : goal.returns-then-left-entered
returns-then-left-entered c = λ d arc.
    let left = left_machine _ c.args.from c.args.to d _ arc c.in_ok-left.ensures.machine in
    elim c.then-left-entered.branch [
      | then-left-entered-via-then-left-entered w ↦ absurd (w.if-left-entered.true (left ∙ sym (entered_machine _ c.args.from c.args.to d _ arc c.in_ok-entered.ensures.machine)))
      | then-left-entered-via-else-left-entered+then-place_of w ↦ (
          let (one, other) = neighbours _ c.args.from c.args.to d _ arc left in
          absurd (omega (arith, w.if-place_of.true, stands_once _ _ _ _ _ _ w.place_of.ensures one, stands_once _ _ _ _ _ _ w.place_of-else-left-entered.ensures other)))
    ]
