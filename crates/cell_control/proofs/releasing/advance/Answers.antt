use Rattle.std.proofs.Common.{◌≡◌, ◌+◌, ◌-◌, ap, sym, subst, ◌∙◌, set}
use Rattle.shop_base.specs.{declared.move_order.MoveOrder.MoveOrder, declared.move_order.Spot.TheVariants.{Out, At}, Plan.jobs}
use Rattle.shop_base.specs.{Cell.{made, cleaning}, Move.source, Movers.due_of_cleaning}
use Rattle.shop_base.proofs.{Changes.{IsMoved, after_move-moved, moves_within}, InShop.ready_in_shop, Visits.visits_machine}
use Rattle.cell_control.specs.DueMoments.{AreDueMoments}
use Rattle.cell_control.proofs.{Seats.{on_source, outside_source}, DueMoments.{due_moments-entered, due_moments-moved}}
use Rattle.cell_control.proofs.releasing.advance.Goals as goal

pub renew_machine-requires-clause-machine : goal.renew_machine-requires-clause-machine
renew_machine-requires-clause-machine g c =
    let p = c.args.cell.now.plan in
    let cell = c.args.cell.now.cell in
    let at : source p cell c.args.job ≡ At c.in-At.machine = sym (ap (λ (o : MoveOrder). o.source) (c.make_move-order.ensures.order)) ∙ c.in-At.is in
    let on = on_source p cell c.args.job c.in-At.machine (moves_within p cell c.args.job c.args.at c.shaped-plan.ensures.sound c.requires.can) at in
    rw (ap (λ v. v.plan) c.make_move-order.ensures.moved) (visits_machine p c.args.job (made cell c.args.job - 1) c.in-At.machine c.shaped-plan.ensures.well_shaped on.visits)

pub returns-in-At-clause-due_moments : goal.returns-in-At-clause-due_moments
returns-in-At-clause-due_moments g c =
    let p = c.args.cell.now.plan in
    let cell = c.args.cell.now.cell in
    let new = c.make_move-order.new.self.cell in
    let at : source p cell c.args.job ≡ At c.in-At.machine = sym (ap (λ (o : MoveOrder). o.source) (c.make_move-order.ensures.order)) ∙ c.in-At.is in
    let on = on_source p cell c.args.job c.in-At.machine (moves_within p cell c.args.job c.args.at c.shaped-plan.ensures.sound c.requires.can) at in
    let moved : IsMoved p cell c.args.job c.args.at new = subst (IsMoved p cell c.args.job c.args.at) (sym (ap (λ v. v.cell) c.make_move-order.ensures.moved))
    (after_move-moved p cell c.args.job c.args.at c.shaped-plan.ensures.well_shaped c.shaped-plan.ensures.sound c.requires.can) in
    subst (AreDueMoments p new)
    (sym ((rw (ap (λ v. v.plan) c.make_move-order.ensures.moved) at c.renew_machine.ensures) ∙ ap (λ ds. set ds (jobs p + c.in-At.machine) (due_of_cleaning p c.in-At.machine (cleaning new c.in-At.machine))) (rw (ap (λ v. v.plan) c.make_move-order.ensures.moved) at c.renew_job.ensures)))
    (due_moments-moved p cell new (g.D.Dues.dues c.args.dues.now) c.args.job (made cell c.args.job - 1) c.in-At.machine c.args.at
    (ready_in_shop p cell c.args.job c.shaped-plan.ensures.sound c.requires.can.is_ready)
    (visits_machine p c.args.job (made cell c.args.job - 1) c.in-At.machine c.shaped-plan.ensures.well_shaped on.visits) c.requires.due_moments moved on)

pub returns-in_default-clause-due_moments : goal.returns-in_default-clause-due_moments
returns-in_default-clause-due_moments g c =
    let p = c.args.cell.now.plan in
    let cell = c.args.cell.now.cell in
    let new = c.make_move-order.new.self.cell in
    let out : source p cell c.args.job ≡ Out = sym (ap (λ (o : MoveOrder). o.source) (c.make_move-order.ensures.order)) ∙ c.in_default.is in
    let moved : IsMoved p cell c.args.job c.args.at new = subst (IsMoved p cell c.args.job c.args.at) (sym (ap (λ v. v.cell) c.make_move-order.ensures.moved))
    (after_move-moved p cell c.args.job c.args.at c.shaped-plan.ensures.well_shaped c.shaped-plan.ensures.sound c.requires.can) in
    subst (AreDueMoments p new) (sym (rw (ap (λ v. v.plan) c.make_move-order.ensures.moved) at c.renew_job.ensures))
    (due_moments-entered p cell new (g.D.Dues.dues c.args.dues.now) c.args.job c.args.at
    (ready_in_shop p cell c.args.job c.shaped-plan.ensures.sound c.requires.can.is_ready) c.requires.due_moments moved
    (outside_source p cell c.args.job (moves_within p cell c.args.job c.args.at c.shaped-plan.ensures.sound c.requires.can) out))
