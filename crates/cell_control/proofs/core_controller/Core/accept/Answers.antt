use Rattle.std.proofs.Common.{◌-◌, arith, sym, subst}
use Rattle.cell_tables.specs.PlannedCell.{PlannedCell}
use Rattle.cell_control.specs.{Control.{Control, IsAnswered}, Fields.{control_of, AreFieldsOf}, Examined.ExaminedReport}
use Rattle.cell_control.proofs.Fields.{answered, some_left, fields_after}
use Rattle.cell_control.proofs.core_controller.Core.accept.Goals as goal

pub overflow_sub-self : goal.overflow_sub-self
overflow_sub-self g c =
    let s = c.self.inside in
    let new = c.make_step-ack.new in
    let v = control_of s.cell (g.P.Timed.times s.cell.basis) s.orders.items s.left s.began s.punctual in
    omega (arith, some_left v (g.D.Dues.dues s.dues) s.orders.capacity c.self.invariant c.possible.inside.report c.make_step-ack.result new.orders.items new.cell.cell c.make_step-ack.ensures.made)

pub invariant_of-self : goal.invariant_of-self
invariant_of-self g c =
    let s = c.self.inside in
    let new = c.make_step-ack.new in
    let v = control_of s.cell (g.P.Timed.times s.cell.basis) s.orders.items s.left s.began s.punctual in
    let still = c.still_punctual-self-inside.result in
    subst (λ (x : PlannedCell g.row.P.Denot). AreFieldsOf (control_of x (g.P.Timed.times x.basis) new.orders.items (s.left - 1) s.began still) (g.D.Dues.dues new.dues) new.orders.capacity)
    (sym c.make_step-ack.ensures.same_plan)
    (fields_after v (g.D.Dues.dues s.dues) s.orders.capacity c.self.invariant c.possible.inside.report c.make_step-ack.result new.orders.items new.cell.cell c.make_step-ack.ensures.made still
    c.still_punctual-self-inside.ensures (g.D.Dues.dues new.dues) new.orders.capacity c.make_step-ack.ensures.capacity c.make_step-ack.ensures.due_moments)

pub returns-clause-answered : goal.returns-clause-answered
returns-clause-answered g c =
    let s = c.self.inside in
    let new = c.make_step-ack.new in
    let report = c.possible.inside.report in
    let v = control_of s.cell (g.P.Timed.times s.cell.basis) s.orders.items s.left s.began s.punctual in
    let still = c.still_punctual-self-inside.result in
    let after = control_of new.cell (g.P.Timed.times new.cell.basis) new.orders.items (s.left - 1) s.began still in
    subst (λ (j : ExaminedReport). IsAnswered c.args.self.now j.report c.make_step-ack.result after) c.possible.view_is
    (subst (λ (before : Control). IsAnswered before report c.make_step-ack.result after) c.self.view_is
    (subst (λ (x : PlannedCell g.row.P.Denot). IsAnswered v report c.make_step-ack.result (control_of x (g.P.Timed.times x.basis) new.orders.items (s.left - 1) s.began still))
    (sym c.make_step-ack.ensures.same_plan)
    (answered v (g.D.Dues.dues s.dues) s.orders.capacity c.self.invariant report c.make_step-ack.result new.orders.items new.cell.cell c.make_step-ack.ensures.made still
    c.still_punctual-self-inside.ensures)))
