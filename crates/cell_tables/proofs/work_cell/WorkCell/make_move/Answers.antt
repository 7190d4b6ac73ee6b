use Rattle.std.proofs.Common.{◌≡◌, ◌+◌, sym, ap, subst, ◌∙◌, arith}
use Rattle.shop_base.specs.declared.job_state.JobState.{JobState}
use Rattle.shop_base.specs.Cell.{made, job_in}
use Rattle.shop_base.specs.Move.{after_leaving, after_move}
use Rattle.cell_tables.specs.Tables.{cell_of, AreTables}
use Rattle.cell_tables.proofs.Values.{changed_value, IsToMove, to_move, moves_few, source_is_spot, comes_in_room, moved, moved-are_sound}
use Rattle.cell_tables.proofs.work_cell.WorkCell.make_move.Goals as goal

pub overflow_add-made : goal.overflow_add-made
overflow_add-made g c =
    let p = g.P.Planned.planned c.self.inside.basis in
    let t = c.self.inside.tables in
    let o = c.next_order-order.result in
    let move : IsToMove p t c.args.job c.args.at o = to_move c.self.inside.basis p t c.args.self.now c.args.job c.args.at o c.self.view_is c.self.invariant c.requires.can c.requires.keeps c.next_order-order.ensures in
    let count : c.job_state-made.result.made + 1 ≡ made (cell_of p t) c.args.job + 1 =
    ap (λ (s : JobState). s.made + 1) (c.job_state-made.ensures ∙ ap (λ v. job_in v.cell c.args.job) (sym c.self.view_is)) in
    omega (arith, count, moves_few p t c.args.job c.args.at o move)

pub leave-requires-clause-source : goal.leave-requires-clause-source
leave-requires-clause-source g c =
    let p = g.P.Planned.planned c.self.inside.basis in
    let t = c.self.inside.tables in
    let o = c.next_order-order.result in
    let move : IsToMove p t c.args.job c.args.at o = to_move c.self.inside.basis p t c.args.self.now c.args.job c.args.at o c.self.view_is c.self.invariant c.requires.can c.requires.keeps c.next_order-order.ensures in
    rw c.shaped.ensures (source_is_spot p t c.args.job c.args.at o move)

pub enter-requires : goal.enter-requires
enter-requires g c =
    let p = g.P.Planned.planned c.self.inside.basis in
    let t = c.self.inside.tables in
    let o = c.next_order-order.result in
    let move : IsToMove p t c.args.job c.args.at o = to_move c.self.inside.basis p t c.args.self.now c.args.job c.args.at o c.self.view_is c.self.invariant c.requires.can c.requires.keeps c.next_order-order.ensures in
    let leaves : cell_of p c.leave.new.self ≡ after_leaving p (cell_of p t) o.source c.args.at =
    subst (λ q. cell_of q c.leave.new.self ≡ after_leaving q (cell_of q t) o.source c.args.at) c.shaped.ensures c.leave.ensures.left in
    let tables : AreTables p c.leave.new.self = subst (λ q. AreTables q c.leave.new.self) c.shaped.ensures c.leave.ensures.tables in
    comes_in_room p t c.args.job c.args.at o move c.leave.new.self leaves tables

pub invariant_of-self : goal.invariant_of-self
invariant_of-self g c =
    let p = g.P.Planned.planned c.self.inside.basis in
    let t = c.self.inside.tables in
    let o = c.next_order-order.result in
    let move : IsToMove p t c.args.job c.args.at o = to_move c.self.inside.basis p t c.args.self.now c.args.job c.args.at o c.self.view_is c.self.invariant c.requires.can c.requires.keeps c.next_order-order.ensures in
    let leaves : cell_of p c.leave.new.self ≡ after_leaving p (cell_of p t) o.source c.args.at =
    subst (λ q. cell_of q c.leave.new.self ≡ after_leaving q (cell_of q t) o.source c.args.at) c.shaped.ensures c.leave.ensures.left in
    let tables : AreTables p c.leave.new.self = subst (λ q. AreTables q c.leave.new.self) c.shaped.ensures c.leave.ensures.tables in
    let count : c.job_state-made.result.made + 1 ≡ made (cell_of p t) c.args.job + 1 =
    ap (λ (s : JobState). s.made + 1) (c.job_state-made.ensures ∙ ap (λ v. job_in v.cell c.args.job) (sym c.self.view_is)) in
    moved-are_sound p t c.args.job c.args.at o move c.leave.new.self c.enter.new.self c.put_job.new.self (c.job_state-made.result.made + 1) leaves tables c.enter.ensures count c.put_job.ensures

pub returns-clause-moved : goal.returns-clause-moved
returns-clause-moved g c =
    let p = g.P.Planned.planned c.self.inside.basis in
    let t = c.self.inside.tables in
    let o = c.next_order-order.result in
    let move : IsToMove p t c.args.job c.args.at o = to_move c.self.inside.basis p t c.args.self.now c.args.job c.args.at o c.self.view_is c.self.invariant c.requires.can c.requires.keeps c.next_order-order.ensures in
    let leaves : cell_of p c.leave.new.self ≡ after_leaving p (cell_of p t) o.source c.args.at =
    subst (λ q. cell_of q c.leave.new.self ≡ after_leaving q (cell_of q t) o.source c.args.at) c.shaped.ensures c.leave.ensures.left in
    let tables : AreTables p c.leave.new.self = subst (λ q. AreTables q c.leave.new.self) c.shaped.ensures c.leave.ensures.tables in
    let count : c.job_state-made.result.made + 1 ≡ made (cell_of p t) c.args.job + 1 =
    ap (λ (s : JobState). s.made + 1) (c.job_state-made.ensures ∙ ap (λ v. job_in v.cell c.args.job) (sym c.self.view_is)) in
    changed_value c.self.inside.basis p t c.put_job.new.self c.args.self.now (λ q cell. after_move q cell c.args.job c.args.at) c.self.view_is
    (moved p t c.args.job c.args.at o move c.leave.new.self c.enter.new.self c.put_job.new.self (c.job_state-made.result.made + 1) leaves tables c.enter.ensures count c.put_job.ensures)
