use Rattle.std.proofs.Common.{◌≡◌, true, ap, subst, sym, ◌∙◌}
use Rattle.shop_base.specs.declared.job_state.JobState.{JobState}
use Rattle.shop_base.specs.Plan.{Visits}
use Rattle.shop_base.specs.Cell.{made, ready}
use Rattle.cell_tables.proofs.Seats.{so_true, moves-entering}
use Rattle.cell_tables.proofs.work_cell.WorkCell.can_move.Goals as goal

pub returns-in-Some : goal.returns-in-Some
returns-in-Some g c =
    let v = c.args.self.now in
    let is_ready : ready v.cell c.args.job ≡ true = sym (ap (λ (s : JobState). s.ready) c.job_state-state.ensures) ∙ so_true c.job_state-state.result.ready c.if-not-state.false in
    let visits : Visits v.plan c.args.job (made v.cell c.args.job) c.in-Some.machine =
    subst (λ (s : JobState). Visits v.plan c.args.job s.made c.in-Some.machine) c.job_state-state.ensures c.in-Some.ensures in
    moves-entering v.plan v.cell c.args.job c.in-Some.machine c.admits.result c.shaped-plan.ensures.well_shaped c.shaped-plan.ensures.sound is_ready visits c.admits.ensures
