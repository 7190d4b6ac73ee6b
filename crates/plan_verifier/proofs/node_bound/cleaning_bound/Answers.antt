use Rattle.std.proofs.Common.{sym, ◌∙◌}
use Rattle.plan_verifier.proofs.Holding.{cleaning_bound, free_leaving, free_other, free_idle}
use Rattle.plan_verifier.proofs.node_bound.cleaning_bound.Goals as goal

pub returns-in_err-machine : goal.returns-in_err-machine
returns-in_err-machine g c = rw c.from_residual.ensures (free_leaving c.args.cell.now.plan c.args.cell.now.cell c.args.present c.args.node c.in_err-machine.ensures)

pub returns-then-not-is_next : goal.returns-then-not-is_next
returns-then-not-is_next g c =
    free_other c.args.cell.now.plan c.args.cell.now.cell c.args.present c.args.node c.in_ok-machine.machine c.in_ok-machine.ensures (sym c.is_next.ensures ∙ c.if-not-is_next.true)

pub returns-in_err-since : goal.returns-in_err-since
returns-in_err-since g c = rw c.from_residual-in_err-since.ensures
    (free_idle c.args.cell.now.plan c.args.cell.now.cell c.args.present c.args.node c.in_ok-machine.machine c.in_ok-machine.ensures (sym c.in_err-since.ensures.since))

pub returns : goal.returns
returns g c =
    cleaning_bound c.args.cell.now.plan c.args.cell.now.cell c.args.present c.args.node c.in_ok-machine.machine c.in_ok-since.since c.clean_of-clean.result c.bound_by.result
    c.in_ok-machine.ensures (sym c.is_next.ensures ∙ c.if-not-is_next.false) (sym c.in_ok-since.ensures.since) (rw c.shaped.ensures.plan at c.clean_of-clean.ensures) c.bound_by.ensures
