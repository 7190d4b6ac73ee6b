use Rattle.std.proofs.Common.{length, arith, ap}
use Rattle.plan_decide.proofs.Kepts.{freed_length}
use Rattle.plan_decide.proofs.judging.accepted_at.Goals as goal

pub index_mut-requires : goal.index_mut-requires
index_mut-requires g c =
    let s = c.args.setting.now in
    omega (arith, c.requires, c.cell-cell.ensures.set.shaped.counts.budgets, freed_length s.free s.plan.plan.budget, ap length c.in_ok-budgets.ensures)
