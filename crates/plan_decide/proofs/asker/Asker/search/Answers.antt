use Rattle.plan_decide.proofs.Kepts.{asked_none, never_if}
use Rattle.plan_decide.proofs.asker.Asker.search.Goals as goal

pub returns : goal.returns
returns g c = never_if c.ask.result (asked_none c.args.setting.now c.args.limits.now c.cell.ensures.set) (rw (c.cell.ensures.plan, c.cell.ensures.cell, c.present-present.ensures.present) at c.ask.ensures)
