use Rattle.plan_moves.proofs.Turns.{first_exact}
use Rattle.plan_moves.proofs.next_report.is_first.Goals as goal

pub returns : goal.returns
returns g c = first_exact _ c.args.present _ c.args.due c.is_late.result c.if-due-present.false c.is_late.ensures
