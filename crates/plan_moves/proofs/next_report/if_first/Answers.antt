use Rattle.plan_moves.proofs.Turns.{passed_over}
use Rattle.plan_moves.proofs.next_report.if_first.Goals as goal

pub returns-else-is_first : goal.returns-else-is_first
returns-else-is_first g c =
    let none = rw c.if-is_first.false at c.is_first.ensures in
    passed_over _ c.args.present _ c.args.turn c.in-Some.due c.in-Some.ensures none
