use Rattle.std.proofs.Common.{List, ℕ, sym, subst}
use Rattle.plan_explain.specs.FirstLines.{IsLineByTimes}
use Rattle.plan_explain.proofs.ChainTexts.{first_line_by_times}
use Rattle.plan_explain.proofs.first_lines.first_line.Goals as goal

pub returns : goal.returns
returns g c at t accepted =
    let p = g.P.Planned.planned c.args.plan.now in
    let (added, is, same) = rw c.new-line.ensures.items at c.in_ok-push_first_line.ensures in
    first_line_by_times p at t c.args.verdict.now _ accepted (subst (λ (l : List ℕ). IsLineByTimes p c.args.verdict.now l) (sym same) is)
