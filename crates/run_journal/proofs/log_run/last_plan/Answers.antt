use Rattle.std.proofs.Common.{List, ℕ, sym, subst}
use Rattle.text_lines.specs.Lines.{lines_of}
use Rattle.run_journal.proofs.LogRuns.{IsLast, first_last, last_done}
use Rattle.run_journal.proofs.log_run.last_plan.Goals as goal

pub returns : goal.returns
returns c =
    let last = c.loop-line.last in
    first_last (lines_of c.args.lines.now) last
    (c.loop-line.invariant.parses last (subst (λ (lines : List (List ℕ)). IsLast last lines last) (sym c.in_default.ensures.line) (last_done last)))
