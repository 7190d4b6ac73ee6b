use Rattle.std.proofs.Common.{sym, ◌∙◌}
use Rattle.event_lines.proofs.Ends.{no_line-order, no_line-report}
use Rattle.event_lines.proofs.entries.entry_of.Goals as goal

pub returns-in_err-after_prefix : goal.returns-in_err-after_prefix
returns-in_err-after_prefix c =
    rw c.from_residual.ensures (no_line-order c.args.line.now (sym c.starts_with.ensures.value ∙ c.if-starts_with.true) c.in_err-after_prefix.ensures)

pub returns-in_err-after_prefix-2 : goal.returns-in_err-after_prefix-2
returns-in_err-after_prefix-2 c =
    rw c.from_residual-in_err-after_prefix-2.ensures (no_line-report c.args.line.now (sym c.starts_with.ensures.value ∙ c.if-starts_with.false) c.in_err-after_prefix-2.ensures)
