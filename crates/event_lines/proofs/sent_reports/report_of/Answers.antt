use Rattle.std.proofs.Common.{rules}
use Rattle.event_lines.proofs.Ends.{no_sent}
use Rattle.event_lines.proofs.sent_reports.report_of.Goals as goal

pub returns-in_err-words : goal.returns-in_err-words
returns-in_err-words c = rw c.from_residual-in_err-words.ensures (no_sent c.args.line.now c.in_default-after_prefix.ensures c.in_default.ensures c.in_err-words.ensures)

pub returns-in-Some : goal.returns-in-Some
returns-in-Some c = search rules depth 2
