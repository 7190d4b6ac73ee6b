use Rattle.event_lines.specs.Words.{short}
use Rattle.event_lines.specs.SentLines.{sent_words}
use Rattle.event_lines.proofs.WordByWord.{behind, before}
use Rattle.event_lines.proofs.cell_numbers.cell_report_of.Goals as goal

pub returns-in_err-report : goal.returns-in_err-report
returns-in_err-report c =
    rw c.from_residual-in_err-report.ensures (λ cell report found. c.in_err-report.ensures report (behind (short cell) (sent_words report) c.in_ok-cell.ensures.number found))

pub returns : goal.returns
returns c = before (sent_words c.in_ok-report.report) c.in_ok-cell.ensures.number c.in_ok-report.ensures
