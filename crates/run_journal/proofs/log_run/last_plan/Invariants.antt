use Rattle.std.proofs.Common.{Option, None, length}
use Rattle.text_lines.specs.Lines.{lines_of}
use Rattle.event_lines.specs.declared.run_digits.RunDigits.{RunDigits}
use Rattle.run_journal.proofs.LogRuns.{IsLast}
use Rattle.run_journal.proofs.log_run.last_plan.Given as goal

abbrev pub invariant-loop-line : goal.invariant-loop-line
invariant-loop-line l = record { parses : (found : Option RunDigits) → IsLast l.last (lines_of l.rest) found → IsLast None (lines_of l.lines) found }

abbrev pub decreases-loop-line : goal.decreases-loop-line
decreases-loop-line l = length l.rest
