use Rattle.std.proofs.Common.{◌↔◌, length}
use Rattle.text_lines.specs.Lines.{lines_of}
use Rattle.run_journal.specs.LogRuns.{HasBegun}
use Rattle.run_journal.proofs.log_run.has_begun.Given as goal

abbrev pub invariant-loop-line : goal.invariant-loop-line
invariant-loop-line l = record { same : HasBegun (lines_of l.lines) ↔ HasBegun (lines_of l.rest) }

abbrev pub decreases-loop-line : goal.decreases-loop-line
decreases-loop-line l = length l.rest
