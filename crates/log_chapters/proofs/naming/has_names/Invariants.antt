use Rattle.std.proofs.Common.{◌↔◌, length}
use Rattle.text_lines.specs.Lines.{lines_of}
use Rattle.log_chapters.specs.NamesGiven.{HasNames}
use Rattle.log_chapters.proofs.naming.has_names.Given as goal

abbrev pub invariant-loop-line : goal.invariant-loop-line
invariant-loop-line l = record { same : HasNames (lines_of l.lines) ↔ HasNames (lines_of l.rest) }

abbrev pub decreases-loop-line : goal.decreases-loop-line
decreases-loop-line l = length l.rest
