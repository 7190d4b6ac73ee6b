use Rattle.std.proofs.Common.{◌≡◌, ◌++◌, length}
use Rattle.log_chapters.specs.Chapters.{lines_behind}
use Rattle.log_chapters.proofs.writing.push_lines.Given as goal

-- what was written, and what is still to come
abbrev pub invariant-loop-line : goal.invariant-loop-line
invariant-loop-line l = l.text.items ++ lines_behind l.prefix l.rest ≡ l.initial.text.items ++ lines_behind l.prefix l.lines

abbrev pub decreases-loop-line : goal.decreases-loop-line
decreases-loop-line l = length l.rest
