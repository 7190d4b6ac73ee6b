use Rattle.std.proofs.Common.{◌≡◌, length}
use Rattle.orlib_read.specs.Reading.{without_titles}
use Rattle.orlib_read.specs.Cursor.{lines_left}
use Rattle.orlib_read.proofs.reading.first_line.Given as goal

abbrev pub invariant-loop-line : goal.invariant-loop-line
invariant-loop-line l = without_titles (lines_left l.left) ≡ without_titles (lines_left l.lines)

abbrev pub decreases-loop-line : goal.decreases-loop-line
decreases-loop-line l = length (lines_left l.left)
