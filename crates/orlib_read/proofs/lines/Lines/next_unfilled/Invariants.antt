use Rattle.std.proofs.Common.{◌≡◌, length}
use Rattle.orlib_read.specs.Cursor.{raw_left, lines_left}
use Rattle.orlib_read.proofs.lines.Lines.next_unfilled.Given as goal

abbrev pub invariant-loop-line : goal.invariant-loop-line
invariant-loop-line l = record {
  left : lines_left l.lines ≡ lines_left l.self;
  same : l.lines.in_section ≡ l.self.in_section;
}

abbrev pub decreases-loop-line : goal.decreases-loop-line
decreases-loop-line l = length (raw_left l.lines)
