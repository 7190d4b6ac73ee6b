use Rattle.std.proofs.Common.{◌≡◌, false, length}
use Rattle.orlib_read.specs.Kinds.{unfilled_lines}
use Rattle.orlib_read.specs.Reading.{section_of}
use Rattle.orlib_read.specs.Cursor.{lines_left}
use Rattle.orlib_read.proofs.lines.Lines.of_section.Given as goal

abbrev pub invariant-loop-line : goal.invariant-loop-line
invariant-loop-line l = record {
  left : section_of l.name (lines_left l.lines) ≡ section_of l.name (unfilled_lines l.text);
  whole : l.lines.in_section ≡ false;
}

abbrev pub decreases-loop-line : goal.decreases-loop-line
decreases-loop-line l = length (lines_left l.lines)
