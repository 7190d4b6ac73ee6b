-- What is left of the lines of a text, or of a section of it.
use Rattle.std.specs.Prelude.{◌+◌, Bool, if◌then◌else◌, List, filter}
use Rattle.orlib_read.specs.declared.lines.Line.{Line}
use Rattle.orlib_read.specs.declared.lines.Lines.{Lines}
use Rattle.text_lines.specs.Lines.{NumberedLine, lines_of, numbered_from}
use Rattle.orlib_read.specs.Kinds.{is_unfilled}
use Rattle.orlib_read.specs.Reading.{before_title}

-- a line without where it lies in memory
abbrev pub numbered_line : Line → NumberedLine
numbered_line line = record { number = line.number; bytes = line.bytes.now }

-- the lines that aren't filler, in a section those before the next instance line
abbrev pub left_of : Bool → List NumberedLine → List NumberedLine
left_of in_section lines = if in_section then before_title (filter is_unfilled lines) else filter is_unfilled lines

-- all lines that are left
unfoldable pub raw_left : Lines → List NumberedLine
raw_left lines = numbered_from (lines.before + 1) (lines_of lines.rest.now)

-- the lines that are left, without filler
unfoldable pub lines_left : Lines → List NumberedLine
lines_left lines = left_of lines.in_section (raw_left lines)

-- what was read, seen by view, and the lines that are left behind it
abbrev pub with_left : {X Y : Type 0} → (X → Y) → X × Lines → Y × List NumberedLine
with_left view read = (view read.0, lines_left read.1)
