-- The lines of an input text, as they are answered.
use Rattle.std.specs.Prelude.{ℕ, nat_le, if◌then◌else◌, List, length, map, Option, None, Some}
use Rattle.text_lines.specs.Lines.{lines_of, ended_lines}
use Rattle.byte_streams.specs.declared.held_line.TheConstants.{MAX_LINE}

-- a line as it is answered: its bytes, or none where it is too long
abbrev pub within_limit : List ℕ → Option (List ℕ)
within_limit line = if nat_le (length line) MAX_LINE then Some line else None

-- the lines of a text, as they are answered
abbrev pub input_lines : List ℕ → List (Option (List ℕ))
input_lines text = map within_limit (lines_of text)

-- the lines of a text that are ended, as they are answered
abbrev pub complete_lines : List ℕ → List (Option (List ℕ))
complete_lines text = map within_limit (ended_lines text)
