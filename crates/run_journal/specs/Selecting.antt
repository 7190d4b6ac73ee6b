-- What a log gets by more of a text.
use Rattle.std.specs.Prelude.{◌≡◌, ℕ, ◌==◌, if◌then◌else◌, false, List, [], ◌∷◌, ◌++◌, length, take}
use Rattle.run_journal.specs.LoggedLines.{is_logged, logged_line}

-- the line that is being written behind a byte, and behind bytes
abbrev pub line_behind : List ℕ → ℕ → List ℕ
line_behind line byte = if byte == 10 then [] else line ++ byte ∷ []

abbrev pub line_after : List ℕ → List ℕ → List ℕ
line_after line [] = line
line_after line (byte ∷ bytes) = line_after (line_behind line byte) bytes

-- what stands behind the last line feed of a text
abbrev pub open_line : List ℕ → List ℕ
open_line text = line_after [] text

-- what it gets by one byte more of a line, and by bytes behind the line
abbrev pub more : List ℕ → ℕ → List ℕ
more line byte = if is_logged line then byte ∷ [] else logged_line (line ++ byte ∷ [])

abbrev pub added : List ℕ → List ℕ → List ℕ
added line [] = []
added line (byte ∷ bytes) = more line byte ++ added (line_behind line byte) bytes

-- these are the first bytes of the line, as many as decide whether a log gets it
abbrev pub IsFront : List ℕ → List ℕ → Type 0
IsFront front line = (is_logged front ≡ is_logged line) × (is_logged front ≡ false → front ≡ take 7 line)

-- of so many of them it isn't known yet
abbrev pub undecided : List ℕ → ℕ
undecided front = if is_logged front then 0 else length front

-- the events are joined by what a log gets by these bytes, behind each line with this front, which is another then
abbrev pub Gets : List ℕ → List ℕ → List ℕ → List ℕ → List ℕ → Type 0
Gets front bytes front_now events events_now = (line : List ℕ) → IsFront front line → IsFront front_now (line_after line bytes) × (events_now ≡ events ++ added line bytes)
