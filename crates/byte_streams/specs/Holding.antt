-- What is held of the line that is being read, and which lines have ended.
use Rattle.std.specs.Prelude.{◌≡◌, ℕ, ◌+◌, ◌-◌, ◌<◌, ◌≤◌, nat_le, if◌then◌else◌, List, [], ◌∷◌, ◌++◌, length, take, Option, None, Some, MatchOption}
use Rattle.text_lines.specs.Lines.{is_line_feed, without_return}
use Rattle.byte_streams.specs.declared.held_line.TheConstants.{ROOM}
use Rattle.byte_streams.specs.Lines.{within_limit}

-- what is held once more bytes have come: none where they don't fit
abbrev pub joined : Option (List ℕ) → List ℕ → Option (List ℕ)
joined None more = None
joined (Some part) more = if nat_le (length more) (ROOM - length part) then Some (part ++ more) else None

-- so many bytes at the front of a room are held, and more have come: they are appended and so many are held then, or none where they don't fit or none were
abbrev pub AreAppended : List ℕ → Option ℕ → List ℕ → List ℕ → Option ℕ → Type 0
AreAppended room count more room_then count_then = MatchOption count (count_then ≡ None) (λ count.
    (length more ≤ length room - count → (count_then ≡ Some (count + length more)) × (take (count + length more) room_then ≡ take count room ++ more))
    × (length room - count < length more → count_then ≡ None))

-- the line that is held, as it is answered
abbrev pub held_line : Option (List ℕ) → Option (List ℕ)
held_line None = None
held_line (Some bytes) = within_limit (without_return bytes)

-- the line that ends with these bytes, where this was held before them
abbrev pub ended_line : Option (List ℕ) → List ℕ → Option (List ℕ)
ended_line held bytes = held_line (joined held bytes)

-- the lines that end in these bytes, where this was held before them
abbrev pub ended : Option (List ℕ) → List ℕ → List (Option (List ℕ))
ended held [] = []
ended held (b ∷ bytes) = if is_line_feed b then held_line held ∷ ended (Some []) bytes else ended (joined held (b ∷ [])) bytes

-- what is held after these bytes
abbrev pub held_after : Option (List ℕ) → List ℕ → Option (List ℕ)
held_after held [] = held
held_after held (b ∷ bytes) = if is_line_feed b then held_after (Some []) bytes else held_after (joined held (b ∷ [])) bytes
