-- Where the rows of a picture lie, in tenths of a pixel. Its axis of time begins at 700 and ends at 11500, and the picture goes to 12000.
use Rattle.std.specs.Prelude.{ℕ, zero, suc, ◌+◌, ◌-◌, ◌*◌, max}
use Rattle.people_names.specs.NameBooks.{NameBook}
use Rattle.people_names.specs.Words.{machine_word as machine_name}
use Rattle.run_picture.specs.Words.{width_of}

-- the upper edge of the boxes of machine m
abbrev pub top_of : ℕ → ℕ
top_of m = 400 + 240 * m + 20

-- their lower edge
abbrev pub bottom_of : ℕ → ℕ
bottom_of m = 400 + 240 * m + 220

-- where the words in them stand
abbrev pub foot_of : ℕ → ℕ
foot_of m = 400 + 240 * m + 160

-- where the rows of so many machines end
abbrev pub rows_end : ℕ → ℕ
rows_end machines = 400 + 240 * machines

-- how high the picture is
abbrev pub height_for : ℕ → ℕ
height_for machines = rows_end machines + 100

-- how broad the broadest word for one of the first machines is: 80 for each byte, more for a broad letter
abbrev pub broadest_word : NameBook → ℕ → ℕ
broadest_word names zero = 0
broadest_word names (suc m) = max (broadest_word names m) (width_of 80 (machine_name names m))

-- how far the picture goes to the left of 0, so that there is room for each of these words before its row, and 40
abbrev pub left_margin : NameBook → ℕ → ℕ
left_margin names machines = (40 + broadest_word names machines) - 600
