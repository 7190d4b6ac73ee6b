-- The lines that are left, one after the other from the front.
use Rattle.std.proofs.Common.{◌≡◌, ℕ, suc, ◌+◌, Bool, true, false, List, [], ◌∷◌, refl, arith}
use Rattle.text_lines.specs.Lines.{NumberedLine, numbered_from}
use Rattle.orlib_read.specs.Kinds.{is_filler}
use Rattle.orlib_read.specs.Reading.{is_instance_line}
use Rattle.orlib_read.specs.Cursor.{left_of}

-- the first line, and those after it
pub numbered_first : (n : ℕ) (lines : List (List ℕ)) (line : List ℕ) (rest : List (List ℕ))
    → lines ≡ line ∷ rest → numbered_from n lines ≡ record { number = n; bytes = line } ∷ numbered_from (n + 1) rest
numbered_first n lines line rest h = let e : suc n ≡ n + 1 = omega arith in rw (h, e) refl

-- ---- filler is passed over, and a section ends before the next instance line

pub left_none : (in_section : Bool) (lines : List NumberedLine) → lines ≡ [] → left_of in_section lines ≡ []
left_none true lines h = rw h refl
left_none false lines h = rw h refl

pub left_filler : (in_section : Bool) (lines : List NumberedLine) (line : NumberedLine) (rest : List NumberedLine)
    → lines ≡ line ∷ rest → is_filler line.bytes ≡ true → left_of in_section lines ≡ left_of in_section rest
left_filler true lines line rest h f = rw (h, f) refl
left_filler false lines line rest h f = rw (h, f) refl

pub left_title : (lines : List NumberedLine) (line : NumberedLine) (rest : List NumberedLine)
    → lines ≡ line ∷ rest → is_filler line.bytes ≡ false → is_instance_line line ≡ true → left_of true lines ≡ []
left_title lines line rest h f t = rw (h, f, t) refl

pub left_line : (in_section : Bool) (lines : List NumberedLine) (line : NumberedLine) (rest : List NumberedLine)
    → lines ≡ line ∷ rest → is_filler line.bytes ≡ false → (in_section ≡ true → is_instance_line line ≡ false) → left_of in_section lines ≡ line ∷ left_of in_section rest
left_line true lines line rest h f t = rw (h, f, t refl) refl
left_line false lines line rest h f t = rw (h, f) refl
