-- The lines of a text, each with a prefix before it.
use Rattle.std.proofs.Common.{◌≡◌, ℕ, ◌==◌, false, List, [], ◌∷◌, ◌++◌, length, refl, ap, ◌∙◌, append-nil}
use Rattle.std.specs.List.{flat_map, onto_first}
use Rattle.text_lines.specs.Lines.{is_line_feed, parts_of}
use Rattle.text_lines.specs.Cuts.{HasNone, IsCutAt}
use Rattle.log_chapters.specs.Chapters.{line_behind, lines_behind}

pub part_before : (front rest : List ℕ) → HasNone 10 front → parts_of is_line_feed (front ++ 10 ∷ rest) ≡ front ∷ parts_of is_line_feed rest
part_before [] rest none = refl
part_before (b ∷ front) rest none = rw none.0 (ap (λ parts. onto_first b parts) (part_before front rest none.1))

only_part : (b : ℕ) (text : List ℕ) → HasNone 10 (b ∷ text) → parts_of is_line_feed (b ∷ text) ≡ (b ∷ text) ∷ []
only_part b [] none = rw none.0 refl
only_part b (c ∷ text) none = rw none.0 (ap (λ parts. onto_first b parts) (only_part c text none.1))

-- the first line, and those behind it
pub behind-first : (prefix text front rest : List ℕ) → IsCutAt 10 text front rest → lines_behind prefix text ≡ line_behind prefix front ++ lines_behind prefix rest
behind-first prefix text front rest cut =
    ap (lines_behind prefix) cut.split ∙ ap (λ parts. flat_map (line_behind prefix) parts) (part_before front rest cut.before)

-- the only line
pub behind-only : (prefix text : List ℕ) → HasNone 10 text → (length text == 0) ≡ false → lines_behind prefix text ≡ line_behind prefix text
behind-only prefix [] none some = absurd cc
behind-only prefix (b ∷ text) none some = ap (λ parts. flat_map (line_behind prefix) parts) (only_part b text none) ∙ append-nil (line_behind prefix (b ∷ text))
