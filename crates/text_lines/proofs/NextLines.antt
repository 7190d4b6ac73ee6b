-- The lines of a text, by its first line feed.
use Rattle.std.proofs.Common.{◌≡◌, ℕ, ◌+◌, ◌≤◌, ◌==◌, false, List, [], ◌∷◌, ◌++◌, map, length, refl, ap, ◌∙◌, arith, inl, inr}
use Rattle.std.specs.List.{onto_first}
use Rattle.std.proofs.lemmas.Bool.{cases_Bool}
use Rattle.std.proofs.lemmas.List.{length-map}
use Rattle.text_lines.specs.Lines.{is_line_feed, parts_of, without_return, lines_of}
use Rattle.text_lines.specs.Cuts.{HasNone, IsCutAt}

part_before : (front rest : List ℕ) → HasNone 10 front → parts_of is_line_feed (front ++ 10 ∷ rest) ≡ front ∷ parts_of is_line_feed rest
part_before [] rest none = refl
part_before (b ∷ front) rest none = rw none.0 (ap (λ parts. onto_first b parts) (part_before front rest none.1))

last_part : (b : ℕ) (front : List ℕ) → HasNone 10 (b ∷ front) → parts_of is_line_feed (b ∷ front) ≡ (b ∷ front) ∷ []
last_part b [] none = rw none.0 refl
last_part b (c ∷ front) none = rw none.0 (ap (λ parts. onto_first b parts) (last_part c front none.1))

-- the line before the first line feed
pub first_line : (text front rest : List ℕ) → IsCutAt 10 text front rest → lines_of text ≡ without_return front ∷ lines_of rest
first_line text front rest cut = ap lines_of cut.split ∙ ap (λ parts. map without_return parts) (part_before front rest cut.before)

-- the only line
pub only_line : (text : List ℕ) → HasNone 10 text → (length text == 0) ≡ false → lines_of text ≡ without_return text ∷ []
only_line [] none some = absurd cc
only_line (b ∷ text) none some = ap (λ parts. map without_return parts) (last_part b text none)

length-onto_first : (b : ℕ) (parts : List (List ℕ)) (n : ℕ) → length parts ≤ n → length (onto_first b parts) ≤ n + 1
length-onto_first b [] n few = omega arith
length-onto_first b (part ∷ parts) n few = omega (arith, few)

-- a text has no more lines than bytes
length-parts : (bytes : List ℕ) → length (parts_of is_line_feed bytes) ≤ length bytes
length-parts [] = omega arith
length-parts (b ∷ bytes) = elim (cases_Bool (is_line_feed b)) [
  | inl feed ↦ rw feed (omega (arith, length-parts bytes))
  | inr other ↦ rw other (omega (arith, length-onto_first b (parts_of is_line_feed bytes) (length bytes) (length-parts bytes)))
]

pub lines_of-le : (text : List ℕ) → length (lines_of text) ≤ length text
lines_of-le text = omega (arith, length-parts text, length-map (parts_of is_line_feed text) without_return)
