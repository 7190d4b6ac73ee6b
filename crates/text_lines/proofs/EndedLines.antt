-- The lines of a text that are ended by a line feed.
use Rattle.std.proofs.Common.{◌≡◌, ℕ, zero, suc, ◌≤◌, List, [], ◌∷◌, ◌++◌, length, map, filter, take, inl, inr, refl, sym, ap, ◌∙◌, arith}
use Rattle.std.specs.List.{onto_first}
use Rattle.std.proofs.lemmas.Bool.{cases_Bool}
use Rattle.text_lines.specs.Lines.{is_line_feed, parts_of, without_return, lines_of, ended_lines}
use Rattle.text_lines.specs.Cuts.{HasNone, IsCutAt}
use Rattle.text_lines.proofs.NextLines.{first_line, lines_of-le}

abbrev feeds : List ℕ → ℕ
feeds text = length (filter is_line_feed text)

feeds-none : (text : List ℕ) → HasNone 10 text → feeds text ≡ 0
feeds-none [] none = refl
feeds-none (b ∷ text) none = rw none.0 (feeds-none text none.1)

feeds-cut : (front rest : List ℕ) → HasNone 10 front → feeds (front ++ 10 ∷ rest) ≡ suc (feeds rest)
feeds-cut [] rest none = refl
feeds-cut (b ∷ front) rest none = rw none.0 (feeds-cut front rest none.1)

-- no line is ended
pub ended-none : (text : List ℕ) → HasNone 10 text → ended_lines text ≡ []
ended-none text none = ap (λ n. take n (lines_of text)) (feeds-none text none)

-- the first is ended
pub ended-first : (text front rest : List ℕ) → IsCutAt 10 text front rest → ended_lines text ≡ without_return front ∷ ended_lines rest
ended-first text front rest cut =
    ap (λ t. take (feeds t) (lines_of text)) cut.split ∙ ap (λ n. take n (lines_of text)) (feeds-cut front rest cut.before) ∙ ap (take (suc (feeds rest))) (first_line text front rest cut)

pub ended-few : (text : List ℕ) → length (ended_lines text) ≤ length text
ended-few text = omega (arith, length-take-any (feeds text) (lines_of text), lines_of-le text)
  where
    length-take-any : (n : ℕ) (xs : List (List ℕ)) → length (take n xs) ≤ length xs
    length-take-any zero xs = omega arith
    length-take-any (suc n) [] = omega arith
    length-take-any (suc n) (x ∷ xs) = omega (arith, length-take-any n xs)

pub take_map : {A B : Type 0} (f : A → B) (n : ℕ) (xs : List A) → take n (map f xs) ≡ map f (take n xs)
take_map f zero xs = refl
take_map f (suc n) [] = refl
take_map f (suc n) (x ∷ xs) = ap (λ ys. f x ∷ ys) (take_map f n xs)

map_join : {A B : Type 0} (f : A → B) (xs ys : List A) → map f (xs ++ ys) ≡ map f xs ++ map f ys
map_join f [] ys = refl
map_join f (x ∷ xs) ys = ap (λ zs. f x ∷ zs) (map_join f xs ys)

onto_more : (b n : ℕ) (parts ps more : List (List ℕ)) → n ≤ length parts → ps ≡ take n parts ++ more → (rest : List (List ℕ)) × (onto_first b ps ≡ take n (onto_first b parts) ++ rest)
onto_more b zero parts ps more few same = (onto_first b ps, refl)
onto_more b (suc n) [] ps more few same = absurd (omega (arith, few))
onto_more b (suc n) (part ∷ parts) ps more few same = (more, ap (onto_first b) same)

length-onto : (b : ℕ) (parts : List (List ℕ)) → length parts ≤ length (onto_first b parts)
length-onto b [] = omega arith
length-onto b (part ∷ parts) = omega arith

-- each line feed ends a part
feeds-few : (text : List ℕ) → feeds text ≤ length (parts_of is_line_feed text)
feeds-few [] = omega arith
feeds-few (b ∷ text) = elim (cases_Bool (is_line_feed b)) [
  | inl feed ↦ rw feed (omega (arith, feeds-few text))
  | inr other ↦ rw other (omega (arith, feeds-few text, length-onto b (parts_of is_line_feed text)))
]

parts_more : (cut lost : List ℕ) → (rest : List (List ℕ)) × (parts_of is_line_feed (cut ++ lost) ≡ take (feeds cut) (parts_of is_line_feed cut) ++ rest)
parts_more [] lost = (parts_of is_line_feed lost, refl)
parts_more (b ∷ cut) lost =
    let (more, same) = parts_more cut lost in
    elim (cases_Bool (is_line_feed b)) [
      | inl feed ↦ (more, rw feed (ap (λ ps. [] ∷ ps) same))
      | inr other ↦ let (rest, is) = onto_more b (feeds cut) (parts_of is_line_feed cut) (parts_of is_line_feed (cut ++ lost)) more (feeds-few cut) same in (rest, rw other is)
    ]

-- the ended lines of a text's first bytes are its first lines
pub ended-more : (cut lost : List ℕ) → (rest : List (List ℕ)) × (lines_of (cut ++ lost) ≡ ended_lines cut ++ rest)
ended-more cut lost =
    let (more, same) = parts_more cut lost in (
      map without_return more,
      ap (map without_return) same ∙ map_join without_return (take (feeds cut) (parts_of is_line_feed cut)) more
          ∙ ap (λ ps. ps ++ map without_return more) (sym (take_map without_return (feeds cut) (parts_of is_line_feed cut))),
    )

-- ---- up to the last line feed

abbrev no_parts : List (List ℕ)
no_parts = []

take_none : (n : ℕ) → take n no_parts ≡ no_parts
take_none zero = refl
take_none (suc n) = refl

onto_take : (b n : ℕ) (parts : List (List ℕ)) → take (suc n) (onto_first b parts) ≡ onto_first b (take (suc n) parts)
onto_take b n [] = ap (λ ps. (b ∷ []) ∷ ps) (take_none n)
onto_take b n (part ∷ parts) = refl

some_feed : (front rest : List ℕ) → (n : ℕ) × (feeds (front ++ 10 ∷ rest) ≡ suc n)
some_feed [] rest = (feeds rest, refl)
some_feed (b ∷ front) rest = elim (cases_Bool (is_line_feed b)) [
  | inl feed ↦ (feeds (front ++ 10 ∷ rest), rw feed refl)
  | inr other ↦ let (n, is) = some_feed front rest in (n, rw other is)
]

ended_parts : (front rest : List ℕ) → HasNone 10 rest
    → take (feeds (front ++ 10 ∷ rest)) (parts_of is_line_feed (front ++ 10 ∷ rest)) ≡ parts_of is_line_feed (front ++ 10 ∷ [])
ended_parts [] rest none = ap (λ n. take (suc n) ([] ∷ parts_of is_line_feed rest)) (feeds-none rest none)
ended_parts (b ∷ front) rest none = elim (cases_Bool (is_line_feed b)) [
  | inl feed ↦ rw feed (ap (λ ps. [] ∷ ps) (ended_parts front rest none))
  | inr other ↦
      let (n, some) = some_feed front rest in
      let parts = parts_of is_line_feed (front ++ 10 ∷ rest) in
      rw other (
      ap (λ k. take k (onto_first b parts)) some ∙ onto_take b n parts
      ∙ ap (onto_first b) (ap (λ k. take k parts) (sym some) ∙ ended_parts front rest none)
      )
]

-- the lines up to the last line feed are the ended ones
pub ended-part : (text front rest : List ℕ) → text ≡ front ++ 10 ∷ rest → HasNone 10 rest → lines_of (front ++ 10 ∷ []) ≡ ended_lines text
ended-part text front rest split none =
    ap (map without_return) (sym (ended_parts front rest none)) ∙ sym (take_map without_return (feeds (front ++ 10 ∷ rest)) (parts_of is_line_feed (front ++ 10 ∷ rest)))
    ∙ ap ended_lines (sym split)
