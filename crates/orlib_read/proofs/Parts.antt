-- Parts of a row of bytes, one after the other from the front.
use Rattle.std.proofs.Common.{◌≡◌, ℕ, suc, ◌+◌, ◌-◌, ◌≤◌, Bool, true, false, not, cond, ◌&&◌, ◌||◌, List, [], ◌∷◌, Some, None, length, get_or, take, drop, filter, refl, sym, ap, ◌∙◌, arith, ltb}
use Rattle.std.specs.Prelude.{position}
use Rattle.std.specs.List.{before_first, after_first, position_or_len, onto_first, list_all}
use Rattle.std.proofs.lemmas.Bool.{ltb-false}
use Rattle.std.proofs.lemmas.Option.{cond_some}
use Rattle.std.proofs.lemmas.List.{take_rest, take_all, drop_all, drop_more}
use Rattle.std.proofs.lemmas.List.Quantifiers.{position-Some}
use Rattle.text_lines.specs.Lines.{parts_of}
use Rattle.orlib_read.specs.Words.{is_blank, is_some_row, words_of}
use Rattle.orlib_read.specs.Kinds.{is_plus, is_filler}

pub cases_bool : (b : Bool) (P : Type 0) → (b ≡ true → P) → (b ≡ false → P) → P
cases_bool true P y n = y refl
cases_bool false P y n = n refl

-- ---- the first byte that passes a test

pub position_some : (p : ℕ → Bool) (bytes : List ℕ) (i : ℕ) → position p bytes ≡ Some i → position_or_len p bytes ≡ i
position_some p bytes i h = (cond_some (ltb (position_or_len p bytes) (length bytes)) (position_or_len p bytes) i h).1

not_some : (b : Bool) (i : ℕ) → cond b (Some i) None ≡ None → b ≡ false
not_some true i h = absurd cc
not_some false i h = refl

pub position_none : (p : ℕ → Bool) (bytes : List ℕ) → position p bytes ≡ None → length bytes ≤ position_or_len p bytes
position_none p bytes h = ltb-false _ _ (not_some (ltb (position_or_len p bytes) (length bytes)) (position_or_len p bytes) h)

pub before_some : (p : ℕ → Bool) (bytes : List ℕ) (i : ℕ) → position p bytes ≡ Some i → take i bytes ≡ before_first p bytes
before_some p bytes i h = ap (λ (n : ℕ). take n bytes) (sym (position_some p bytes i h))

pub after_some : (p : ℕ → Bool) (bytes : List ℕ) (i : ℕ) → position p bytes ≡ Some i → take (length bytes - (i + 1)) (drop (i + 1) bytes) ≡ after_first p bytes
after_some p bytes i h = take_rest bytes (i + 1) ∙ ap (λ (n : ℕ). drop (n + 1) bytes) (sym (position_some p bytes i h))

pub before_none : (p : ℕ → Bool) (bytes : List ℕ) → position p bytes ≡ None → bytes ≡ before_first p bytes
before_none p bytes h = sym (take_all _ bytes (position_none p bytes h))

pub after_none : (p : ℕ → Bool) (bytes : List ℕ) → position p bytes ≡ None → [] ≡ after_first p bytes
after_none p bytes h = sym (drop_all _ bytes (let le = position_none p bytes h in omega arith))

-- ---- parts

before_first-past : (p : ℕ → Bool) (b : ℕ) (bytes : List ℕ) → p b ≡ false → before_first p (b ∷ bytes) ≡ b ∷ before_first p bytes
before_first-past p b bytes h = let e : 1 + position_or_len p bytes ≡ suc (position_or_len p bytes) = omega arith in rw (h, e) refl

after_first-past : (p : ℕ → Bool) (b : ℕ) (bytes : List ℕ) → p b ≡ false → after_first p (b ∷ bytes) ≡ after_first p bytes
after_first-past p b bytes h = let e : 1 + position_or_len p bytes + 1 ≡ suc (position_or_len p bytes + 1) = omega arith in rw (h, e) refl

-- the first part, and the others
pub parts_first : (p : ℕ → Bool) (b : ℕ) (bytes : List ℕ) → parts_of p (b ∷ bytes) ≡ before_first p (b ∷ bytes) ∷ parts_of p (after_first p (b ∷ bytes))
parts_first p b [] = cases_bool (p b) _ (λ h. rw h refl) (λ h. rw h refl)
parts_first p b (c ∷ bytes) = cases_bool (p b) _ (λ h. rw h refl)
    (λ h. rw (before_first-past p b (c ∷ bytes) h, after_first-past p b (c ∷ bytes) h, h, parts_first p c bytes) refl)

-- ---- words

words_drop : (line : List ℕ) → words_of line ≡ words_of (drop (position_or_len (λ b. not (is_blank b)) line) line)
words_drop [] = refl
words_drop (b ∷ line) = cases_bool (is_blank b) _
    (λ h. let e : 1 + position_or_len (λ b. not (is_blank b)) line ≡ suc (position_or_len (λ b. not (is_blank b)) line) = omega arith in rw (h, e) (words_drop line))
    (λ h. rw (h, h) refl)

word_here : (b : ℕ) (line : List ℕ) → is_blank b ≡ false → words_of (b ∷ line) ≡ before_first is_blank (b ∷ line) ∷ words_of (after_first is_blank (b ∷ line))
word_here b line h = rw (parts_first is_blank b line, before_first-past is_blank b line h) refl

blank_from_not : (b : Bool) → not b ≡ true → b ≡ false
blank_from_not true h = absurd cc
blank_from_not false h = refl

-- where there is no byte but blanks
pub no_word : (line : List ℕ) → position (λ b. not (is_blank b)) line ≡ None → words_of line ≡ []
no_word line h = words_drop line ∙ ap words_of (drop_all _ line (position_none (λ b. not (is_blank b)) line h))

-- the first word, and the others
pub word_found : (line : List ℕ) (start : ℕ) → position (λ b. not (is_blank b)) line ≡ Some start
    → words_of line ≡ before_first is_blank (drop start line) ∷ words_of (after_first is_blank (drop start line))
word_found line start h =
    let at = position-Some (λ b. not (is_blank b)) line start 0 h in
    let there : drop start line ≡ get_or line start 0 ∷ drop (start + 1) line = drop_more line start 0 at.0 in
    words_drop line ∙ ap (λ (n : ℕ). words_of (drop n line)) (position_some (λ b. not (is_blank b)) line start h)
    ∙ rw there (word_here (get_or line start 0) (drop (start + 1) line) (blank_from_not (is_blank (get_or line start 0)) at.1))

-- ---- filler

abbrev AllPlus : List (List ℕ) → Bool
AllPlus parts = list_all (list_all is_plus) (filter is_some_row parts)

plus_onto : (b : ℕ) (parts : List (List ℕ)) → AllPlus (onto_first b parts) ≡ (is_plus b && AllPlus parts)
plus_onto b [] = cases_bool (is_plus b) _ (λ h. rw h refl) (λ h. rw h refl)
plus_onto b ([] ∷ parts) = cases_bool (is_plus b) _ (λ h. rw h refl) (λ h. rw h refl)
plus_onto b ((c ∷ part) ∷ parts) = cases_bool (is_plus b) _ (λ h. rw h refl) (λ h. rw h refl)

-- a line is filler where each byte is a blank or `+`
pub all_filler : (line : List ℕ) → list_all (λ b. is_blank b || is_plus b) line ≡ is_filler line
all_filler [] = refl
all_filler (b ∷ line) = cases_bool (is_blank b) _ (λ h. rw h (all_filler line))
    (λ h. rw h (ap (λ (x : Bool). is_plus b && x) (all_filler line) ∙ sym (plus_onto b (parts_of is_blank line))))
