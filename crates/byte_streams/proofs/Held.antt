-- What is held of a line, and which lines end, piece after piece.
use Rattle.std.proofs.Common.{◌≡◌, ℕ, ◌-◌, ◌<◌, ◌≤◌, Bool, true, false, List, [], ◌∷◌, ◌++◌, Option, Some, None, length, refl, sym, ap, ◌∙◌, arith, append_assoc, append-nil, length-append, leb}
use Rattle.std.proofs.lemmas.Bool.{le-leb, lt-leb, leb-true, leb-false}
use Rattle.text_lines.specs.Lines.{is_line_feed}
use Rattle.text_lines.specs.Cuts.{HasNone}
use Rattle.byte_streams.specs.Holding.{joined, held_line, ended, held_after}

pub cases_bool : (b : Bool) (P : Type 0) → (b ≡ true → P) → (b ≡ false → P) → P
cases_bool true P y n = y refl
cases_bool false P y n = n refl

pub joined-fits : (part more : List ℕ) → length more ≤ 64 - length part → joined (Some part) more ≡ Some (part ++ more)
joined-fits part more fits = rw (le-leb (length more) (64 - length part) fits) refl

pub joined-over : (part more : List ℕ) → 64 - length part < length more → joined (Some part) more ≡ None
joined-over part more over = rw (lt-leb (length more) (64 - length part) over) refl

pub joined-nil : (held : Option (List ℕ)) → joined held [] ≡ held
joined-nil None = refl
joined-nil (Some part) = joined-fits part [] (omega arith) ∙ ap (λ (l : List ℕ). Some l) (append-nil part)

pub joined-joined : (held : Option (List ℕ)) (xs ys : List ℕ) → joined (joined held xs) ys ≡ joined held (xs ++ ys)
joined-joined None xs ys = refl
joined-joined (Some part) xs ys = cases_bool (leb (length xs) (64 - length part)) _
    (λ fits. let le : length xs ≤ 64 - length part = leb-true _ _ fits in
    let first = joined-fits part xs le in
    cases_bool (leb (length ys) (64 - length (part ++ xs))) _
    (λ both. let more : length ys ≤ 64 - length (part ++ xs) = leb-true _ _ both in
    let all : length (xs ++ ys) ≤ 64 - length part = omega (arith, more, le, length-append part xs, length-append xs ys) in
    ap (λ h. joined h ys) first ∙ joined-fits (part ++ xs) ys more ∙ ap (λ (l : List ℕ). Some l) (append_assoc part xs ys) ∙ sym (joined-fits part (xs ++ ys) all))
    (λ over. let more : 64 - length (part ++ xs) < length ys = leb-false _ _ over in
    let all : 64 - length part < length (xs ++ ys) = omega (arith, more, le, length-append part xs, length-append xs ys) in
    ap (λ h. joined h ys) first ∙ joined-over (part ++ xs) ys more ∙ sym (joined-over part (xs ++ ys) all)))
    (λ over. let lt : 64 - length part < length xs = leb-false _ _ over in
    let all : 64 - length part < length (xs ++ ys) = omega (arith, lt, length-append xs ys) in
    ap (λ h. joined h ys) (joined-over part xs lt) ∙ sym (joined-over part (xs ++ ys) all))

-- ---- bytes in which no line ends

pub ended-none : (bytes : List ℕ) (held : Option (List ℕ)) → HasNone 10 bytes → ended held bytes ≡ []
ended-none [] held none_ends = refl
ended-none (b ∷ bytes) held none_ends = rw none_ends.0 (ended-none bytes (joined held (b ∷ [])) none_ends.1)

pub held_after-none : (bytes : List ℕ) (held : Option (List ℕ)) → HasNone 10 bytes → held_after held bytes ≡ joined held bytes
held_after-none [] held none_ends = sym (joined-nil held)
held_after-none (b ∷ bytes) held none_ends = rw none_ends.0 (held_after-none bytes (joined held (b ∷ [])) none_ends.1 ∙ joined-joined held (b ∷ []) bytes)

-- ---- the first line that ends

pub ended-first : (line rest : List ℕ) (held : Option (List ℕ)) → HasNone 10 line → ended held (line ++ 10 ∷ rest) ≡ held_line (joined held line) ∷ ended (Some []) rest
ended-first [] rest held none_ends = ap (λ h. held_line h ∷ ended (Some []) rest) (sym (joined-nil held))
ended-first (b ∷ line) rest held none_ends = rw none_ends.0 (ended-first line rest (joined held (b ∷ [])) none_ends.1 ∙ ap (λ h. held_line h ∷ ended (Some []) rest) (joined-joined held (b ∷ []) line))

pub held_after-first : (line rest : List ℕ) (held : Option (List ℕ)) → HasNone 10 line → held_after held (line ++ 10 ∷ rest) ≡ held_after (Some []) rest
held_after-first [] rest held none_ends = refl
held_after-first (b ∷ line) rest held none_ends = rw none_ends.0 (held_after-first line rest (joined held (b ∷ [])) none_ends.1)

-- ---- one piece after another

pub ended-append : (xs ys : List ℕ) (held : Option (List ℕ)) → ended held (xs ++ ys) ≡ ended held xs ++ ended (held_after held xs) ys
ended-append [] ys held = refl
ended-append (b ∷ xs) ys held = cases_bool (is_line_feed b) _
    (λ feed. rw feed (ap (λ l. held_line held ∷ l) (ended-append xs ys (Some []))))
    (λ inside. rw inside (ended-append xs ys (joined held (b ∷ []))))

pub held_after-append : (xs ys : List ℕ) (held : Option (List ℕ)) → held_after held (xs ++ ys) ≡ held_after (held_after held xs) ys
held_after-append [] ys held = refl
held_after-append (b ∷ xs) ys held = cases_bool (is_line_feed b) _
    (λ feed. rw feed (held_after-append xs ys (Some [])))
    (λ inside. rw inside (held_after-append xs ys (joined held (b ∷ []))))

-- no more lines end than there are bytes
pub length-ended : (bytes : List ℕ) (held : Option (List ℕ)) → length (ended held bytes) ≤ length bytes
length-ended [] held = omega arith
length-ended (b ∷ bytes) held = cases_bool (is_line_feed b) _
    (λ feed. rw feed (omega (arith, length-ended bytes (Some []))))
    (λ inside. rw inside (omega (arith, length-ended bytes (joined held (b ∷ [])))))
