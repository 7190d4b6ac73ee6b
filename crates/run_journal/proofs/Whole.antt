-- The whole lines of texts that are cut, or put together.
use Rattle.std.proofs.lemmas.{List.{nil_from_length, take_more}, Bool.{eqb-true, Decides.nat_tests}}
use Rattle.std.proofs.Common.{◌≡◌, ◌≢◌, ℕ, zero, suc, ◌+◌, ◌≤◌, ◌<◌, Bool, true, false, List, [], ◌∷◌, ◌++◌, length, take, get_or, Option, None, Some, IfSome, take-append-drop, append-nil, if◌then◌else◌, ◌==◌, refl, sym, ap, ◌∙◌, arith}
use Rattle.run_journal.specs.{LogFiles.{zeros, IsLeft}, WholeLines.{before_any, whole_lines, torn_end}}

-- one byte more at the front, where this says whether it is a line feed
abbrev step : Bool → ℕ → List ℕ → List ℕ
step feed x w = if feed then x ∷ w else before_any x w

step-pushed : (feed : Bool) (x : ℕ) (xs : List ℕ) (b : ℕ) → step feed x (xs ++ b ∷ []) ≡ x ∷ xs ++ b ∷ []
step-pushed true x xs b = refl
step-pushed false x [] b = refl
step-pushed false x (y ∷ xs) b = refl

-- a line feed at the end makes a text whole
pub whole-push_feed : (xs : List ℕ) → whole_lines (xs ++ 10 ∷ []) ≡ xs ++ 10 ∷ []
whole-push_feed [] = refl
whole-push_feed (x ∷ xs) = ap (λ w. step (x == 10) x w) (whole-push_feed xs) ∙ step-pushed (x == 10) x xs 10

-- any other byte is no part of a whole line
whole-push_other : (xs : List ℕ) (b : ℕ) → b ≢ 10 → whole_lines (xs ++ b ∷ []) ≡ whole_lines xs
whole-push_other [] b other = grind (arith, nat_tests)
whole-push_other (x ∷ xs) b other = ap (λ w. step (x == 10) x w) (whole-push_other xs b other)

pub whole-take_feed : (xs : List ℕ) (n : ℕ) → n < length xs → get_or xs n 0 ≡ 10 → whole_lines (take (n + 1) xs) ≡ take (n + 1) xs
whole-take_feed xs n within feed =
    let is : take (n + 1) xs ≡ take n xs ++ 10 ∷ [] = take_more xs n 0 within ∙ ap (λ b. take n xs ++ b ∷ []) feed in
    ap whole_lines is ∙ whole-push_feed (take n xs) ∙ sym is

pub whole-take_other : (xs : List ℕ) (n : ℕ) → n < length xs → get_or xs n 0 ≢ 10 → whole_lines (take (n + 1) xs) ≡ whole_lines (take n xs)
whole-take_other xs n within other = ap whole_lines (take_more xs n 0 within) ∙ whole-push_other (take n xs) (get_or xs n 0) other

step-length : (feed : Bool) (x : ℕ) (w : List ℕ) (m : ℕ) → length (step feed x w) ≤ suc m → length w ≤ m
step-length true x w m le = omega (arith, le)
step-length false x [] m le = omega arith
step-length false x (y ∷ w) m le = omega (arith, le)

-- a cut behind the whole lines keeps them
pub cut_keeps : (file : List ℕ) (m : ℕ) → length (whole_lines file) ≤ m → whole_lines (take m file) ≡ whole_lines file
cut_keeps [] zero le = refl
cut_keeps [] (suc m) le = refl
cut_keeps (x ∷ xs) zero le = sym (nil_from_length (whole_lines (x ∷ xs)) (omega (arith, le)))
cut_keeps (x ∷ xs) (suc m) le = ap (λ w. step (x == 10) x w) (cut_keeps xs m (step-length (x == 10) x (whole_lines xs) m le))

step-front : (feed : Bool) (x : ℕ) (w r : List ℕ) → (more : List ℕ) × (step feed x (w ++ r) ≡ step feed x w ++ more)
step-front true x w r = (r, refl)
step-front false x [] r = (before_any x r, refl)
step-front false x (y ∷ w) r = (r, refl)

-- more bytes only add whole lines
pub whole-front : (xs ys : List ℕ) → (more : List ℕ) × (whole_lines (xs ++ ys) ≡ whole_lines xs ++ more)
whole-front [] ys = (whole_lines ys, refl)
whole-front (x ∷ xs) ys =
    let rest = whole-front xs ys in
    let next = step-front (x == 10) x (whole_lines xs) rest.0 in
    (next.0, ap (λ w. step (x == 10) x w) rest.1 ∙ next.1)

pub step-whole : (feed : Bool) (x : ℕ) (v xs : List ℕ) → step feed x v ≡ x ∷ xs → v ≡ xs
step-whole true x v xs is = cc is
step-whole false x [] xs is = absurd (cc is)
step-whole false x (y ∷ v) xs is = cc is

step-behind : (feed : Bool) (x : ℕ) (xs more : List ℕ) → step feed x xs ≡ x ∷ xs → step feed x (xs ++ more) ≡ x ∷ xs ++ more
step-behind true x xs more is = refl
step-behind false x [] more is = absurd (cc is)
step-behind false x (y ∷ xs) more is = refl

-- behind whole lines come the whole lines of what follows
pub whole-behind : (base more : List ℕ) → whole_lines base ≡ base → whole_lines (base ++ more) ≡ base ++ whole_lines more
whole-behind [] more whole = refl
whole-behind (x ∷ xs) more whole =
    let rest : whole_lines xs ≡ xs = step-whole (x == 10) x (whole_lines xs) xs whole in
    let first : step (x == 10) x xs ≡ x ∷ xs = ap (λ w. step (x == 10) x w) (sym rest) ∙ whole in
    ap (λ w. step (x == 10) x w) (whole-behind xs more rest) ∙ step-behind (x == 10) x xs (whole_lines more) first

step-longer : (feed : Bool) (x : ℕ) (w : List ℕ) → length (step feed x w) ≤ suc (length w)
step-longer true x w = omega arith
step-longer false x [] = omega arith
step-longer false x (y ∷ w) = omega arith

pub whole-length : (file : List ℕ) → length (whole_lines file) ≤ length file
whole-length [] = omega arith
whole-length (x ∷ xs) = omega (arith, step-longer (x == 10) x (whole_lines xs), whole-length xs)

-- what is read up to the last line feed are the whole lines
pub take_whole : (file : List ℕ) → take (length (whole_lines file)) file ≡ whole_lines file
take_whole [] = refl
take_whole (x ∷ xs) = step-take (x == 10) x xs (whole_lines xs) (take_whole xs)
  where
    step-take : (feed : Bool) (x : ℕ) (xs w : List ℕ) → take (length w) xs ≡ w → take (length (step feed x w)) (x ∷ xs) ≡ step feed x w
    step-take true x xs w is = ap (λ l. x ∷ l) is
    step-take false x xs [] is = refl
    step-take false x xs (y ∷ w) is = ap (λ l. x ∷ l) is

-- zeros end no line
pub whole-zeros : (xs : List ℕ) (n : ℕ) → whole_lines (xs ++ zeros n) ≡ whole_lines xs
whole-zeros [] zero = refl
whole-zeros [] (suc n) = ap (λ w. step (0 == 10) 0 w) (whole-zeros [] n)
whole-zeros (x ∷ xs) n = ap (λ w. step (x == 10) x w) (whole-zeros xs n)

-- what is left of a file that is cut behind its whole lines has the same
pub left_whole : (file left : List ℕ) (least : ℕ) → length (whole_lines file) ≤ least → IsLeft least file left → whole_lines left ≡ whole_lines file
left_whole file left least within is =
    ap whole_lines is.is ∙ whole-zeros (take is.count file) is.unwritten ∙ cut_keeps file is.count (omega (arith, within, is.at_least))

-- a file without a torn end has whole lines alone
pub untorn : (file : List ℕ) → torn_end file ≡ [] → whole_lines file ≡ file
untorn file none =
    let front = length (whole_lines file) in
    sym (take_whole file) ∙ sym (append-nil (take front file)) ∙ ap (λ l. take front file ++ l) (sym none) ∙ take-append-drop front file

pub uncut : (seen : Option (List ℕ)) (text end : List ℕ) → end ≡ torn_end text → (length end == 0) ≡ true → IfSome seen (λ file. text ≡ file) → IfSome seen (λ file. seen ≡ Some (whole_lines file))
uncut None text end is none same = tt
uncut (Some file) text end is none same =
    let no_end : [] ≡ end = sym (nil_from_length end (eqb-true (length end) 0 none)) in
    ap Some (sym (untorn file (ap torn_end (sym same) ∙ sym is ∙ sym no_end)))
