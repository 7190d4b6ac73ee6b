-- What is left of lists: how long it is, and what stands at a new number.
use Rattle.std.proofs.Common.{◌≡◌, ℕ, zero, suc, ◌+◌, ◌<◌, ◌≤◌, List, [], ◌∷◌, ◌++◌, length, get_or, slice_index, set, map, filter, replicate, Bool, true, false, cond, nat_eq, inl, inr, refl, sym, ap, ◌∙◌, arith, eq-eqb, ne_eqb}
use Rattle.std.proofs.lemmas.Bool.{cases_eq}
use Rattle.std.proofs.lemmas.List.{map-append}
use Rattle.std.proofs.lemmas.List.Elements.{filter-append}
use Rattle.shop_base.specs.Plan.{count_below}
use Rattle.shop_base.proofs.Counting.{count_found, count_apart, count_passed, count_failed}
use Rattle.run_pruning.specs.Staying.{stays, new_number, staying, renumbered}

-- a count is that of its first number and of the others
pub count_first : (f : ℕ → Bool) (n : ℕ) → count_below f (suc n) ≡ cond (f 0) 1 0 + count_below (λ i. f (suc i)) n
count_first f zero = omega arith
count_first f (suc n) = omega (arith, count_first f n)

-- the first job counts where it stays
number_kept : (bs : List Bool) (j : ℕ) → new_number (true ∷ bs) (suc j) ≡ suc (new_number bs j)
number_kept bs j = omega (arith, count_first (stays (true ∷ bs)) j)

number_dropped : (bs : List Bool) (j : ℕ) → new_number (false ∷ bs) (suc j) ≡ new_number bs j
number_dropped bs j = omega (arith, count_first (stays (false ∷ bs)) j)

-- at the new number of a job that stays stands what stood at its old one
pub staying_at : {A : Type 0} (marks : List Bool) (xs : List A) (j : ℕ) (d : A) → stays marks j ≡ true
    → get_or (staying marks xs) (new_number marks j) d ≡ get_or xs j d
staying_at [] xs j d kept = absurd (cc)
staying_at (b ∷ bs) [] j d kept = refl
staying_at (true ∷ bs) (x ∷ xs) zero d kept = refl
staying_at (true ∷ bs) (x ∷ xs) (suc j) d kept = rw (number_kept bs j) (staying_at bs xs j d kept)
staying_at (false ∷ bs) (x ∷ xs) zero d kept = absurd (cc)
staying_at (false ∷ bs) (x ∷ xs) (suc j) d kept = rw (number_dropped bs j) (staying_at bs xs j d kept)

-- as many are left as jobs stay
pub length-staying : {A : Type 0} (marks : List Bool) (xs : List A) → length marks ≡ length xs
    → length (staying marks xs) ≡ new_number marks (length marks)
length-staying [] xs same = refl
length-staying (b ∷ bs) [] same = absurd (omega (arith, same))
length-staying (true ∷ bs) (x ∷ xs) same = omega (arith, length-staying bs xs (omega (arith, same)), number_kept bs (length bs))
length-staying (false ∷ bs) (x ∷ xs) same = omega (arith, length-staying bs xs (omega (arith, same)), number_dropped bs (length bs))

-- what is written for a job that stays is written at its new number
pub staying-set_kept : {A : Type 0} (marks : List Bool) (xs : List A) (j : ℕ) (x : A) → stays marks j ≡ true
    → staying marks (set xs j x) ≡ set (staying marks xs) (new_number marks j) x
staying-set_kept [] xs j y kept = absurd (cc)
staying-set_kept (b ∷ bs) [] j y kept = refl
staying-set_kept (true ∷ bs) (x ∷ xs) zero y kept = refl
staying-set_kept {A} (true ∷ bs) (x ∷ xs) (suc j) y kept = rw (number_kept bs j) (ap {B = List A} (λ l. x ∷ l) (staying-set_kept bs xs j y kept))
staying-set_kept (false ∷ bs) (x ∷ xs) zero y kept = absurd (cc)
staying-set_kept (false ∷ bs) (x ∷ xs) (suc j) y kept = rw (number_dropped bs j) (staying-set_kept bs xs j y kept)

-- and what is written for one that doesn't isn't seen
pub staying-set_dropped : {A : Type 0} (marks : List Bool) (xs : List A) (j : ℕ) (x : A) → stays marks j ≡ false
    → staying marks (set xs j x) ≡ staying marks xs
staying-set_dropped [] xs j y dropped = refl
staying-set_dropped (b ∷ bs) [] j y dropped = refl
staying-set_dropped (true ∷ bs) (x ∷ xs) zero y dropped = absurd (cc)
staying-set_dropped {A} (true ∷ bs) (x ∷ xs) (suc j) y dropped = ap {B = List A} (λ l. x ∷ l) (staying-set_dropped bs xs j y dropped)
staying-set_dropped (false ∷ bs) (x ∷ xs) zero y dropped = refl
staying-set_dropped (false ∷ bs) (x ∷ xs) (suc j) y dropped = staying-set_dropped bs xs j y dropped

-- of the same for each job is left the same
pub staying-replicate : {A : Type 0} (marks : List Bool) (n : ℕ) (x : A) → length marks ≡ n → staying marks (replicate n x) ≡ replicate (new_number marks n) x
staying-replicate [] zero x same = refl
staying-replicate [] (suc n) x same = absurd (omega (arith, same))
staying-replicate (b ∷ bs) zero x same = absurd (omega (arith, same))
staying-replicate {A} (true ∷ bs) (suc n) x same = rw (number_kept bs n) (ap {B = List A} (λ l. x ∷ l) (staying-replicate bs n x (omega (arith, same))))
staying-replicate (false ∷ bs) (suc n) x same = rw (number_dropped bs n) (staying-replicate bs n x (omega (arith, same)))

-- each number below the number of those that stay is the new one of some job that stays
pub job_of : (marks : List Bool) (n i : ℕ) → i < new_number marks n → (j : ℕ) × (j < n) × (stays marks j ≡ true) × (new_number marks j ≡ i)
job_of marks n i less = count_found (stays marks) n i less

-- jobs that stay are told apart by their new numbers
pub number_once : (marks : List Bool) (i j : ℕ) → stays marks i ≡ true → stays marks j ≡ true → new_number marks i ≡ new_number marks j → i ≡ j
number_once marks i j one other same = count_apart (stays marks) i j one other same

-- lists of jobs one after the other
pub renumbered-append : (marks : List Bool) (xs ys : List ℕ) → renumbered marks (xs ++ ys) ≡ renumbered marks xs ++ renumbered marks ys
renumbered-append marks xs ys = ap (map (new_number marks)) (filter-append (stays marks) xs ys) ∙ map-append (new_number marks) (filter (stays marks) xs) (filter (stays marks) ys)

-- a job alone
pub renumbered_kept : (marks : List Bool) (j : ℕ) → stays marks j ≡ true → renumbered marks (j ∷ []) ≡ new_number marks j ∷ []
renumbered_kept marks j kept = ap {B = List ℕ} (λ (b : Bool). map (new_number marks) (cond b (j ∷ []) [])) kept

pub renumbered_dropped : (marks : List Bool) (j : ℕ) → stays marks j ≡ false → renumbered marks (j ∷ []) ≡ []
renumbered_dropped marks j dropped = ap {B = List ℕ} (λ (b : Bool). map (new_number marks) (cond b (j ∷ []) [])) dropped

-- whether a job stays that stands at a place of a list
abbrev pub stays_at : List Bool → List ℕ → ℕ → Bool
stays_at marks js a = stays marks (get_or js a 0)

-- how many of those before a place stay: the new place of a job that stays
abbrev pub new_place : List Bool → List ℕ → ℕ → ℕ
new_place marks js a = count_below (stays_at marks js) a

renumbered_first : (marks : List Bool) (j : ℕ) (js : List ℕ) (b : Bool) → stays marks j ≡ b
    → renumbered marks (j ∷ js) ≡ cond b (new_number marks j ∷ renumbered marks js) (renumbered marks js)
renumbered_first marks j js true is = ap {B = List ℕ} (λ (b : Bool). map (new_number marks) (cond b (j ∷ filter (stays marks) js) (filter (stays marks) js))) is
renumbered_first marks j js false is = ap {B = List ℕ} (λ (b : Bool). map (new_number marks) (cond b (j ∷ filter (stays marks) js) (filter (stays marks) js))) is

place_first : (marks : List Bool) (j : ℕ) (js : List ℕ) (a : ℕ) (b : Bool) → stays marks j ≡ b
    → new_place marks (j ∷ js) (suc a) ≡ cond b 1 0 + new_place marks js a
place_first marks j js a b is = count_first (stays_at marks (j ∷ js)) a ∙ ap {B = ℕ} (λ (x : Bool). cond x 1 0 + new_place marks js a) is

-- behind a first job, whether that stays or not
at_later : (marks : List Bool) (j : ℕ) (js : List ℕ) (a i : ℕ) (b : Bool) → stays marks j ≡ b
    → get_or (renumbered marks js) (new_place marks js a) 0 ≡ i → get_or (renumbered marks (j ∷ js)) (new_place marks (j ∷ js) (suc a)) 0 ≡ i
at_later marks j js a i true is later =
    let place : new_place marks (j ∷ js) (suc a) ≡ suc (new_place marks js a) = omega (arith, place_first marks j js a true is) in
    rw (renumbered_first marks j js true is, place) later
at_later marks j js a i false is later =
    let place : new_place marks (j ∷ js) (suc a) ≡ new_place marks js a = omega (arith, place_first marks j js a false is) in
    rw (renumbered_first marks j js false is, place) later

-- at the new place of a job that stays stands its new number
pub renumbered_at : (marks : List Bool) (js : List ℕ) (a : ℕ) → a < length js → stays_at marks js a ≡ true
    → get_or (renumbered marks js) (new_place marks js a) 0 ≡ new_number marks (get_or js a 0)
renumbered_at marks [] a within kept = absurd (omega (arith, within))
renumbered_at marks (j ∷ js) zero within kept = ap (λ l. get_or l 0 0) (renumbered_first marks j js true kept)
renumbered_at marks (j ∷ js) (suc a) within kept =
    at_later marks j js a (new_number marks (get_or js a 0)) (stays marks j) refl (renumbered_at marks js a (omega (arith, within)) kept)

length_later : (marks : List Bool) (j : ℕ) (js : List ℕ) (b : Bool) → stays marks j ≡ b → length (renumbered marks js) ≡ new_place marks js (length js)
    → length (renumbered marks (j ∷ js)) ≡ new_place marks (j ∷ js) (suc (length js))
length_later marks j js true is same = omega (arith, ap length (renumbered_first marks j js true is), place_first marks j js (length js) true is, same)
length_later marks j js false is same = omega (arith, ap length (renumbered_first marks j js false is), place_first marks j js (length js) false is, same)

pub length-renumbered : (marks : List Bool) (js : List ℕ) → length (renumbered marks js) ≡ new_place marks js (length js)
length-renumbered marks [] = refl
length-renumbered marks (j ∷ js) = length_later marks j js (stays marks j) refl (length-renumbered marks js)

-- new numbers are the same where the jobs are
number_same : (marks : List Bool) (i j : ℕ) → stays marks i ≡ true → stays marks j ≡ true → nat_eq (new_number marks i) (new_number marks j) ≡ nat_eq i j
number_same marks i j one other = elim (cases_eq i j) [
  | inl same ↦ eq-eqb (new_number marks i) (new_number marks j) (ap (new_number marks) same) ∙ sym (eq-eqb i j same)
  | inr apart ↦ ne_eqb (new_number marks i) (new_number marks j) (λ same. apart (number_once marks i j one other same)) ∙ sym (ne_eqb i j apart)
]

-- a job that stays stands before its new places as often as before its old ones
pub places_kept : (marks : List Bool) (js : List ℕ) (j a : ℕ) → a ≤ length js → stays marks j ≡ true
    → count_below (λ b. nat_eq (slice_index (renumbered marks js) b) (new_number marks j)) (new_place marks js a) ≡ count_below (λ b. nat_eq (slice_index js b) j) a
places_kept marks js j zero within kept = refl
places_kept marks js j (suc a) within kept = one_more marks js j a (stays_at marks js a) refl (omega (arith, within)) kept (places_kept marks js j a (omega (arith, within)) kept)
  where
    one_more : (marks : List Bool) (js : List ℕ) (j a : ℕ) (b : Bool) → stays_at marks js a ≡ b → a < length js → stays marks j ≡ true
        → count_below (λ x. nat_eq (slice_index (renumbered marks js) x) (new_number marks j)) (new_place marks js a) ≡ count_below (λ x. nat_eq (slice_index js x) j) a
        → count_below (λ x. nat_eq (slice_index (renumbered marks js) x) (new_number marks j)) (new_place marks js (suc a)) ≡ count_below (λ x. nat_eq (slice_index js x) j) (suc a)
    one_more marks js j a true is within kept same =
        let place : new_place marks js (suc a) ≡ suc (new_place marks js a) = omega (arith, count_passed (stays_at marks js) a is) in
        let test : nat_eq (slice_index (renumbered marks js) (new_place marks js a)) (new_number marks j) ≡ nat_eq (slice_index js a) j =
        ap (λ x. nat_eq x (new_number marks j)) (renumbered_at marks js a within is) ∙ number_same marks (slice_index js a) j is kept in
        rw place (omega (arith, same, ap {B = ℕ} (λ (x : Bool). cond x 1 0) test))
    one_more marks js j a false is within kept same =
        let place : new_place marks js (suc a) ≡ new_place marks js a = count_failed (stays_at marks js) a is in
        let apart : nat_eq (slice_index js a) j ≡ false = ne_eqb (slice_index js a) j (λ here. absurd (let gone = ap (stays marks) (sym here) in cc)) in
        rw place (same ∙ sym (count_failed (λ x. nat_eq (slice_index js x) j) a apart))
