-- A text that is written part by part.
use Rattle.std.proofs.Common.{◌≡◌, ℕ, zero, suc, ◌+◌, ◌-◌, ◌<◌, ◌≤◌, length, get_or, drop, add-one, drop-cons, List, [], ◌∷◌, ◌++◌, Bool, Option, Result, Ok, Err, refl, sym, ap, subst, ◌∙◌, append-nil, arith}
use Rattle.std.specs.Io.KnownBytes.{Appends}
use Rattle.std.specs.List.{flat_map, range_with_len}
use Rattle.std.proofs.KnownBytes.{Appends-trans}
use Rattle.std.proofs.lemmas.List.Concat.{flat_map-cons}
use Rattle.byte_streams.specs.Sinks.{AllBut, TookPart, Wrote}
use Rattle.byte_streams.proofs.Written.{AllBut-none, AllBut-more, TookPart-rest}

-- the first part was written, and then the second
pub wrote_next : {T E : Type 0} (outcome : Result T E) (failed : Bool) (before mid after : Option (List ℕ)) (first rest : List ℕ)
    → Appends before mid first → Wrote outcome failed mid after rest → Wrote outcome failed before after (first ++ rest)
wrote_next (Ok x) failed before mid after first rest took wrote = Appends-trans before mid after first rest took wrote
wrote_next (Err e) failed before mid after first rest took wrote =
    (wrote.0, TookPart-rest before mid after (first ++ rest) rest rest [] (AllBut-more before before mid (first ++ rest) (first ++ rest) first rest (AllBut-none before (first ++ rest)) took refl) wrote.1 (append-nil rest))

-- part of the first part was written
pub took_first : (before after : Option (List ℕ)) (first rest : List ℕ) → TookPart before after first → TookPart before after (first ++ rest)
took_first before after first rest part = TookPart-rest before before after (first ++ rest) (first ++ rest) first rest (AllBut-none before (first ++ rest)) part refl

-- the first part was written, and part of the second
pub took_second : (before mid after : Option (List ℕ)) (first rest : List ℕ) → Appends before mid first → TookPart mid after rest → TookPart before after (first ++ rest)
took_second before mid after first rest took part =
    TookPart-rest before mid after (first ++ rest) rest rest [] (AllBut-more before before mid (first ++ rest) (first ++ rest) first rest (AllBut-none before (first ++ rest)) took refl) part (append-nil rest)

-- the text of the first of the items that are left, and that of those after it
pub next_item : {X : Type 0} (text : X → List ℕ) (xs : List X) (i : ℕ) (d : X) → i < length xs → text (get_or xs i d) ++ flat_map text (drop (i + 1) xs) ≡ flat_map text (drop i xs)
next_item text xs i d below =
    let here : drop i xs ≡ get_or xs i d ∷ drop (i + 1) xs = drop-cons xs i d below ∙ ap (λ (n : ℕ). get_or xs i d ∷ drop n xs) (sym (add-one i)) in
    sym (ap (flat_map text) here ∙ flat_map-cons text (get_or xs i d) (drop (i + 1) xs))

-- the text of the first of the numbers that are left, and that of those after it
pub next_number : (text : ℕ → List ℕ) (i n : ℕ) → i < n → text i ++ flat_map text (range_with_len (i + 1) (n - (i + 1))) ≡ flat_map text (range_with_len i (n - i))
next_number text i n below =
    let here : n - i ≡ suc (n - (i + 1)) = omega (arith, below) in
    rw here (rw (add-one i) (sym (flat_map-cons text i (range_with_len (suc i) (n - suc i)))))

-- at first all numbers are left
pub all_numbers : (before : Option (List ℕ)) (text : ℕ → List ℕ) (n : ℕ) → AllBut before before (flat_map text (range_with_len 0 n)) (flat_map text (range_with_len 0 (n - 0)))
all_numbers before text n =
    let same : n - 0 ≡ n = omega arith in
    rw same (AllBut-none before (flat_map text (range_with_len 0 n)))

-- no number is left
pub no_number : (text : ℕ → List ℕ) (i n : ℕ) → n ≡ i → flat_map text (range_with_len i (n - i)) ≡ []
no_number text i n all =
    let none : n - i ≡ 0 = omega (arith, all) in
    rw none refl

-- no item is left
pub no_item : {X : Type 0} (text : X → List ℕ) (xs : List X) (i : ℕ) → length xs ≤ i → flat_map text (drop i xs) ≡ []
no_item text xs i all = ap (flat_map text) (drop_all xs i all)
  where
    drop_all : {Y : Type 0} (ys : List Y) (k : ℕ) → length ys ≤ k → drop k ys ≡ []
    drop_all [] zero le = refl
    drop_all [] (suc k) le = refl
    drop_all (y ∷ ys) zero le = absurd (omega (arith, le))
    drop_all (y ∷ ys) (suc k) le = drop_all ys k (omega (arith, le))

-- the same text in other words
pub wrote_as : {T E : Type 0} (outcome : Result T E) (failed : Bool) (before after : Option (List ℕ)) (text same : List ℕ) → text ≡ same
    → Wrote outcome failed before after text → Wrote outcome failed before after same
wrote_as outcome failed before after text same is wrote = subst (λ (t : List ℕ). Wrote outcome failed before after t) is wrote

pub appends_as : (before after : Option (List ℕ)) (text same : List ℕ) → text ≡ same → Appends before after text → Appends before after same
appends_as before after text same is took = subst (λ (t : List ℕ). Appends before after t) is took

pub took_as : (before after : Option (List ℕ)) (text same : List ℕ) → text ≡ same → TookPart before after text → TookPart before after same
took_as before after text same is part = subst (λ (t : List ℕ). TookPart before after t) is part
