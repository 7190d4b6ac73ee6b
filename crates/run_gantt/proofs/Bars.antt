-- What a visit shows in the columns of a bar.
use Rattle.std.proofs.Common.{◌≡◌, ℕ, ◌+◌, ◌*◌, ◌/◌, ◌%◌, ◌<◌, ◌≤◌, min, nat_le, Bool, true, false, ◌&&◌, if◌then◌else◌, List, [], ◌∷◌, length, get_or, Option, None, Some, refl, sym, ap, subst, replicate, map, take, drop, ◌++◌, add-one, append_assoc, drop-cons, ◌≢◌, ◌⊎◌, inl, inr, ◌∙◌, arith}
use Rattle.std.proofs.lemmas.Bool.{le-leb, lt-leb, cases_lt}
use Rattle.std.proofs.lemmas.List.{get_or-replicate, get_or_past, ext_get_or, get_or-map, get_or-take, length-map, length-take-le}
use Rattle.std.proofs.lemmas.List.FromFn.{get_or-map-range_with_len, length-map-range_with_len}
use Rattle.std.proofs.lemmas.Nat.{mul-le}
use Rattle.std.proofs.lemmas.Grind.{div_ceil_times}
use Rattle.run_gantt.specs.declared.visits.LoggedVisit.{LoggedVisit}
use Rattle.std.specs.Option.{option_or}
use Rattle.run_gantt.specs.Visits.{first_of}
use Rattle.run_gantt.specs.GanttText.{is_before, digit_of, sign_of, column_sign, bar_of}

pub option_or-none : {T : Type 0} → (x : Option T) → option_or x None ≡ x
option_or-none None = refl
option_or-none (Some x) = refl

pub option_or-assoc : {T : Type 0} → (x y z : Option T) → option_or (option_or x y) z ≡ option_or x (option_or y z)
option_or-assoc None y z = refl
option_or-assoc (Some x) y z = refl

-- a visit shows nothing before the job enters
pub sign-early : (t : ℕ) (visit : LoggedVisit) → t < visit.enter → sign_of t visit ≡ None
sign-early t visit early = rw (lt-leb visit.enter t early) refl

-- in between it shows its sign
pub sign-there : (t : ℕ) (visit : LoggedVisit) → visit.enter ≤ t → is_before t visit.leave ≡ true
    → sign_of t visit ≡ Some (if is_before t visit.finish then digit_of visit.job else 61)
sign-there t visit entered before = rw (le-leb visit.enter t entered, before) refl

-- the columns before the first at or after a moment are before the moment
pub column-before : (moment scale c : ℕ) → 0 < scale → c < moment / scale + min 1 (moment % scale) → c * scale < moment
column-before moment scale c above less =
    let first : ℕ = moment / scale + min 1 (moment % scale) in
    let (reached, near) = div_ceil_times moment scale above in
    omega (arith, near, mul-le (c + 1) scale first scale (omega arith) (omega arith))

pub column-after : (moment scale : ℕ) → 0 < scale → moment ≤ (moment / scale + min 1 (moment % scale)) * scale
column-after moment scale above = (div_ceil_times moment scale above).0

-- the first moments of later columns are later
pub columns-rise : (a b scale : ℕ) → a ≤ b → a * scale ≤ b * scale
columns-rise a b scale le = mul-le a scale b scale le (omega arith)

-- one more column is done
pub column-done : (before now after : List (Option ℕ)) (scale column sign : ℕ) (visit : LoggedVisit)
    → ((c : ℕ) → c < column → c < 60 → get_or now c None ≡ option_or (get_or before c None) (sign_of (c * scale) visit))
    → ((c : ℕ) → column ≤ c → get_or now c None ≡ get_or before c None)
    → sign_of (column * scale) visit ≡ Some sign
    → get_or after column None ≡ option_or (get_or now column None) (Some sign)
    → ((c : ℕ) → c ≢ column → get_or after c None ≡ get_or now c None)
    → (c : ℕ) → c < column + 1 → c < 60 → get_or after c None ≡ option_or (get_or before c None) (sign_of (c * scale) visit)
column-done before now after scale column sign visit done others shows here elsewhere c less inside = go (cases_lt c column)
  where
    go : (c < column) ⊎ (column ≤ c) → get_or after c None ≡ option_or (get_or before c None) (sign_of (c * scale) visit)
    go (inl lower) = elsewhere c (λ same. absurd (omega (arith, same))) ∙ done c lower inside
    go (inr reached) =
        let same : column ≡ c = omega arith in
        subst (λ (x : ℕ). get_or after x None ≡ option_or (get_or before x None) (sign_of (x * scale) visit)) same
        (here ∙ rw (others column (omega arith), shows) refl)

-- a sign is an ASCII character
sign-ascii : (t sign : ℕ) (visit : LoggedVisit) → sign_of t visit ≡ Some sign → sign < 128
sign-ascii t sign visit is = go (nat_le visit.enter t && is_before t visit.leave) (is_before t visit.finish) is
  where
    go : (there before : Bool) → (if there then Some (if before then digit_of visit.job else 61) else None) ≡ Some sign → sign < 128
    go true true same = let digit : digit_of visit.job ≡ sign = cc in omega (arith, digit)
    go true false same = let equals : 61 ≡ sign = cc in omega (arith, equals)
    go false before same = absurd (cc)

-- so is what a column shows of some visits
pub shown-ascii : (t sign : ℕ) (visits : List LoggedVisit) → first_of (sign_of t) visits ≡ Some sign → sign < 128
shown-ascii t sign [] is = absurd (cc)
shown-ascii t sign (visit ∷ visits) is = go (sign_of t visit) refl is (shown-ascii t sign visits)
  where
    go : (one : Option ℕ) → sign_of t visit ≡ one → option_or one (first_of (sign_of t) visits) ≡ Some sign → (first_of (sign_of t) visits ≡ Some sign → sign < 128) → sign < 128
    go None here same later = later same
    go (Some other) here same later = sign-ascii t sign visit (here ∙ same)

-- a column's character is an ASCII character
pub column-ascii : (column : Option ℕ) → ((sign : ℕ) → column ≡ Some sign → sign < 128) → column_sign column < 128
column-ascii None ascii = omega arith
column-ascii (Some sign) ascii = ascii sign refl

-- one more column is written
pub columns-more : (now new all : List ℕ) (columns : List (Option ℕ)) (i sign : ℕ) → i < length columns → new ≡ now ++ sign ∷ [] → sign ≡ column_sign (get_or columns i None)
    → now ++ map column_sign (drop i columns) ≡ all → new ++ map column_sign (drop (i + 1) columns) ≡ all
columns-more now new all columns i sign below pushed is so_far =
    let here : drop i columns ≡ get_or columns i None ∷ drop (i + 1) columns = drop-cons columns i None below ∙ ap (λ (n : ℕ). get_or columns i None ∷ drop n columns) (sym (add-one i)) in
    ap (λ (l : List ℕ). l ++ map column_sign (drop (i + 1) columns)) (pushed ∙ ap (λ (x : ℕ). now ++ x ∷ []) is)
    ∙ append_assoc now (column_sign (get_or columns i None) ∷ []) (map column_sign (drop (i + 1) columns))
    ∙ ap (λ (l : List (Option ℕ)). now ++ map column_sign l) (sym here)
    ∙ so_far

-- the columns of a bar, as text
pub bar-text : (bar : List (Option ℕ)) (scale columns : ℕ) (visits : List LoggedVisit) → length bar ≡ 60 → columns ≤ 60
    → ((c : ℕ) → c < 60 → get_or bar c None ≡ first_of (sign_of (c * scale)) visits) → map column_sign (take columns bar) ≡ bar_of scale columns visits
bar-text bar scale columns visits whole few shown =
    let size : length (take columns bar) ≡ columns = length-take-le columns bar (omega (arith, whole)) in
    let long : length (map column_sign (take columns bar)) ≡ columns = length-map (take columns bar) column_sign ∙ size in
    ext_get_or 0 _ _ (long ∙ sym (length-map-range_with_len _ 0 columns)) λ i inside.
    let below : i < columns = omega (arith, long, inside) in
    get_or-map column_sign (take columns bar) i None 0 (omega (arith, size, below))
    ∙ ap column_sign (get_or-take columns bar i None below ∙ shown i (omega arith))
    ∙ sym (get_or-map-range_with_len _ 0 columns i i 0 below (omega arith))

-- a bar of which nothing is shown yet
pub bar-shown : (before after : List (Option ℕ)) (scale : ℕ) (visits : List LoggedVisit) → before ≡ replicate 60 None
    → ((c : ℕ) → c < 60 → get_or after c None ≡ option_or (get_or before c None) (first_of (sign_of (c * scale)) visits))
    → (c : ℕ) → c < 60 → get_or after c None ≡ first_of (sign_of (c * scale)) visits
bar-shown before after scale visits empty shown c inside =
    let none : get_or before c None ≡ None = rw empty (get_or-replicate 60 c None None inside) in
    shown c inside ∙ ap (λ (x : Option ℕ). option_or x (first_of (sign_of (c * scale)) visits)) none

-- all columns of a bar are ASCII characters
pub columns-ascii : (bar : List (Option ℕ)) (scale columns : ℕ) (visits : List LoggedVisit) → length bar ≡ 60 → columns ≤ 60
    → ((c : ℕ) → c < 60 → get_or bar c None ≡ first_of (sign_of (c * scale)) visits)
    → (c sign : ℕ) → get_or (take columns bar) c None ≡ Some sign → sign < 128
columns-ascii bar scale columns visits whole few shown c sign is = go (cases_lt c columns)
  where
    go : (c < columns) ⊎ (columns ≤ c) → sign < 128
    go (inl below) = shown-ascii (c * scale) sign visits (sym (shown c (omega arith)) ∙ sym (get_or-take columns bar c None below) ∙ is)
    go (inr past) =
        let none : get_or (take columns bar) c None ≡ None = get_or_past (take columns bar) c None (omega (arith, past, length-take-le columns bar (omega (arith, whole)))) in
        absurd (cc)

-- the parts of a machine's lines are written one after another
pub six_parts : (start a b c d e f one two three four five six : List ℕ) → one ≡ start ++ a → two ≡ one ++ b → three ≡ two ++ c → four ≡ three ++ d
    → five ≡ four ++ e → six ≡ five ++ f → six ≡ start ++ (a ++ b ++ c ++ d ++ e ++ f)
six_parts start a b c d e f one two three four five six is_one is_two is_three is_four is_five is_six =
    rw (is_six, is_five, is_four, is_three, is_two, is_one) (simp append_assoc)
