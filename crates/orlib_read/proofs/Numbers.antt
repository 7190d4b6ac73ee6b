-- Words that are numbers, and the kinds of lines that they make.
use Rattle.std.proofs.Common.{◌≡◌, ℕ, suc, ◌+◌, ◌*◌, ◌%◌, ◌==◌, Bool, true, false, cond, List, [], ◌∷◌, ◌++◌, length, Option, Some, None, Result, Ok, Err, refl, sym, ap, subst, ◌∙◌, arith, inl, inr}
use Rattle.std.specs.Prelude.{is_some, is_err, option_map, option_and_then, codes, nat_le, nat_lt, ◌&&◌, ◌⊎◌}
use Rattle.std.specs.Str.{bytes_eq}
use Rattle.std.specs.List.{list_all}
use Rattle.std.proofs.lemmas.Bool.{eqb-true, and_parts, ltb-true, leb-true, lt-ltb, le-leb}
use Rattle.std.proofs.lemmas.Option.{cond_some, none-some, same_Some}
use Rattle.std.proofs.lemmas.Slice.Eq.{bytes_eq-Decides}
use Rattle.shop_base.specs.declared.shop.Step.{Step}
use Rattle.orlib_read.specs.declared.named.Sizes.{Sizes}
use Rattle.orlib_read.specs.declared.or_fault.OrFault.{OrFault}
use Rattle.orlib_read.specs.declared.or_fault.OrFault.TheVariants.{BadNumber, OddWords}
use Rattle.text_lines.specs.Lines.{NumberedLine}
use Rattle.orlib_read.specs.Words.{words_of, is_number, number_of, IsNumber, AreNumbers, is_odd}
use Rattle.text_lines.specs.Numbers.{is_digit, value_of}
use Rattle.orlib_read.specs.Kinds.{IsInstanceLine, IsAnyInstanceLine, IsOtherLine, IsSizeLine, IsSized, IsSizeLineOf, IsJobLine, numbers_of}
use Rattle.orlib_read.specs.Faults.{IsFirstNonNumber, IsOddLine, IsWordLine}
use Rattle.orlib_read.specs.Reading.{◌>>=◌, Gives, name_of, is_instance_line, sizes_with, sizes_of, worded_sizes_of, number_or, step_at, steps_at, route_at}
use Rattle.orlib_read.proofs.Parts.{cases_bool}

-- ---- what a step of reading gave

pub bind_ok : {A B : Type 0} (r : Result A OrFault) (f : A → Result B OrFault) (y : B) → (r >>= f) ≡ Ok y → (x : A) × (r ≡ Ok x) × (f x ≡ Ok y)
bind_ok (Ok x) f y e = (x, refl, e)
bind_ok (Err d) f y e = absurd cc

pub bind_err : {A B P : Type 0} (r : Result A OrFault) (f : A → Result B OrFault) (d : OrFault) → (r >>= f) ≡ Err d → (r ≡ Err d → P) → ((x : A) → r ≡ Ok x → f x ≡ Err d → P) → P
bind_err (Ok x) f d e first second = second x refl e
bind_err (Err c) f d e first second = first (let same : c ≡ d = cc in ap (λ (fault : OrFault). Err fault) same)

abbrev pub done : {A : Type 0} → A → Result A OrFault
done x = Ok x

pub ok_is : {A : Type 0} (x y : A) → done x ≡ done y → x ≡ y
ok_is x y e = cc

abbrev pub failed : {A : Type 0} → OrFault → Result A OrFault
failed fault = Err fault

pub err_is : {A : Type 0} (c d : OrFault) → failed {A = A} c ≡ failed d → c ≡ d
err_is c d e = cc

pub none_of : {A : Type 0} (o : Option A) → ((x : A) → o ≡ Some x → ⊥) → o ≡ None
none_of None h = refl
none_of (Some x) h = absurd (h x refl)

some_of : {A : Type 0} (o : Option A) → is_some o ≡ true → (x : A) × (o ≡ Some x)
some_of None h = absurd cc
some_of (Some x) h = (x, refl)

-- ---- numbers

pub number_is : (word : List ℕ) (n : ℕ) → number_of word ≡ Some n → IsNumber word n
number_is word n h =
    let p = cond_some (is_number word) (value_of word) n h in
    let all = and_parts (nat_lt 0 (length word) && nat_le (length word) 9) (list_all is_digit word) p.0 in
    let counts = and_parts (nat_lt 0 (length word)) (nat_le (length word) 9) all.0 in
    record {
      some = ltb-true 0 (length word) counts.0;
      few = leb-true (length word) 9 counts.1;
      digits = all.1;
      value = sym p.1;
    }

pub number_again : (word : List ℕ) (n : ℕ) → IsNumber word n → number_of word ≡ Some n
number_again word n h = rw (lt-ltb 0 (length word) h.some, le-leb (length word) 9 h.few, h.digits) (ap (λ (value : ℕ). Some value) (sym h.value))

pub number_none : (word : List ℕ) → ((n : ℕ) → IsNumber word n → ⊥) → number_of word ≡ None
number_none word h = none_of (number_of word) (λ n e. h n (number_is word n e))

pub number_not : (word : List ℕ) (n : ℕ) → number_of word ≡ None → IsNumber word n → ⊥
number_not word n h i = none-some n (sym h ∙ number_again word n i)

-- ---- instance lines

name_is : (words : List (List ℕ)) (name : List ℕ) → name_of words ≡ Some name → words ≡ codes "instance" ∷ name ∷ []
name_is [] name h = absurd cc
name_is (word ∷ []) name h = absurd cc
name_is (word ∷ other ∷ []) name h =
    let p = cond_some (bytes_eq word (codes "instance")) other name h in
    rw ((bytes_eq-Decides word (codes "instance")).0 p.0, p.1) refl
name_is (word ∷ other ∷ third ∷ words) name h = absurd cc

pub title_is : (line : NumberedLine) (name : List ℕ) → name_of (words_of line.bytes) ≡ Some name → IsInstanceLine line name
title_is line name h = name_is (words_of line.bytes) name h

pub title_again : (line : NumberedLine) (name : List ℕ) → IsInstanceLine line name → name_of (words_of line.bytes) ≡ Some name
title_again line name h = rw h refl

pub any_title : (line : NumberedLine) → is_instance_line line ≡ true → IsAnyInstanceLine line
any_title line h = let s = some_of (name_of (words_of line.bytes)) h in (s.0, title_is line s.0 s.1)

pub any_title_again : (line : NumberedLine) → IsAnyInstanceLine line → is_instance_line line ≡ true
any_title_again line h = rw (title_again line h.0 h.1) refl

pub other_line : (line : NumberedLine) → is_instance_line line ≡ false → IsOtherLine line
other_line line h name title = let yes = any_title_again line (name, title) in let no : true ≡ false = sym yes ∙ h in absurd (cc)

pub other_line_again : (line : NumberedLine) → IsOtherLine line → is_instance_line line ≡ false
other_line_again line h = cases_bool (is_instance_line line) _ (λ e. let t = any_title line e in absurd (h t.0 t.1)) (λ e. e)

-- ---- size lines

-- both words are numbers where there are sizes
both_some : (again : Bool) (one other : Option ℕ) (s : Sizes)
    → option_and_then (λ n. option_map (λ m. record { jobs = n; machines = m; recirculates = again }) other) one ≡ Some s
    → (one ≡ Some s.jobs) × (other ≡ Some s.machines) × (s.recirculates ≡ again)
both_some again None other s h = absurd cc
both_some again (Some n) None s h = absurd cc
both_some again (Some n) (Some m) s h =
    let same : record { jobs = n; machines = m; recirculates = again } ≡ s = same_Some _ s h in
    (ap (λ (x : Sizes). Some x.jobs) same, ap (λ (x : Sizes). Some x.machines) same, sym (ap (λ (x : Sizes). x.recirculates) same))

with_is : (jobs machines : List ℕ) (again : Bool) (s : Sizes) → sizes_with jobs machines again ≡ Some s
    → AreNumbers (jobs ∷ machines ∷ []) (s.jobs ∷ s.machines ∷ []) × (s.recirculates ≡ again)
with_is jobs machines again s h =
    let both = both_some again (number_of jobs) (number_of machines) s h in
    ((number_is jobs s.jobs both.0, (number_is machines s.machines both.1, tt)), both.2)

with_again : (words : List (List ℕ)) (n m : ℕ) (again : Bool) → AreNumbers words (n ∷ m ∷ [])
    → (jobs : List ℕ) × (machines : List ℕ) × (words ≡ jobs ∷ machines ∷ []) × (sizes_with jobs machines again ≡ Some (record { jobs = n; machines = m; recirculates = again }))
with_again [] n m again h = absurd h
with_again (a ∷ []) n m again h = absurd h.1
with_again (a ∷ b ∷ []) n m again h = (a, b, refl, rw (number_again a n h.0, number_again b m h.1.0) refl)
with_again (a ∷ b ∷ c ∷ words) n m again h = absurd h.1.1

sizes_are : (words : List (List ℕ)) (s : Sizes) → sizes_of words ≡ Some s → (s.recirculates ≡ false) × AreNumbers words (s.jobs ∷ s.machines ∷ [])
sizes_are [] s h = absurd cc
sizes_are (word ∷ []) s h = absurd cc
sizes_are (a ∷ b ∷ []) s h = let is = with_is a b false s h in (is.1, is.0)
sizes_are (a ∷ b ∷ c ∷ words) s h = absurd cc

pub size_line_is : (line : NumberedLine) (s : Sizes) → sizes_of (words_of line.bytes) ≡ Some s → (s.recirculates ≡ false) × IsSizeLine line s.jobs s.machines
size_line_is line s h = sizes_are (words_of line.bytes) s h

numbers_again : (line : NumberedLine) (n m : ℕ) → IsSizeLine line n m → sizes_of (words_of line.bytes) ≡ Some (record { jobs = n; machines = m; recirculates = false })
numbers_again line n m h = let found = with_again (words_of line.bytes) n m false h in rw found.2 found.3

pub size_line_again : (line : NumberedLine) (s : Sizes) → (s.recirculates ≡ false) × IsSizeLine line s.jobs s.machines → sizes_of (words_of line.bytes) ≡ Some s
size_line_again line s (plain, h) =
    numbers_again line s.jobs s.machines h ∙ ap (λ (again : Bool). Some (record { jobs = s.jobs; machines = s.machines; recirculates = again })) (sym plain)

pub no_size_line_is : (line : NumberedLine) → sizes_of (words_of line.bytes) ≡ None → (n m : ℕ) → IsSizeLine line n m → ⊥
no_size_line_is line h n m size = none-some _ (sym h ∙ numbers_again line n m size)

pub no_size_line_again : (line : NumberedLine) → ((n m : ℕ) → IsSizeLine line n m → ⊥) → sizes_of (words_of line.bytes) ≡ None
no_size_line_again line h = none_of (sizes_of (words_of line.bytes)) (λ s e. h s.jobs s.machines (size_line_is line s e).1)

-- the same behind a description, where the word for recirculation may follow

worded_are : (words : List (List ℕ)) (s : Sizes) → worded_sizes_of words ≡ Some s → IsSized words s.jobs s.machines s.recirculates
worded_are [] s h = absurd cc
worded_are (word ∷ []) s h = absurd cc
worded_are (a ∷ b ∷ []) s h = let is = with_is a b false s h in rw is.1 is.0
worded_are (a ∷ b ∷ word ∷ []) s h = cases_bool (bytes_eq word (codes "recrc")) _
    (λ e.
    let made : sizes_with a b true ≡ Some s = rw e at h in
    let is = with_is a b true s made in
    let same : word ≡ codes "recrc" = (bytes_eq-Decides word (codes "recrc")).0 e in
    rw is.1 (a ∷ b ∷ [], ap (λ (w : List ℕ). a ∷ b ∷ w ∷ []) same, is.0))
    (λ e. let none : None ≡ Some s = rw e at h in absurd (cc))
worded_are (a ∷ b ∷ word ∷ other ∷ words) s h = absurd cc

worded_again : (words : List (List ℕ)) (n m : ℕ) (again : Bool) → IsSized words n m again → worded_sizes_of words ≡ Some (record { jobs = n; machines = m; recirculates = again })
worded_again words n m false h = let found = with_again words n m false h in rw found.2 found.3
worded_again words n m true (numbers, whole, h) =
    let found = with_again numbers n m true h in
    rw (whole, found.2, (bytes_eq-Decides (codes "recrc") (codes "recrc")).1 refl) found.3

pub worded_line_is : (line : NumberedLine) (s : Sizes) → worded_sizes_of (words_of line.bytes) ≡ Some s → IsSizeLineOf line s
worded_line_is line s h = worded_are (words_of line.bytes) s h

pub worded_line_again : (line : NumberedLine) (s : Sizes) → IsSizeLineOf line s → worded_sizes_of (words_of line.bytes) ≡ Some s
worded_line_again line s h = worded_again (words_of line.bytes) s.jobs s.machines s.recirculates h

pub no_worded_line_is : (line : NumberedLine) → worded_sizes_of (words_of line.bytes) ≡ None → (s : Sizes) → IsSizeLineOf line s → ⊥
no_worded_line_is line h s size = none-some s (sym h ∙ worded_line_again line s size)

pub no_worded_line_again : (line : NumberedLine) → ((s : Sizes) → IsSizeLineOf line s → ⊥) → worded_sizes_of (words_of line.bytes) ≡ None
no_worded_line_again line h = none_of (worded_sizes_of (words_of line.bytes)) (λ s e. h s (worded_line_is line s e))

word_no_number : (words : List (List ℕ)) (name : List ℕ) (n m : ℕ) → words ≡ codes "instance" ∷ name ∷ [] → AreNumbers words (n ∷ m ∷ []) → ⊥
word_no_number words name n m e h =
    let first : AreNumbers (codes "instance" ∷ name ∷ []) (n ∷ m ∷ []) = rw e at h in
    let no : false ≡ true = first.0.digits in
    absurd (cc)

-- a size line is no instance line
pub size_is_other : (line : NumberedLine) (n m : ℕ) → IsSizeLine line n m → IsOtherLine line
size_is_other line n m h name title = word_no_number (words_of line.bytes) name n m title h

-- ---- odd and even numbers of words

pub odd_two : (n : ℕ) → is_odd (suc (suc n)) ≡ is_odd n
odd_two n = ap (λ (r : ℕ). r == 1) (let e : suc (suc n) % 2 ≡ n % 2 = omega arith in e)

twice_even : (n k : ℕ) → n ≡ 2 * k → is_odd n ≡ false
twice_even n k e = cases_bool (is_odd n) _ (λ h. let one : n % 2 ≡ 1 = eqb-true (n % 2) 1 h in absurd (omega arith)) (λ h. h)

numbers_length : (words : List (List ℕ)) (numbers : List ℕ) → AreNumbers words numbers → length words ≡ length numbers
numbers_length [] [] h = refl
numbers_length [] (n ∷ numbers) h = absurd h
numbers_length (word ∷ words) [] h = absurd h
numbers_length (word ∷ words) (n ∷ numbers) h = ap (λ (k : ℕ). suc k) (numbers_length words numbers h.1)

route_length : (route : List Step) → length (numbers_of route) ≡ 2 * length route
route_length [] = refl
route_length (step ∷ route) = let rest = route_length route in omega arith

job_line_even : (words : List (List ℕ)) (route : List Step) → AreNumbers words (numbers_of route) → is_odd (length words) ≡ false
job_line_even words route h = twice_even (length words) (length route) (numbers_length words (numbers_of route) h ∙ route_length route)

-- ---- job lines

number_or_ok : (o : Option ℕ) (line word n : ℕ) → number_or o line word ≡ Ok n → o ≡ Some n
number_or_ok None line word n h = absurd cc
number_or_ok (Some m) line word n h = ap (λ (k : ℕ). Some k) (ok_is m n h)

number_or_err : (o : Option ℕ) (line word : ℕ) (fault : OrFault) → number_or o line word ≡ Err fault → (o ≡ None) × (fault ≡ BadNumber line word)
number_or_err None line word fault h = (refl, sym (err_is {A = ℕ} (BadNumber line word) fault h))
number_or_err (Some m) line word fault h = absurd cc

step_is : (line before : ℕ) (machine nominal : List ℕ) (step : Step) → step_at line before machine nominal ≡ Ok step → IsNumber machine step.machine × IsNumber nominal step.nominal
unfolding step_at
step_is line before machine nominal step h =
    let a = bind_ok (number_or (number_of machine) line (before + 1)) (λ m. number_or (number_of nominal) line (before + 2) >>= λ t. Ok (record { machine = m; nominal = t })) step h in
    let b = bind_ok (number_or (number_of nominal) line (before + 2)) (λ t. Ok (record { machine = a.0; nominal = t })) step a.2 in
    let e : record { machine = a.0; nominal = b.0 } ≡ step = ok_is (record { machine = a.0; nominal = b.0 }) step b.2 in
    subst (λ (s : Step). IsNumber machine s.machine × IsNumber nominal s.nominal) e
    (number_is machine a.0 (number_or_ok (number_of machine) line (before + 1) a.0 a.1), number_is nominal b.0 (number_or_ok (number_of nominal) line (before + 2) b.0 b.1))

step_again : (line before : ℕ) (machine nominal : List ℕ) (step : Step) → IsNumber machine step.machine → IsNumber nominal step.nominal → step_at line before machine nominal ≡ Ok step
unfolding step_at
step_again line before machine nominal step m t = rw (number_again machine step.machine m, number_again nominal step.nominal t) refl

steps_are : (line before : ℕ) (words : List (List ℕ)) (route : List Step) → steps_at line before words ≡ Ok route → AreNumbers words (numbers_of route)
unfolding steps_at
steps_are line before [] route h = subst (λ (r : List Step). AreNumbers [] (numbers_of r)) (ok_is [] route h) tt
steps_are line before (word ∷ []) route h = absurd cc
steps_are line before (machine ∷ nominal ∷ words) route h =
    let a = bind_ok (step_at line before machine nominal) (λ step. steps_at line (before + 2) words >>= λ steps. Ok (step ∷ steps)) route h in
    let b = bind_ok (steps_at line (before + 2) words) (λ steps. Ok (a.0 ∷ steps)) route a.2 in
    let s = step_is line before machine nominal a.0 a.1 in
    subst (λ (r : List Step). AreNumbers (machine ∷ nominal ∷ words) (numbers_of r)) (ok_is (a.0 ∷ b.0) route b.2) (s.0, (s.1, steps_are line (before + 2) words b.0 b.1))

steps_again : (line before : ℕ) (words : List (List ℕ)) (route : List Step) → AreNumbers words (numbers_of route) → steps_at line before words ≡ Ok route
unfolding steps_at
steps_again line before [] [] h = refl
steps_again line before [] (step ∷ route) h = absurd h
steps_again line before (word ∷ []) [] h = absurd h
steps_again line before (word ∷ []) (step ∷ route) h = absurd h.1
steps_again line before (machine ∷ nominal ∷ words) [] h = absurd h
steps_again line before (machine ∷ nominal ∷ words) (step ∷ route) h =
    rw (step_again line before machine nominal step h.0 h.1.0, steps_again line (before + 2) words route h.1.1) refl

choose_ok : {A : Type 0} (b : Bool) (fault : OrFault) (r : Result A OrFault) (x : A) → cond b (Err fault) r ≡ Ok x → r ≡ Ok x
choose_ok true fault r x h = absurd cc
choose_ok false fault r x h = h

pub route_is : (line : NumberedLine) (route : List Step) → route_at line ≡ Ok route → IsJobLine line route
unfolding route_at
route_is line route h = steps_are line.number 0 (words_of line.bytes) route (choose_ok (is_odd (length (words_of line.bytes))) (OddWords line.number) (steps_at line.number 0 (words_of line.bytes)) route h)

pub route_again : (line : NumberedLine) (route : List Step) → IsJobLine line route → route_at line ≡ Ok route
unfolding route_at
route_again line route h = rw (job_line_even (words_of line.bytes) route h) (steps_again line.number 0 (words_of line.bytes) route h)

pub route_even : (line : NumberedLine) → is_odd (length (words_of line.bytes)) ≡ false → steps_at line.number 0 (words_of line.bytes) ≡ route_at line
unfolding route_at
route_even line even = rw even refl

-- where steps were read, they are the line's route
pub route_read : {X : Type 0} (view : X → List Step) (read : Result X OrFault) (line : NumberedLine) → is_err read ≡ false
    → Gives view read (steps_at line.number 0 (words_of line.bytes)) → Gives view read (route_at line)
route_read view (Ok x) line no_err h = route_again line (view x) (steps_are line.number 0 (words_of line.bytes) (view x) h)
route_read view (Err fault) line no_err h = absurd cc

-- ---- faults of a job line

-- steps could be read up to a word that isn't a number
record StepsFault (line before : ℕ) (words : List (List ℕ)) (fault : OrFault) : Type 0 where
  place : ℕ
  first : IsFirstNonNumber words place
  is : fault ≡ BadNumber line (before + place)

steps_fault : (line before : ℕ) (words : List (List ℕ)) (fault : OrFault) → is_odd (length words) ≡ false → steps_at line before words ≡ Err fault → StepsFault line before words fault
unfolding steps_at step_at
steps_fault line before [] fault even h = absurd cc
steps_fault line before (word ∷ []) fault even h = absurd cc
steps_fault line before (machine ∷ nominal ∷ words) fault even h =
    bind_err (step_at line before machine nominal) (λ step. steps_at line (before + 2) words >>= λ steps. Ok (step ∷ steps)) fault h
    (λ e. bind_err (number_or (number_of machine) line (before + 1)) (λ m. number_or (number_of nominal) line (before + 2) >>= λ t. Ok (record { machine = m; nominal = t })) fault e
    (λ e1.
    let p = number_or_err (number_of machine) line (before + 1) fault e1 in
    record { place = 1; first = record { before = []; word = machine; after = nominal ∷ words; numbers = []; whole = refl; are_numbers = tt; no_number = λ n. number_not machine n p.0; here = refl }; is = p.1 })
    (λ m e1 e2. bind_err (number_or (number_of nominal) line (before + 2)) (λ t. Ok (record { machine = m; nominal = t })) fault e2
    (λ e3.
    let p = number_or_err (number_of nominal) line (before + 2) fault e3 in
    record {
      place = 2;
      first = record {
        before = machine ∷ [];
        word = nominal;
        after = words;
        numbers = m ∷ [];
        whole = refl;
        are_numbers = (number_is machine m (number_or_ok (number_of machine) line (before + 1) m e1), tt);
        no_number = λ n. number_not nominal n p.0;
        here = refl;
      };
      is = p.1;
    })
    (λ t e3 e4. absurd cc)))
    (λ step e e2. bind_err (steps_at line (before + 2) words) (λ steps. Ok (step ∷ steps)) fault e2
    (λ e3.
    let s = step_is line before machine nominal step e in
    let rest = steps_fault line (before + 2) words fault (sym (odd_two (length words)) ∙ even) e3 in
    record {
      place = rest.place + 2;
      first = record {
        before = machine ∷ nominal ∷ rest.first.before;
        word = rest.first.word;
        after = rest.first.after;
        numbers = step.machine ∷ step.nominal ∷ rest.first.numbers;
        whole = ap (λ (all : List (List ℕ)). machine ∷ nominal ∷ all) rest.first.whole;
        are_numbers = (s.0, (s.1, rest.first.are_numbers));
        no_number = rest.first.no_number;
        here = let at = rest.first.here in omega arith;
      };
      is = rest.is ∙ ap (λ (k : ℕ). BadNumber line k) (omega arith);
    })
    (λ steps e3 e4. absurd cc))

steps_fault_again : (line before : ℕ) (front : List (List ℕ)) (word : List ℕ) (after : List (List ℕ)) (numbers : List ℕ)
    → is_odd (length (front ++ (word ∷ after))) ≡ false → AreNumbers front numbers → ((n : ℕ) → IsNumber word n → ⊥)
    → steps_at line before (front ++ (word ∷ after)) ≡ Err (BadNumber line (before + (length front + 1)))
unfolding steps_at step_at
steps_fault_again line before [] word [] numbers even are wrong = absurd cc
steps_fault_again line before [] word (other ∷ after) numbers even are wrong = rw (number_none word wrong) refl
steps_fault_again line before (machine ∷ []) word after [] even are wrong = absurd are
steps_fault_again line before (machine ∷ []) word after (n ∷ numbers) even are wrong = rw (number_again machine n are.0, number_none word wrong) refl
steps_fault_again line before (machine ∷ nominal ∷ front) word after [] even are wrong = absurd are
steps_fault_again line before (machine ∷ nominal ∷ front) word after (n ∷ []) even are wrong = absurd are.1
steps_fault_again line before (machine ∷ nominal ∷ front) word after (n ∷ k ∷ numbers) even are wrong =
    rw (
      number_again machine n are.0,
      number_again nominal k are.1.0,
      steps_fault_again line (before + 2) front word after numbers (sym (odd_two (length (front ++ (word ∷ after)))) ∙ even) are.1.1 wrong,
    )
    (ap (λ (place : ℕ). failed (BadNumber line place)) (omega arith))

pub line_fault : (line : NumberedLine) (fault : OrFault) → route_at line ≡ Err fault → IsOddLine line fault ⊎ IsWordLine line fault
unfolding route_at
line_fault line fault h = cases_bool (is_odd (length (words_of line.bytes))) _
    (λ odd. inl (record { odd = odd; is = let e : failed {A = List Step} (OddWords line.number) ≡ failed fault = rw odd at h in sym (err_is {A = List Step} (OddWords line.number) fault e) }))
    (λ even.
    let e : steps_at line.number 0 (words_of line.bytes) ≡ Err fault = rw even at h in
    let s = steps_fault line.number 0 (words_of line.bytes) fault even e in
    inr (record { place = s.place; even = even; first = s.first; is = s.is ∙ ap (λ (k : ℕ). BadNumber line.number k) (omega arith) }))

pub line_fault_again : (line : NumberedLine) (fault : OrFault) → IsOddLine line fault ⊎ IsWordLine line fault → route_at line ≡ Err fault
unfolding route_at
line_fault_again line fault (inl h) = rw h.odd (ap (λ (f : OrFault). failed f) (sym h.is))
line_fault_again line fault (inr h) =
    let f = h.first in
    let even : is_odd (length (f.before ++ (f.word ∷ f.after))) ≡ false = ap (λ (words : List (List ℕ)). is_odd (length words)) (sym f.whole) ∙ h.even in
    let steps = steps_fault_again line.number 0 f.before f.word f.after f.numbers even f.are_numbers f.no_number in
    let place : 0 + (length f.before + 1) ≡ h.place = let at = f.here in omega arith in
    rw h.even (ap (λ (words : List (List ℕ)). steps_at line.number 0 words) f.whole ∙ steps ∙ ap (λ (k : ℕ). failed (BadNumber line.number k)) place ∙ ap (λ (d : OrFault). failed d) (sym h.is))
