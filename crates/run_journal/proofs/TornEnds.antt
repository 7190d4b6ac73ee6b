-- What is left of a line that wasn't whole on the disk.
use Rattle.std.proofs.lemmas.Bool.{and_parts, cases_Bool, ne_eqb, lt-ltb, or_left, or_right, eqb-true, eqb-false}
use Rattle.std.proofs.Common.{◌≡◌, ◌≢◌, ℕ, zero, suc, ◌+◌, ◌-◌, ◌^◌, ◌<◌, ◌≤◌, nat_lt, ◌==◌, ◌&&◌, ◌||◌, if◌then◌else◌, Bool, true, false, List, [], ◌∷◌, ◌++◌, length, take, drop, get_or, codes, decimal, inl, inr, refl, sym, ap, ◌∙◌, subst, arith, append_assoc, append-nil, length-append, take-append-drop, Option, None, Some}
use Rattle.std.proofs.lemmas.{Fmt.{decimal_nonempty, length-decimal-le}, List.{take-append-le, take_more}}
use Rattle.std.specs.List.{list_all}
use Rattle.shop_base.specs.declared.{move_order.Spot.{Spot, TheVariants.{Out, At}}, report.Report.Report}
use Rattle.shop_base.specs.declared.report.Report.TheVariants.{Arrive, Finish, Clean}
use Rattle.text_lines.{specs.Numbers.is_digit, proofs.WrittenNumbers.decimal_digits}
use Rattle.cell_tables.specs.declared.entry.Entry.{Entry, TheVariants.{Report as ReportEntry, Order as OrderEntry}}
use Rattle.cell_tables.specs.{declared.standing.Standing.Standing, Standings.is_overdue}
use Rattle.cell_tables.specs.declared.standing.Standing.TheVariants.{Clean as CleanMachine, Awaited, Outside, Worked, Done, Gone, Cleaned}
use Rattle.event_lines.specs.declared.{run_digits.RunDigits.RunDigits, details.Overdue.Overdue}
use Rattle.event_lines.specs.Words.{Word, Number, JobStep, short, moment, written, words_before, line_of, Text}
use Rattle.event_lines.specs.{EventLines.{spot_word, logged_words, order_words, entry_words}, AnswerLines.late_words}
use Rattle.event_lines.specs.{StandingLines.late_overdue_words, RunDigits.{AreDigits, is_small_hex, plan_words}}
use Rattle.event_lines.proofs.WrittenWords.{before-append}
use Rattle.run_journal.specs.{declared.torn_end.TheConstants.MOMENT_DIGITS, LogFiles.zeros}
use Rattle.run_journal.specs.TornEnds.{begins_late, begins_late_step, begins_plan, without_zeros, begins_line, is_torn, most_digits, stands_for, goes_on, IsNarrow, AreNarrow, begins_report, begins_order, UnwrittenLinesAreTorn}
use Rattle.run_journal.proofs.Starts.{any-kept}

-- ---- the first bytes of bytes

no_zeros : (n : ℕ) → without_zeros (zeros n) ≡ []
no_zeros zero = refl
no_zeros (suc n) = rw (no_zeros n) refl

unzeroed : (bytes : List ℕ) (n : ℕ) → (rest : List ℕ) × (without_zeros (bytes ++ zeros n) ++ rest ≡ bytes)
unzeroed [] n = ([], rw (no_zeros n) refl)
unzeroed (byte ∷ bytes) n =
    let inner = unzeroed bytes n in
    elim (cases_Bool (byte == 0 && length (without_zeros (bytes ++ zeros n)) == 0)) [
      | inl none ↦ (byte ∷ bytes, rw none refl)
      | inr some ↦ (inner.0, rw some (ap (λ l. byte ∷ l) inner.1))
    ]

some_kept : (x : ℕ) (l : List ℕ) → (length l == 0) ≡ false → (if x == 0 && length l == 0 then [] else x ∷ l) ≡ x ∷ l
some_kept x l some = elim (cases_Bool (x == 0)) [
  | inl is ↦ rw is (rw some refl)
  | inr not ↦ rw not refl
]

one_zero : (xs : List ℕ) → without_zeros (xs ++ 0 ∷ []) ≡ without_zeros xs
one_zero [] = refl
one_zero (x ∷ xs) = ap (λ (l : List ℕ). if x == 0 && length l == 0 then [] else x ∷ l) (one_zero xs)

no_zero : (xs : List ℕ) (b : ℕ) → (b == 0) ≡ false → without_zeros (xs ++ b ∷ []) ≡ xs ++ b ∷ []
no_zero [] b other = rw other refl
no_zero (x ∷ xs) b other = ap (λ (l : List ℕ). if x == 0 && length l == 0 then [] else x ∷ l) (no_zero xs b other) ∙ some_kept x (xs ++ b ∷ []) (ne_eqb (length (xs ++ b ∷ [])) 0 (λ is. omega (arith, is, length-append xs (b ∷ []))))

pub unzeroed-take_zero : (xs : List ℕ) (n : ℕ) → n < length xs → get_or xs n 0 ≡ 0 → without_zeros (take n xs) ≡ without_zeros (take (n + 1) xs)
unzeroed-take_zero xs n within is = sym (ap without_zeros (take_more xs n 0 within ∙ ap (λ (b : ℕ). take n xs ++ b ∷ []) is) ∙ one_zero (take n xs))

pub unzeroed-take_other : (xs : List ℕ) (n : ℕ) → n < length xs → get_or xs n 0 ≢ 0 → take (n + 1) xs ≡ without_zeros (take (n + 1) xs)
unzeroed-take_other xs n within other =
    let is = take_more xs n 0 within in
    is ∙ sym (no_zero (take n xs) (get_or xs n 0) (ne_eqb (get_or xs n 0) 0 other)) ∙ sym (ap without_zeros is)

-- what begins a line is begun by its own beginning
shorter : (more : ℕ) (form front rest : List ℕ) → goes_on more form (front ++ rest) ≡ true → goes_on more form front ≡ true
shorter more form [] rest is = refl
shorter more [] (byte ∷ front) rest is = elim (cases_Bool (nat_lt 0 more && is_digit byte)) [
  | inl digit ↦ rw digit (shorter (more - 1) [] front rest (subst (λ (t : Bool). (if t then goes_on (more - 1) [] (front ++ rest) else false) ≡ true) digit is))
  | inr other ↦ absurd (cc (subst (λ (t : Bool). (if t then goes_on (more - 1) [] (front ++ rest) else false) ≡ true) other is))
]
shorter more (c ∷ form) (byte ∷ front) rest is = elim (cases_Bool (nat_lt 0 more && is_digit byte)) [
  | inl digit ↦ rw digit (shorter (more - 1) (c ∷ form) front rest
      (subst (λ (t : Bool). (if t then goes_on (more - 1) (c ∷ form) (front ++ rest) else (if stands_for c byte then goes_on (most_digits c - 1) form (front ++ rest) else false)) ≡ true) digit is))
  | inr other ↦
      let wanted : (if stands_for c byte then goes_on (most_digits c - 1) form (front ++ rest) else false) ≡ true =
      subst (λ (t : Bool). (if t then goes_on (more - 1) (c ∷ form) (front ++ rest) else (if stands_for c byte then goes_on (most_digits c - 1) form (front ++ rest) else false)) ≡ true) other is in
      rw other (elim (cases_Bool (stands_for c byte)) [
        | inl stands ↦ rw stands (shorter (most_digits c - 1) form front rest (subst (λ (t : Bool). (if t then goes_on (most_digits c - 1) form (front ++ rest) else false) ≡ true) stands wanted))
        | inr not ↦ absurd (cc (subst (λ (t : Bool). (if t then goes_on (most_digits c - 1) form (front ++ rest) else false) ≡ true) not wanted))
      ])
]

-- ---- the form of a line

-- what stands for a word in a form
abbrev mark : Word → List ℕ
mark (Text text) = text
mark (Number most n) = (if most == MOMENT_DIGITS then 35 else 37) ∷ []
mark (JobStep job step) = codes "%.%"

-- the form of words, before a form
abbrev form_of : List Word → List ℕ → List ℕ
form_of [] form = form
form_of (word ∷ []) form = mark word ++ form
form_of (word ∷ next ∷ words) form = mark word ++ 32 ∷ form_of (next ∷ words) form

-- in a form it stands for itself
abbrev is_literal : ℕ → Bool
is_literal c = stands_for c c && most_digits c == 0

abbrev is_literal_word : Word → Bool
is_literal_word (Text text) = list_all is_literal text
is_literal_word (Number most n) = true
is_literal_word (JobStep job step) = true

literal_on : (text form rest : List ℕ) → list_all is_literal text ≡ true → goes_on 0 form rest ≡ true → goes_on 0 (text ++ form) (text ++ rest) ≡ true
literal_on [] form rest all is = is
literal_on (c ∷ text) form rest all is =
    let (first, others) = and_parts (is_literal c) (list_all is_literal text) all in
    let (stands, none) = and_parts (stands_for c c) (most_digits c == 0) first in
    rw stands (subst (λ (n : ℕ). goes_on (n - 1) (text ++ form) (text ++ rest) ≡ true) (sym (eqb-true (most_digits c) 0 none)) (literal_on text form rest others is))

some_more : (more : ℕ) → nat_lt 0 (suc more) ≡ true
some_more more = lt-ltb 0 (suc more) (omega arith)

one_less : (more : ℕ) → more ≡ suc more - 1
one_less more = omega arith

digits_on : (digits : List ℕ) (more : ℕ) (form rest : List ℕ) → list_all is_digit digits ≡ true → length digits ≤ more → ((k : ℕ) → goes_on k form rest ≡ true) → goes_on more form (digits ++ rest) ≡ true
digits_on [] more form rest all few is = is more
digits_on (d ∷ digits) zero form rest all few is = absurd (omega (arith, few))
digits_on (d ∷ digits) (suc more) [] rest all few is =
    let (first, others) = and_parts (is_digit d) (list_all is_digit digits) all in
    rw (some_more more) (rw first (subst (λ (k : ℕ). goes_on k [] (digits ++ rest) ≡ true) (one_less more) (digits_on digits more [] rest others (omega (arith, few)) is)))
digits_on (d ∷ digits) (suc more) (c ∷ form) rest all few is =
    let (first, others) = and_parts (is_digit d) (list_all is_digit digits) all in
    rw (some_more more) (rw first (subst (λ (k : ℕ). goes_on k (c ∷ form) (digits ++ rest) ≡ true) (one_less more) (digits_on digits more (c ∷ form) rest others (omega (arith, few)) is)))

-- the digits of a moment, and of another number
moment_digits : (digits form rest : List ℕ) → list_all is_digit digits ≡ true → 0 < length digits → length digits ≤ 13 → ((k : ℕ) → goes_on k form rest ≡ true) → goes_on 0 (35 ∷ form) (digits ++ rest) ≡ true
moment_digits [] form rest all some few is = absurd (omega (arith, some))
moment_digits (d ∷ digits) form rest all some few is = let (first, others) = and_parts (is_digit d) (list_all is_digit digits) all in rw first (digits_on digits 12 form rest others (omega (arith, few)) is)

other_digits : (digits form rest : List ℕ) → list_all is_digit digits ≡ true → 0 < length digits → length digits ≤ 3 → ((k : ℕ) → goes_on k form rest ≡ true) → goes_on 0 (37 ∷ form) (digits ++ rest) ≡ true
other_digits [] form rest all some few is = absurd (omega (arith, some))
other_digits (d ∷ digits) form rest all some few is = let (first, others) = and_parts (is_digit d) (list_all is_digit digits) all in rw first (digits_on digits 2 form rest others (omega (arith, few)) is)

-- a dot ends it
dotted : (form rest : List ℕ) → goes_on 0 form rest ≡ true → (k : ℕ) → goes_on k (46 ∷ form) (46 ∷ rest) ≡ true
dotted form rest is zero = is
dotted form rest is (suc k) = rw (some_more k) is

-- a number that isn't a moment
number_on : (n : ℕ) (form rest : List ℕ) → n < 10 ^ 3 → ((k : ℕ) → goes_on k form rest ≡ true) → goes_on 0 (37 ∷ form) (decimal n ++ rest) ≡ true
number_on n form rest few is =
    let small : n < 2 ^ 64 = omega (arith, few) in
    other_digits (decimal n) form rest (decimal_digits n) (decimal_nonempty n small) (length-decimal-le 3 n (omega arith) few small) is

word_on : (word : Word) (form rest : List ℕ) → IsNarrow word → is_literal_word word ≡ true → ((k : ℕ) → goes_on k form rest ≡ true) → goes_on 0 (mark word ++ form) (written word ++ rest) ≡ true
word_on (Text text) form rest fits literal is = literal_on text form rest literal (is 0)
word_on (Number most n) form rest fits literal is = elim (cases_Bool (most == MOMENT_DIGITS)) [
  | inl moment ↦
      let below : n < 10 ^ 13 = subst (λ (k : ℕ). n < 10 ^ k) (eqb-true most 13 moment) fits.0.1 in
      rw moment (moment_digits (decimal n) form rest (decimal_digits n) (decimal_nonempty n fits.0.2) (length-decimal-le 13 n (omega arith) below fits.0.2) is)
  | inr other ↦
      let below : n < 10 ^ 3 = elim fits.1 [ inl same ↦ absurd (eqb-false most 13 other same) | inr few ↦ few ] in
      rw other (number_on n form rest below is)
]
word_on (JobStep job step) form rest fits literal is =
    let behind = dotted (37 ∷ form) (decimal step ++ rest) (number_on step form rest fits.2 is) in
    subst (λ (l : List ℕ). goes_on 0 (37 ∷ 46 ∷ 37 ∷ form) l ≡ true) (sym (append_assoc (decimal job) (46 ∷ decimal step) rest)) (number_on job (46 ∷ 37 ∷ form) (46 ∷ (decimal step ++ rest)) fits.1 behind)

-- a space ends it
spaced : (form rest : List ℕ) → goes_on 0 form rest ≡ true → (k : ℕ) → goes_on k (32 ∷ form) (32 ∷ rest) ≡ true
spaced form rest is zero = is
spaced form rest is (suc k) = rw (some_more k) is

-- words begin a line of their form, whatever more the form has
words_on : (words : List Word) (form : List ℕ) → AreNarrow words → list_all is_literal_word words ≡ true → goes_on 0 (form_of words form) (words_before words []) ≡ true
words_on [] form fits literal = refl
words_on (word ∷ []) form fits literal = word_on word form [] fits.0 (and_parts (is_literal_word word) true literal).0 (λ k. refl)
words_on (word ∷ next ∷ words) form fits literal =
    let (first, others) = and_parts (is_literal_word word) (list_all is_literal_word (next ∷ words)) literal in
    word_on word (32 ∷ form_of (next ∷ words) form) (32 ∷ words_before (next ∷ words) []) fits.0 first (spaced (form_of (next ∷ words) form) (words_before (next ∷ words) []) (words_on (next ∷ words) form fits.1 others))

-- ---- the lines that a log gets

begun_report : (report : Report) → AreNarrow (logged_words report) → begins_report (words_before (logged_words report) []) ≡ true
begun_report (Arrive job at) fits = or_left _ _ (or_left _ _ (words_on (logged_words (Arrive job at)) [] fits refl))
begun_report (Finish job machine at) fits = or_left _ _ (or_right _ _ (words_on (logged_words (Finish job machine at)) [] fits refl))
begun_report (Clean machine at) fits = or_right _ _ (words_on (logged_words (Clean machine at)) [] fits refl)

abbrev ordered : ℕ → ℕ → Spot → Spot → List Word
ordered at job source target = Text (codes "order") ∷ moment at ∷ short job ∷ spot_word source ∷ spot_word target ∷ []

begun_order : (at job : ℕ) (source target : Spot) → AreNarrow (ordered at job source target) → begins_order (words_before (ordered at job source target) []) ≡ true
begun_order at job (At m) (At n) fits = or_left _ _ (or_left _ _ (or_left _ _ (words_on (ordered at job (At m) (At n)) [] fits refl)))
begun_order at job (At m) Out fits = or_left _ _ (or_left _ _ (or_right _ _ (words_on (ordered at job (At m) Out) [] fits refl)))
begun_order at job Out (At n) fits = or_left _ _ (or_right _ _ (words_on (ordered at job Out (At n)) [] fits refl))
begun_order at job Out Out fits = or_right _ _ (words_on (ordered at job Out Out) [] fits refl)

abbrev overdue_then : ℕ → Standing → ℕ → List Word
overdue_then at first others = late_overdue_words at (record { first = first; others = others })

begun_awaited : (at job due others : ℕ) → AreNarrow (overdue_then at (Awaited job due) others) → begins_late (words_before (overdue_then at (Awaited job due) others) []) ≡ true
begun_awaited at job due zero fits = or_left _ _ (or_left _ _ (or_left _ _ (words_on (overdue_then at (Awaited job due) 0) (codes " and % more") fits refl)))
begun_awaited at job due (suc k) fits = or_left _ _ (or_left _ _ (or_left _ _ (words_on (overdue_then at (Awaited job due) (suc k)) [] fits refl)))

-- a visit that is told by its step or not
abbrev worked_then : ℕ → ℕ → Option ℕ → ℕ → ℕ → ℕ → ℕ → List Word
worked_then at job step machine since due others = overdue_then at (Worked (record { job = job; step = step }) machine since due) others

begun_worked : (at job : ℕ) (step : Option ℕ) (machine since due others : ℕ) → AreNarrow (worked_then at job step machine since due others)
    → begins_late (words_before (worked_then at job step machine since due others) []) ≡ true
begun_worked at job None machine since due zero fits = or_left _ _ (or_left _ _ (or_right _ _ (words_on (worked_then at job None machine since due 0) (codes " and % more") fits refl)))
begun_worked at job None machine since due (suc k) fits = or_left _ _ (or_left _ _ (or_right _ _ (words_on (worked_then at job None machine since due (suc k)) [] fits refl)))
begun_worked at job (Some step) machine since due zero fits = or_right _ _ (or_left _ _ (words_on (worked_then at job (Some step) machine since due 0) (codes " and % more") fits refl))
begun_worked at job (Some step) machine since due (suc k) fits = or_right _ _ (or_left _ _ (words_on (worked_then at job (Some step) machine since due (suc k)) [] fits refl))

abbrev cleaned_then : ℕ → ℕ → ℕ → Option ℕ → ℕ → ℕ → ℕ → List Word
cleaned_then at machine job step since due others = overdue_then at (Cleaned machine (record { job = job; step = step }) since due) others

begun_cleaned : (at machine job : ℕ) (step : Option ℕ) (since due others : ℕ) → AreNarrow (cleaned_then at machine job step since due others)
    → begins_late (words_before (cleaned_then at machine job step since due others) []) ≡ true
begun_cleaned at machine job None since due zero fits = or_left _ _ (or_right _ _ (words_on (cleaned_then at machine job None since due 0) (codes " and % more") fits refl))
begun_cleaned at machine job None since due (suc k) fits = or_left _ _ (or_right _ _ (words_on (cleaned_then at machine job None since due (suc k)) [] fits refl))
begun_cleaned at machine job (Some step) since due zero fits = or_right _ _ (or_right _ _ (words_on (cleaned_then at machine job (Some step) since due 0) (codes " and % more") fits refl))
begun_cleaned at machine job (Some step) since due (suc k) fits = or_right _ _ (or_right _ _ (words_on (cleaned_then at machine job (Some step) since due (suc k)) [] fits refl))

begun_overdue : (at : ℕ) (first : Standing) (others : ℕ) → is_overdue first at ≡ true → AreNarrow (overdue_then at first others) → begins_late (words_before (overdue_then at first others) []) ≡ true
begun_overdue at (Awaited job due) others is fits = begun_awaited at job due others fits
begun_overdue at (Worked visit machine from due) others is fits = begun_worked at visit.job visit.step machine from due others fits
begun_overdue at (Cleaned machine visit from due) others is fits = begun_cleaned at machine visit.job visit.step from due others fits
begun_overdue at (Outside job to) others is fits = absurd (cc is)
begun_overdue at (Done visit machine to) others is fits = absurd (cc is)
begun_overdue at (Gone job from) others is fits = absurd (cc is)
begun_overdue at (CleanMachine machine) others is fits = absurd (cc is)

-- ---- their first bytes, and zeros

module _ (front rest : List ℕ) where
  less_report : begins_report (front ++ rest) ≡ true → begins_report front ≡ true
  less_report is = any-kept _ _ _ _ (any-kept _ _ _ _ (shorter 0 (codes "report # arrive %") front rest) (shorter 0 (codes "report # finish % %") front rest)) (shorter 0 (codes "report # clean %") front rest) is

  less_order : begins_order (front ++ rest) ≡ true → begins_order front ≡ true
  less_order is = any-kept _ _ _ _ (any-kept _ _ _ _ (any-kept _ _ _ _ (shorter 0 (codes "order # % % %") front rest) (shorter 0 (codes "order # % % out") front rest)) (shorter 0 (codes "order # % out %") front rest))
      (shorter 0 (codes "order # % out out") front rest) is

  less_late_step : begins_late_step (front ++ rest) ≡ true → begins_late_step front ≡ true
  less_late_step is = any-kept _ _ _ _ (shorter 0 (codes "late # job %.% on machine % since # due # and % more") front rest) (shorter 0 (codes "late # machine % cleaned after job %.% since # due # and % more") front rest) is

  less_late : begins_late (front ++ rest) ≡ true → begins_late front ≡ true
  less_late is = any-kept _ _ _ _ (any-kept _ _ _ _ (any-kept _ _ _ _ (shorter 0 (codes "late # job % arrives # and % more") front rest) (shorter 0 (codes "late # job % on machine % since # due # and % more") front rest))
      (shorter 0 (codes "late # machine % cleaned after job % since # due # and % more") front rest)) less_late_step is

less : (front rest : List ℕ) → begins_line (front ++ rest) ≡ true → begins_line front ≡ true
less front rest is = any-kept _ _ _ _ (any-kept _ _ _ _ (any-kept _ _ _ _ (less_report front rest) (less_order front rest)) (less_late front rest)) (shorter 0 (codes "unfinished plan @@@@@@@@@@@@@@@@ shop @@@@@@@@@@@@@@@@") front rest) is

-- the first bytes of such a line, with zeros behind them
pub torn_of : (body : List ℕ) (count unwritten : ℕ) → begins_line body ≡ true → is_torn (take count body ++ zeros unwritten) ≡ true
torn_of body count unwritten is =
    let inner = unzeroed (take count body) unwritten in
    let front = without_zeros (take count body ++ zeros unwritten) in
    let whole : front ++ (inner.0 ++ drop count body) ≡ body = sym (append_assoc front inner.0 (drop count body)) ∙ ap (λ l. l ++ drop count body) inner.1 ∙ take-append-drop count body in
    less front (inner.0 ++ drop count body) (ap begins_line whole ∙ is)

-- what is left of a line without its line feed
left_line : (body : List ℕ) (count unwritten : ℕ) → begins_line body ≡ true → count < length (body ++ 10 ∷ []) → is_torn (take count (body ++ 10 ∷ []) ++ zeros unwritten) ≡ true
left_line body count unwritten is within =
    ap (λ l. is_torn (l ++ zeros unwritten)) (take-append-le count body (10 ∷ []) (omega (arith, within, length-append body (10 ∷ [])))) ∙ torn_of body count unwritten is

left_of : (words : List Word) (count unwritten : ℕ) → begins_line (words_before words []) ≡ true → count < length (line_of words) → is_torn (take count (line_of words) ++ zeros unwritten) ≡ true
left_of words count unwritten is within =
    let line : line_of words ≡ words_before words [] ++ 10 ∷ [] = before-append words [] (10 ∷ []) in
    ap (λ l. is_torn (take count l ++ zeros unwritten)) line ∙ left_line (words_before words []) count unwritten is (omega (arith, within, ap length line))

any_report : (bytes : List ℕ) → begins_report bytes ≡ true → begins_line bytes ≡ true
any_report bytes is = or_left _ (begins_plan bytes) (or_left (begins_report bytes || begins_order bytes) (begins_late bytes) (or_left (begins_report bytes) (begins_order bytes) is))

any_order : (bytes : List ℕ) → begins_order bytes ≡ true → begins_line bytes ≡ true
any_order bytes is = or_left _ (begins_plan bytes) (or_left (begins_report bytes || begins_order bytes) (begins_late bytes) (or_right (begins_report bytes) (begins_order bytes) is))

any_late : (bytes : List ℕ) → begins_late bytes ≡ true → begins_line bytes ≡ true
any_late bytes is = or_left _ (begins_plan bytes) (or_right (begins_report bytes || begins_order bytes) (begins_late bytes) is)

-- ---- the line of a plan

-- as many hexadecimal digits
abbrev hexes : ℕ → List ℕ
hexes zero = []
hexes (suc n) = 64 ∷ hexes n

hexes_on : (n : ℕ) (form digits rest : List ℕ) → length digits ≡ n → list_all is_small_hex digits ≡ true → goes_on 0 (hexes n ++ form) (digits ++ rest) ≡ goes_on 0 form rest
hexes_on zero form [] rest are all = refl
hexes_on zero form (d ∷ digits) rest are all = absurd (omega (arith, are))
hexes_on (suc n) form [] rest are all = absurd (omega (arith, are))
hexes_on (suc n) form (d ∷ digits) rest are all = let (first, others) = and_parts (is_small_hex d) (list_all is_small_hex digits) all in rw first (hexes_on n form digits rest (omega (arith, are)) others)

pub plan_begins : (digits : RunDigits) → AreDigits digits → begins_line (plan_words digits) ≡ true
plan_begins digits are = or_right (begins_report (plan_words digits) || begins_order (plan_words digits) || begins_late (plan_words digits)) (begins_plan (plan_words digits)) (
    hexes_on 16 (codes " shop @@@@@@@@@@@@@@@@") digits.plan (codes " shop " ++ digits.shop) are.0.0 are.0.1
    ∙ ap (λ l. goes_on 0 (hexes 16) l) (sym (append-nil digits.shop)) ∙ hexes_on 16 [] digits.shop [] are.1.0 are.1.1
    )

pub event_begins : (entry : Entry) → AreNarrow (entry_words entry) → begins_line (words_before (entry_words entry) []) ≡ true
event_begins (ReportEntry report) fits = any_report (words_before (logged_words report) []) (begun_report report fits)
event_begins (OrderEntry o) fits = any_order (words_before (order_words o) []) (begun_order o.at o.job o.source o.target fits)

pub late_begins : (at : ℕ) → AreNarrow (late_words at) → begins_line (words_before (late_words at) []) ≡ true
late_begins at fits = any_late (words_before (late_words at) []) (or_left _ _ (or_left _ _ (or_left _ _ (words_on (late_words at) (codes " job % arrives # and % more") fits refl))))

pub late_overdue_begins : (at : ℕ) (overdue : Overdue) → is_overdue overdue.first at ≡ true → AreNarrow (late_overdue_words at overdue) → begins_line (words_before (late_overdue_words at overdue) []) ≡ true
late_overdue_begins at overdue is fits = any_late (words_before (late_overdue_words at overdue) []) (begun_overdue at overdue.first overdue.others is fits)

pub left_lines : UnwrittenLinesAreTorn
left_lines = record {
  events = λ entry count unwritten fits within. left_of (entry_words entry) count unwritten (event_begins entry fits) within;
  late = λ at count unwritten fits within. left_of (late_words at) count unwritten (late_begins at fits) within;
  late_overdue = λ at count unwritten overdue is fits within. left_of (late_overdue_words at overdue) count unwritten (late_overdue_begins at overdue is fits) within;
  plan = λ digits count unwritten are within. left_line (plan_words digits) count unwritten (plan_begins digits are) within;
}
