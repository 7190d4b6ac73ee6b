-- A chapter as a list of lines, each ended by a line feed.
use Rattle.std.proofs.Common.{◌≡◌, ℕ, ◌+◌, ◌<◌, ◌==◌, nat_lt, Bool, true, false, not, List, [], ◌∷◌, ◌++◌, length, get_or, map, codes, decimal, Option, None, Some, inl, inr, refl, sym, ap, ap₂, ◌∙◌, subst, arith, append_assoc, append-nil}
use Rattle.std.specs.List.{flat_map, onto_first, list_all}
use Rattle.std.proofs.lemmas.Bool.{cases_Bool, cases_lt, and_parts, and_from, and_left, or_from, eqb-true, lt-leb, lt-ltb}
use Rattle.std.proofs.lemmas.List.Concat.{flat_map-append}
use Rattle.shop_base.specs.declared.move_order.Spot.{Spot, TheVariants.{Out, At}}
use Rattle.shop_base.specs.declared.report.Report.{Report, TheVariants.{Arrive, Finish, Clean}}
use Rattle.text_lines.specs.Lines.{is_line_feed, parts_of, without_return}
use Rattle.text_lines.specs.Cuts.{HasNone}
use Rattle.text_lines.proofs.NextLines.{first_line}
use Rattle.cell_tables.specs.declared.entry.Entry.{Entry}
use Rattle.cell_tables.specs.declared.entry.Entry.TheVariants.{Report as ReportEntry, Order as OrderEntry}
use Rattle.event_lines.specs.declared.run_digits.RunDigits.{RunDigits}
use Rattle.event_lines.specs.ReadBack.{IsSpaceless}
use Rattle.event_lines.specs.RunDigits.{is_small_hex, AreDigits, plan_words, plan_line}
use Rattle.event_lines.specs.EventLines.{entry_words, entry_lines, end_words, spot_word}
use Rattle.event_lines.specs.Words.{Word, Text, written, words_before, line_of}
use Rattle.event_lines.proofs.WrittenWords.{AreSpaceless, absent_from_word, absent_from_words, absent_from_both, decimal_spaceless, before-append, line_first}
use Rattle.log_chapters.specs.declared.parts.Origin.{Origin}
use Rattle.log_chapters.specs.declared.parts.Origin.TheVariants.{Was, New, Holds}
use Rattle.log_chapters.specs.Chapters.{no_digits, line_behind, names_lines, origin_text, number_lines, chapter_text}
use Rattle.log_chapters.proofs.Behind.{part_before}

-- the lines as a text
abbrev pub text_of : List (List ℕ) → List ℕ
text_of lines = flat_map (λ line. line ++ 10 ∷ []) lines

-- each of the lines is such
abbrev pub Each : (List ℕ → Type 0) → List (List ℕ) → Type 0
Each P [] = Unit {0}
Each P (line ∷ lines) = P line × Each P lines

pub each-append : (P : List ℕ → Type 0) (xs ys : List (List ℕ)) → Each P xs → Each P ys → Each P (xs ++ ys)
each-append P [] ys one other = other
each-append P (x ∷ xs) ys one other = (one.0, each-append P xs ys one.1 other)

-- lines behind a prefix are such, where that is so of any line
pub each-behind : (P : List ℕ → Type 0) (prefix : List ℕ) (lines : List (List ℕ)) → ((line : List ℕ) → P (prefix ++ line)) → Each P (map (λ line. prefix ++ line) lines)
each-behind P prefix [] all = tt
each-behind P prefix (line ∷ lines) all = (all line, each-behind P prefix lines all)

-- ---- the parts of a text

free_onto : (b : ℕ) (parts : List (List ℕ)) → is_line_feed b ≡ false → Each (HasNone 10) parts → Each (HasNone 10) (onto_first b parts)
free_onto b [] other free = ((other, tt), tt)
free_onto b (part ∷ parts) other free = ((other, free.0), free.1)

parts_free : (text : List ℕ) → Each (HasNone 10) (parts_of is_line_feed text)
parts_free [] = tt
parts_free (b ∷ text) = elim (cases_Bool (is_line_feed b)) [
  | inl feed ↦ rw feed (tt, parts_free text)
  | inr other ↦ rw other (free_onto b (parts_of is_line_feed text) other (parts_free text))
]

-- the parts of lines are these
pub parts_same : (lines : List (List ℕ)) → Each (HasNone 10) lines → parts_of is_line_feed (text_of lines) ≡ lines
parts_same [] free = refl
parts_same (line ∷ lines) free =
    ap (parts_of is_line_feed) (append_assoc line (10 ∷ []) (text_of lines)) ∙ part_before line (text_of lines) free.0 ∙ ap (λ ls. line ∷ ls) (parts_same lines free.1)

text_onto : (b : ℕ) (parts : List (List ℕ)) (text : List ℕ) → text_of parts ≡ text → 0 < length text → text_of (onto_first b parts) ≡ b ∷ text
text_onto b [] text is some = absurd (omega (arith, ap length is, some))
text_onto b (part ∷ parts) text is some = ap (λ l. b ∷ l) is

-- the parts of a text that ends with a line feed are its lines
pub text_same : (front : List ℕ) → text_of (parts_of is_line_feed (front ++ 10 ∷ [])) ≡ front ++ 10 ∷ []
text_same [] = refl
text_same (b ∷ front) = elim (cases_Bool (is_line_feed b)) [
  | inl feed ↦ rw feed (ap₂ {C = List ℕ} (λ (x : ℕ) (xs : List ℕ). x ∷ xs) (sym (eqb-true b 10 feed)) (text_same front))
  | inr other ↦ rw other (text_onto b (parts_of is_line_feed (front ++ 10 ∷ [])) (front ++ 10 ∷ []) (text_same front) (some front))
]
  where
    some : (xs : List ℕ) → 0 < length (xs ++ 10 ∷ [])
    some [] = omega arith
    some (x ∷ xs) = omega arith

-- ---- the lines of a chapter

-- the lines of a text behind a prefix
abbrev pub behind : List ℕ → List ℕ → List (List ℕ)
behind prefix text = map (λ line. prefix ++ line) (parts_of is_line_feed text)

abbrev pub names_behind : Option (List ℕ) → List (List ℕ)
names_behind None = []
names_behind (Some names) = behind (codes "unfinished names: ") names

abbrev pub number_front : ℕ → Origin → List ℕ
number_front job origin = codes "unfinished numbers: job " ++ (decimal job ++ origin_text origin)

abbrev pub number_fronts : ℕ → List Origin → List (List ℕ)
number_fronts job [] = []
number_fronts job (origin ∷ origins) = number_front job origin ∷ number_fronts (job + 1) origins

abbrev pub entry_front : Entry → List ℕ
entry_front entry = words_before (entry_words entry) []

abbrev pub entry_fronts : List Entry → List (List ℕ)
entry_fronts [] = []
entry_fronts (entry ∷ entries) = entry_front entry ∷ entry_fronts entries

-- those between the first and the last
abbrev pub middle : List ℕ → List ℕ → Option (List ℕ) → List Origin → List Entry → List (List ℕ)
middle file plan names origins entries =
    behind (codes "unfinished file: ") file
    ++ (behind (codes "unfinished plan: ") plan ++ (names_behind names ++ (number_fronts 0 origins ++ entry_fronts entries)))

abbrev pub chapter_parts : List ℕ → List ℕ → Option (List ℕ) → List Origin → List Entry → RunDigits → List (List ℕ)
chapter_parts file plan names origins entries digits = plan_words no_digits ∷ (middle file plan names origins entries ++ plan_words digits ∷ [])

text_behind : (prefix : List ℕ) (lines : List (List ℕ)) → text_of (map (λ line. prefix ++ line) lines) ≡ flat_map (line_behind prefix) lines
text_behind prefix [] = refl
text_behind prefix (line ∷ lines) = ap₂ {C = List ℕ} (λ (x xs : List ℕ). x ++ xs) (append_assoc prefix line (10 ∷ [])) (text_behind prefix lines)

names_text_of : (names : Option (List ℕ)) → text_of (names_behind names) ≡ names_lines names
names_text_of None = refl
names_text_of (Some names) = text_behind (codes "unfinished names: ") (parts_of is_line_feed names)

numbers_text_of : (job : ℕ) (origins : List Origin) → text_of (number_fronts job origins) ≡ number_lines job origins
numbers_text_of job [] = refl
numbers_text_of job (origin ∷ origins) =
    ap₂ {C = List ℕ} (λ (x xs : List ℕ). (codes "unfinished numbers: job " ++ x) ++ xs) (append_assoc (decimal job) (origin_text origin) (10 ∷ [])) (numbers_text_of (job + 1) origins)

entries_text_of : (entries : List Entry) → text_of (entry_fronts entries) ≡ entry_lines entries
entries_text_of [] = refl
entries_text_of (entry ∷ entries) = ap₂ {C = List ℕ} (λ (x xs : List ℕ). x ++ xs) (sym (before-append (entry_words entry) [] (10 ∷ []))) (entries_text_of entries)

-- five lists of lines and a last line
six_texts : (a b c d e : List (List ℕ)) (f : List ℕ) → text_of ((a ++ (b ++ (c ++ (d ++ e)))) ++ f ∷ []) ≡ text_of a ++ (text_of b ++ (text_of c ++ (text_of d ++ (text_of e ++ (f ++ 10 ∷ [])))))
six_texts a b c d e f =
    both (a ++ (b ++ (c ++ (d ++ e)))) (f ∷ []) ∙ ap₂ {C = List ℕ} (λ (x y : List ℕ). x ++ y)
    (both a (b ++ (c ++ (d ++ e))) ∙ ap (λ (x : List ℕ). text_of a ++ x) (both b (c ++ (d ++ e)) ∙ ap (λ (x : List ℕ). text_of b ++ x) (both c (d ++ e) ∙ ap (λ (x : List ℕ). text_of c ++ x) (both d e))))
    (append-nil (f ++ 10 ∷ []))
    ∙ joined (text_of a) (text_of b) (text_of c) (text_of d) (text_of e) (f ++ 10 ∷ [])
  where
    both : (xs ys : List (List ℕ)) → text_of (xs ++ ys) ≡ text_of xs ++ text_of ys
    both xs ys = flat_map-append (λ (line : List ℕ). line ++ 10 ∷ []) xs ys

    joined : (a b c d e f : List ℕ) → (a ++ (b ++ (c ++ (d ++ e)))) ++ f ≡ a ++ (b ++ (c ++ (d ++ (e ++ f))))
    joined a b c d e f = simp append_assoc

pub chapter_same : (file plan : List ℕ) (names : Option (List ℕ)) (origins : List Origin) (entries : List Entry) (digits : RunDigits) → chapter_text file plan names origins entries digits ≡ text_of (chapter_parts file plan names origins entries digits)
chapter_same file plan names origins entries digits =
    let files = behind (codes "unfinished file: ") file in
    let plans = behind (codes "unfinished plan: ") plan in
    let named = names_behind names in
    let last = plan_words digits in
    ap (λ (l : List ℕ). plan_line no_digits ++ l)
    (sym (six_texts files plans named (number_fronts 0 origins) (entry_fronts entries) last
    ∙ rw (
      text_behind (codes "unfinished file: ") (parts_of is_line_feed file),
      text_behind (codes "unfinished plan: ") (parts_of is_line_feed plan),
      names_text_of names,
      numbers_text_of 0 origins,
      entries_text_of entries,
    )
    refl))

-- ---- none of them has a line feed in it

pub none_of : (byte : ℕ) (bytes : List ℕ) → list_all (λ b. not (b == byte)) bytes ≡ true → HasNone byte bytes
none_of byte [] all = tt
none_of byte (b ∷ bytes) all =
    let (first, others) = and_parts (not (b == byte)) (list_all (λ c. not (c == byte)) bytes) all in
    (negated (b == byte) first, none_of byte bytes others)
  where
    negated : (b : Bool) → not b ≡ true → b ≡ false
    negated true is = absurd (cc)
    negated false is = refl

free_behind : (prefix : List ℕ) (lines : List (List ℕ)) → HasNone 10 prefix → Each (HasNone 10) lines → Each (HasNone 10) (map (λ line. prefix ++ line) lines)
free_behind prefix [] none free = tt
free_behind prefix (line ∷ lines) none free = (absent_from_both 10 prefix line none free.0, free_behind prefix lines none free.1)

names_free : (names : Option (List ℕ)) → Each (HasNone 10) (names_behind names)
names_free None = tt
names_free (Some names) = free_behind (codes "unfinished names: ") (parts_of is_line_feed names) (none_of 10 (codes "unfinished names: ") refl) (parts_free names)

decimal_free : (n : ℕ) → HasNone 10 (decimal n)
decimal_free n = absent_from_word 10 (decimal n) (omega arith) (decimal_spaceless n)

origin_free : (origin : Origin) → HasNone 10 (origin_text origin)
origin_free (Was job) = absent_from_both 10 (codes " was ") (decimal job) (none_of 10 (codes " was ") refl) (decimal_free job)
origin_free New = none_of 10 (codes " is new") refl
origin_free (Holds machine) = absent_from_both 10 (codes " holds machine ") (decimal machine) (none_of 10 (codes " holds machine ") refl) (decimal_free machine)

numbers_free : (job : ℕ) (origins : List Origin) → Each (HasNone 10) (number_fronts job origins)
numbers_free job [] = tt
numbers_free job (origin ∷ origins) = (
  absent_from_both 10 (codes "unfinished numbers: job ") (decimal job ++ origin_text origin) (none_of 10 (codes "unfinished numbers: job ") refl) (absent_from_both 10 (decimal job) (origin_text origin) (decimal_free job) (origin_free origin)),
  numbers_free (job + 1) origins,
)

spot_spaceless : (spot : Spot) → IsSpaceless (written (spot_word spot))
spot_spaceless Out = refl
spot_spaceless (At machine) = decimal_spaceless machine

ends_spaceless : (report : Report) → AreSpaceless (end_words report)
ends_spaceless (Arrive job at) = (refl, (decimal_spaceless job, tt))
ends_spaceless (Finish job machine at) = (refl, (decimal_spaceless job, (decimal_spaceless machine, tt)))
ends_spaceless (Clean machine at) = (refl, (decimal_spaceless machine, tt))

pub entry_spaceless : (entry : Entry) → AreSpaceless (entry_words entry)
entry_spaceless (ReportEntry report) = (refl, (decimal_spaceless _, ends_spaceless report))
entry_spaceless (OrderEntry order) = (refl, (decimal_spaceless order.at, (decimal_spaceless order.job, (spot_spaceless order.source, (spot_spaceless order.target, tt)))))

entries_free : (entries : List Entry) → Each (HasNone 10) (entry_fronts entries)
entries_free [] = tt
entries_free (entry ∷ entries) = (absent_from_words 10 (entry_words entry) (omega arith) (entry_spaceless entry), entries_free entries)

pub middle_free : (file plan : List ℕ) (names : Option (List ℕ)) (origins : List Origin) (entries : List Entry) → Each (HasNone 10) (middle file plan names origins entries)
middle_free file plan names origins entries =
    let files = behind (codes "unfinished file: ") file in
    let plans = behind (codes "unfinished plan: ") plan in
    let named = names_behind names in
    each-append (HasNone 10) files (plans ++ (named ++ (number_fronts 0 origins ++ entry_fronts entries))) (free_behind (codes "unfinished file: ") (parts_of is_line_feed file) (none_of 10 (codes "unfinished file: ") refl) (parts_free file))
    (each-append (HasNone 10) plans (named ++ (number_fronts 0 origins ++ entry_fronts entries)) (free_behind (codes "unfinished plan: ") (parts_of is_line_feed plan) (none_of 10 (codes "unfinished plan: ") refl) (parts_free plan))
    (each-append (HasNone 10) named (number_fronts 0 origins ++ entry_fronts entries) (names_free names)
    (each-append (HasNone 10) (number_fronts 0 origins) (entry_fronts entries) (numbers_free 0 origins) (entries_free entries))))

hex_spaced : (b : ℕ) → is_small_hex b ≡ true → nat_lt 32 b ≡ true
hex_spaced b is = elim (cases_lt 32 b) [
  | inl above ↦ lt-ltb 32 b above
  | inr within ↦
      let no : is_small_hex b ≡ false = or_from _ _ (and_left _ _ (lt-leb 48 b (omega (arith, within)))) (and_left _ _ (lt-leb 97 b (omega (arith, within)))) in
      absurd (cc (sym no ∙ is))
]

hex_spaceless : (digits : List ℕ) → list_all is_small_hex digits ≡ true → IsSpaceless digits
hex_spaceless [] all = refl
hex_spaceless (d ∷ digits) all =
    let (first, others) = and_parts (is_small_hex d) (list_all is_small_hex digits) all in
    and_from (nat_lt 32 d) (list_all (λ b. nat_lt 32 b) digits) (hex_spaced d first) (hex_spaceless digits others)

-- the words of the line of a plan
abbrev listed : RunDigits → List Word
listed digits = Text (codes "unfinished") ∷ Text (codes "plan") ∷ Text digits.plan ∷ Text (codes "shop") ∷ Text digits.shop ∷ []

listed_same : (digits : RunDigits) → words_before (listed digits) [] ≡ plan_words digits
listed_same digits = ap (λ (l : List ℕ). codes "unfinished plan " ++ (digits.plan ++ (codes " shop " ++ l))) (append-nil digits.shop)

listed_spaceless : (digits : RunDigits) → AreDigits digits → AreSpaceless (listed digits)
listed_spaceless digits are = (refl, (refl, (hex_spaceless digits.plan are.0.1, (refl, (hex_spaceless digits.shop are.1.1, tt)))))

plan_free : (digits : RunDigits) → AreDigits digits → HasNone 10 (plan_words digits)
plan_free digits are = subst (HasNone 10) (listed_same digits) (absent_from_words 10 (listed digits) (omega arith) (listed_spaceless digits are))

-- a line of words is read without losing its last byte
pub unreturned : (words : List Word) → AreSpaceless words → without_return (words_before words []) ≡ words_before words []
unreturned words are =
    let line : List ℕ = words_before words [] in
    let split : line_of words ++ [] ≡ line ++ 10 ∷ [] = append-nil (line_of words) ∙ before-append words [] (10 ∷ []) in
    let read : without_return line ∷ [] ≡ line ∷ [] =
    sym (first_line (line_of words ++ []) line [] (record { before = absent_from_words 10 words (omega arith) are; split = split })) ∙ line_first words [] are in
    ap (λ (ls : List (List ℕ)). get_or ls 0 []) read

pub plan_unreturned : (digits : RunDigits) → AreDigits digits → without_return (plan_words digits) ≡ plan_words digits
plan_unreturned digits are = subst (λ (l : List ℕ). without_return l ≡ l) (listed_same digits) (unreturned (listed digits) (listed_spaceless digits are))

pub no_digits_are : AreDigits no_digits
no_digits_are = ((refl, refl), (refl, refl))

pub parts_have_none : (file plan : List ℕ) (names : Option (List ℕ)) (origins : List Origin) (entries : List Entry) (digits : RunDigits) → AreDigits digits → Each (HasNone 10) (chapter_parts file plan names origins entries digits)
parts_have_none file plan names origins entries digits are = (
  plan_free no_digits no_digits_are,
  each-append (HasNone 10) (middle file plan names origins entries) (plan_words digits ∷ []) (middle_free file plan names origins entries) (plan_free digits are, tt),
)
