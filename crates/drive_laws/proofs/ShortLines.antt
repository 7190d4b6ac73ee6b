-- A line of version 2 has at most 128 bytes.
use Rattle.std.proofs.Common.{Bool, true, false, nat_lt, ◌==◌, if◌then◌else◌, ◌^◌, ◌≡◌, ℕ, zero, suc, ◌+◌, ◌<◌, ◌≤◌, List, [], ◌∷◌, ◌++◌, codes, length, decimal, Option, None, Some, refl, arith}
use Rattle.std.proofs.lemmas.{Bool.ltb-true, List.length-append, Fmt.length-decimal-le}
use Rattle.shop_base.specs.declared.move_order.Spot.{Spot, TheVariants.{Out, At}}
use Rattle.cell_tables.specs.declared.standing.Standing.{Standing}
use Rattle.cell_tables.specs.declared.standing.Standing.TheVariants.{Clean, Awaited, Outside, Worked, Done, Gone, Cleaned}
use Rattle.cell_control.specs.{declared.report_fault.ReportFault.ReportFault, ReasonNames.reason_name}
use Rattle.cell_control.specs.declared.report_fault.ReportFault.TheVariants.{WrongKind, WrongMachine, JobOutOfRange, MachineOutOfRange, StepOutOfRange, MomentTooLarge, Backwards, NotExpected}
use Rattle.event_lines.specs.declared.details.Detail.{Detail, TheVariants.{Nothing, Last, Stands}}
use Rattle.event_lines.specs.Words.{Number, JobStep, Word, Text, written, words_before, line_of}
use Rattle.event_lines.specs.StandingLines.{standing_words, detail_words, others_words, unfinished_standing_words, refused_detail_words, late_overdue_words}
use Rattle.cell_drive.specs.{declared.refusals.Refusal.{Refusal, TheVariants.{Reason, Leap}}, Refusals.refusal_word}
use Rattle.drive_laws.specs.ShortLinesLaw.{IsShort, IsMoment, IsShortStanding, IsShortDetail, StateLinesAreShort, RefusalsAreShort, LateLinesAreShort}

-- ---- words

-- how many bytes words have, with a space behind each
abbrev pub size : List Word → ℕ
size [] = 0
size (word ∷ words) = length (written word) + 1 + size words

size_join : (words others : List Word) → size (words ++ others) ≡ size words + size others
size_join [] others = omega arith
size_join (word ∷ words) others = omega (arith, size_join words others)

pub words_fit : (words : List Word) (text : List ℕ) → length (words_before words text) ≤ size words + length text
words_fit [] text = omega arith
words_fit (word ∷ []) text = omega (arith, length-append (written word) text)
words_fit (word ∷ next ∷ words) text = omega (arith, length-append (written word) (32 ∷ words_before (next ∷ words) text), words_fit (next ∷ words) text)

line_fits : (prefix : List ℕ) (words : List Word) (most : ℕ) → length prefix ≤ 10 → size words ≤ most → most ≤ 117 → length (prefix ++ line_of words) ≤ 128
line_fits prefix words most before few within = omega (arith, length-append prefix (line_of words), words_fit words (10 ∷ []), before, few, within)

pub short_fits : (n : ℕ) → IsShort n → length (decimal n) ≤ 3
short_fits n short = length-decimal-le 3 n (omega arith) (omega (arith, short)) (omega (arith, short))

pub moment_fits : (t : ℕ) → IsMoment t → length (decimal t) ≤ 13
moment_fits t is = length-decimal-le 13 t (omega arith) (omega (arith, is)) (omega (arith, is))

-- ---- words whose numbers are short

-- a number has so many digits at most: a moment, or another
abbrev digits : ℕ → ℕ
digits most = if most == 13 then 13 else 3

abbrev AreShort : List Word → Type 0
AreShort [] = Unit {0}
AreShort (Text text ∷ words) = AreShort words
AreShort (Number most n ∷ words) = (n < 10 ^ digits most) × AreShort words
AreShort (JobStep job step ∷ words) = IsShort job × IsShort step × AreShort words

-- so words have so many bytes at most, with a space behind each
abbrev most_of : List Word → ℕ
most_of [] = 0
most_of (Text text ∷ words) = length text + 1 + most_of words
most_of (Number most n ∷ words) = digits most + 1 + most_of words
most_of (JobStep job step ∷ words) = 8 + most_of words

digits_fit : (n : ℕ) (is_moment : Bool) → n < 10 ^ (if is_moment then 13 else 3) → length (decimal n) ≤ (if is_moment then 13 else 3)
digits_fit n true below = moment_fits n below
digits_fit n false below = short_fits n below

fits : (words : List Word) → AreShort words → size words ≤ most_of words
fits [] is = omega arith
fits (Text text ∷ words) is = omega (arith, fits words is)
fits (Number most n ∷ words) is = omega (arith, digits_fit n (most == 13) is.0, fits words is.1)
fits (JobStep job step ∷ words) is = omega (arith, length-append (decimal job) (46 ∷ decimal step), short_fits job is.0, short_fits step is.1, fits words is.2)

fits_in : (words : List Word) (most : ℕ) → AreShort words → nat_lt (most_of words) (most + 1) ≡ true → size words ≤ most
fits_in words most is below = omega (arith, fits words is, ltb-true (most_of words) (most + 1) below)

worked_fits : (job : ℕ) (step : Option ℕ) (machine since due : ℕ) → IsShortStanding (Worked (record { job = job; step = step }) machine since due)
    → size (standing_words (Worked (record { job = job; step = step }) machine since due)) ≤ 76
worked_fits job None machine since due is = fits_in (standing_words (Worked (record { job = job; step = None }) machine since due)) 76 (is.0.0, (is.1, (is.2, (is.3, tt)))) refl
worked_fits job (Some step) machine since due is =
    fits_in (standing_words (Worked (record { job = job; step = Some step }) machine since due)) 76 (is.0.0, is.0.1, (is.1, (is.2, (is.3, tt)))) refl

done_fits : (job : ℕ) (step : Option ℕ) (machine : ℕ) (to : Spot) → IsShortStanding (Done (record { job = job; step = step }) machine to)
    → size (standing_words (Done (record { job = job; step = step }) machine to)) ≤ 76
done_fits job None machine Out is = fits_in (standing_words (Done (record { job = job; step = None }) machine Out)) 76 (is.0.0, (is.1, tt)) refl
done_fits job None machine (At to) is = fits_in (standing_words (Done (record { job = job; step = None }) machine (At to))) 76 (is.0.0, (is.1, (is.2, tt))) refl
done_fits job (Some step) machine Out is = fits_in (standing_words (Done (record { job = job; step = Some step }) machine Out)) 76 (is.0.0, is.0.1, (is.1, tt)) refl
done_fits job (Some step) machine (At to) is =
    fits_in (standing_words (Done (record { job = job; step = Some step }) machine (At to))) 76 (is.0.0, is.0.1, (is.1, (is.2, tt))) refl

cleaned_fits : (machine job : ℕ) (step : Option ℕ) (since due : ℕ) → IsShortStanding (Cleaned machine (record { job = job; step = step }) since due)
    → size (standing_words (Cleaned machine (record { job = job; step = step }) since due)) ≤ 76
cleaned_fits machine job None since due is = fits_in (standing_words (Cleaned machine (record { job = job; step = None }) since due)) 76 (is.0, (is.1.0, (is.2, (is.3, tt)))) refl
cleaned_fits machine job (Some step) since due is =
    fits_in (standing_words (Cleaned machine (record { job = job; step = Some step }) since due)) 76 (is.0, (is.1.0, is.1.1, (is.2, (is.3, tt)))) refl

standing_fits : (standing : Standing) → IsShortStanding standing → size (standing_words standing) ≤ 76
standing_fits (Awaited job due) is = fits_in (standing_words (Awaited job due)) 76 (is.0, (is.1, tt)) refl
standing_fits (Outside job Out) is = fits_in (standing_words (Outside job Out)) 76 (is.0, tt) refl
standing_fits (Outside job (At to)) is = fits_in (standing_words (Outside job (At to))) 76 (is.0, (is.1, tt)) refl
standing_fits (Worked visit machine since due) is = worked_fits visit.job visit.step machine since due is
standing_fits (Done visit machine to) is = done_fits visit.job visit.step machine to is
standing_fits (Gone job at) is = fits_in (standing_words (Gone job at)) 76 (is.0, (is.1, tt)) refl
standing_fits (Cleaned machine visit since due) is = cleaned_fits machine visit.job visit.step since due is
standing_fits (Clean machine) is = fits_in (standing_words (Clean machine)) 76 (is, tt) refl

detail_fits : (detail : Detail) → IsShortDetail detail → size (detail_words detail) ≤ 76
detail_fits Nothing is = omega arith
detail_fits (Last at) is = fits_in (detail_words (Last at)) 76 (is, tt) refl
detail_fits (Stands standing) is = standing_fits standing is

-- ---- lines

pub state_lines_are_short : StateLinesAreShort
state_lines_are_short prefix standing before is =
    let unfinished_is : length (codes "unfinished") ≡ 10 = refl in
    line_fits prefix (unfinished_standing_words standing) 87 before (omega (arith, unfinished_is, standing_fits standing is)) (omega arith)

name_fits : (reason : ReportFault) → length (reason_name reason) ≤ 17
name_fits JobOutOfRange = omega arith
name_fits MachineOutOfRange = omega arith
name_fits StepOutOfRange = omega arith
name_fits MomentTooLarge = omega arith
name_fits (Backwards last) = omega arith
name_fits NotExpected = omega arith
name_fits WrongKind = omega arith
name_fits (WrongMachine actual) = omega arith

word_fits : (refusal : Refusal) → length (refusal_word refusal) ≤ 17
word_fits (Reason reason) = name_fits reason
word_fits Leap = omega arith

number_fits : (number : ℕ) → number < 100000000 → length (decimal number) ≤ 8
number_fits number below = length-decimal-le 8 number (omega arith) (omega (arith, below)) (omega (arith, below))

pub refusals_are_short : RefusalsAreShort
refusals_are_short prefix number refusal detail before below is =
    let refused_is : length (codes "refused") ≡ 7 = refl in
    line_fits prefix (refused_detail_words number (refusal_word refusal) detail) 111 before
    (omega (arith, refused_is, number_fits number below, word_fits refusal, detail_fits detail is)) (omega arith)

others_fit : (others : ℕ) → IsShort others → size (others_words others) ≤ 13
others_fit zero is = omega arith
others_fit (suc k) is = fits_in (others_words (suc k)) 13 (is, tt) refl

pub late_lines_are_short : LateLinesAreShort
late_lines_are_short prefix at overdue before is first others =
    let late_is : length (codes "late") ≡ 4 = refl in
    line_fits prefix (late_overdue_words at overdue) 108 before
    (omega (arith, late_is, moment_fits at is, size_join (standing_words overdue.first) (others_words overdue.others), standing_fits overdue.first first, others_fit overdue.others others)) (omega arith)
