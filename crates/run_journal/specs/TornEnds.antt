-- What a crash can leave behind the whole lines of a log.
use Rattle.std.specs.Prelude.{◌≡◌, ◌⊎◌, ℕ, ◌-◌, ◌^◌, ◌<◌, nat_lt, ◌==◌, ◌&&◌, ◌||◌, if◌then◌else◌, Bool, true, false, List, [], ◌∷◌, ◌++◌, length, take, codes}
use Rattle.text_lines.specs.Numbers.{is_digit}
use Rattle.cell_tables.specs.{declared.entry.Entry.Entry, Standings.is_overdue}
use Rattle.event_lines.specs.{declared.details.Overdue.Overdue, declared.run_digits.RunDigits.RunDigits}
use Rattle.event_lines.specs.{EventLines.entry_words, EventLines.entry_line, Words.Word, Words.Text, Words.Number, Words.JobStep}
use Rattle.event_lines.specs.{AnswerLines.late_words, AnswerLines.late_line, ReadBack.IsFitting}
use Rattle.event_lines.specs.StandingLines.{late_overdue_words, late_overdue_line}
use Rattle.event_lines.specs.RunDigits.{AreDigits, is_small_hex, plan_line}
use Rattle.run_journal.specs.declared.torn_end.TheConstants.{MOMENT_DIGITS, OTHER_DIGITS}
use Rattle.run_journal.specs.LogFiles.{zeros}

-- how many digits a number of a line's form has at most: `#` is a moment, and `%` any other number
abbrev pub most_digits : ℕ → ℕ
most_digits form = if form == 35 then MOMENT_DIGITS else (if form == 37 then OTHER_DIGITS else 0)

-- `@` is one hexadecimal digit, and any other byte of the form stands for itself
abbrev pub stands_for_one : ℕ → ℕ → Bool
stands_for_one form byte = if form == 64 then is_small_hex byte else form == byte

abbrev pub stands_for : ℕ → ℕ → Bool
stands_for form byte = if most_digits form == 0 then stands_for_one form byte else is_digit byte

-- the rest of a line of this form begins with these bytes, behind a number that may have so many digits more
abbrev pub goes_on : ℕ → List ℕ → List ℕ → Bool
goes_on more form [] = true
goes_on more [] (byte ∷ bytes) = if nat_lt 0 more && is_digit byte then goes_on (more - 1) [] bytes else false
goes_on more (c ∷ form) (byte ∷ bytes) = if nat_lt 0 more && is_digit byte then goes_on (more - 1) (c ∷ form) bytes
    else (if stands_for c byte then goes_on (most_digits c - 1) form bytes else false)

-- a line of this form begins with these bytes
abbrev pub begins : List ℕ → List ℕ → Bool
begins form bytes = goes_on 0 form bytes

-- the line of a report, of an order, that a report was late, or of a plan
abbrev pub begins_report : List ℕ → Bool
begins_report bytes = begins (codes "report # arrive %") bytes || begins (codes "report # finish % %") bytes || begins (codes "report # clean %") bytes

abbrev pub begins_order : List ℕ → Bool
begins_order bytes = begins (codes "order # % % %") bytes || begins (codes "order # % % out") bytes || begins (codes "order # % out %") bytes || begins (codes "order # % out out") bytes

-- the step of a job stands there in a shop with recirculation
abbrev pub begins_late_step : List ℕ → Bool
begins_late_step bytes = begins (codes "late # job %.% on machine % since # due # and % more") bytes || begins (codes "late # machine % cleaned after job %.% since # due # and % more") bytes

abbrev pub begins_late : List ℕ → Bool
begins_late bytes = begins (codes "late # job % arrives # and % more") bytes
    || begins (codes "late # job % on machine % since # due # and % more") bytes
    || begins (codes "late # machine % cleaned after job % since # due # and % more") bytes
    || begins_late_step bytes

abbrev pub begins_plan : List ℕ → Bool
begins_plan bytes = begins (codes "unfinished plan @@@@@@@@@@@@@@@@ shop @@@@@@@@@@@@@@@@") bytes

-- these bytes without the zeros at their end
abbrev pub without_zeros : List ℕ → List ℕ
without_zeros [] = []
without_zeros (byte ∷ bytes) = let rest = without_zeros bytes in if byte == 0 && length rest == 0 then [] else byte ∷ rest

-- a line that a log gets begins with these bytes
abbrev pub begins_line : List ℕ → Bool
begins_line bytes = begins_report bytes || begins_order bytes || begins_late bytes || begins_plan bytes

-- so it does with these, but for the zeros at their end
abbrev pub is_torn : List ℕ → Bool
is_torn end = begins_line (without_zeros end)

-- a word of such a line: of its numbers, a moment alone has more digits than the others may have
abbrev pub IsNarrow : Word → Type 0
IsNarrow (Text text) = IsFitting (Text text)
IsNarrow (Number most n) = IsFitting (Number most n) × ((most ≡ MOMENT_DIGITS) ⊎ (n < 10 ^ OTHER_DIGITS))
IsNarrow (JobStep job step) = IsFitting (JobStep job step) × (job < 10 ^ OTHER_DIGITS) × (step < 10 ^ OTHER_DIGITS)

abbrev pub AreNarrow : List Word → Type 0
AreNarrow [] = Unit {0}
AreNarrow (word ∷ words) = IsNarrow word × AreNarrow words

-- so it is with what is left of a line that a log gets, where its line feed isn't on the disk
pub record UnwrittenLinesAreTorn : Type 0 where
  pub events : (entry : Entry) (count unwritten : ℕ) → AreNarrow (entry_words entry) → count < length (entry_line entry) → is_torn (take count (entry_line entry) ++ zeros unwritten) ≡ true
  pub late : (at count unwritten : ℕ) → AreNarrow (late_words at) → count < length (late_line at) → is_torn (take count (late_line at) ++ zeros unwritten) ≡ true
  pub late_overdue : (at count unwritten : ℕ) (overdue : Overdue) → is_overdue overdue.first at ≡ true → AreNarrow (late_overdue_words at overdue) → count < length (late_overdue_line at overdue)
      → is_torn (take count (late_overdue_line at overdue) ++ zeros unwritten) ≡ true
  pub plan : (digits : RunDigits) (count unwritten : ℕ) → AreDigits digits → count < length (plan_line digits) → is_torn (take count (plan_line digits) ++ zeros unwritten) ≡ true
