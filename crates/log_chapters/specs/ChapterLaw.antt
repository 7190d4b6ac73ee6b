-- The laws of a log that begins with its own texts: they are had again from it, no beginning of it is a log of its plan, and it records its events.
use Rattle.std.specs.Prelude.{◌≡◌, ◌⊎◌, ℕ, ◌+◌, ◌<◌, nat_eq, if◌then◌else◌, List, [], ◌∷◌, ◌++◌, length, take, drop, codes, decimal, Option, None, Some}
use Rattle.std.specs.List.{All, flat_map, starts_with}
use Rattle.shop_base.specs.Plan.{PlannedShop, IsWellShaped}
use Rattle.text_lines.specs.{Cuts.HasNone, Lines.is_line_feed, Lines.parts_of, Lines.lines_of, Lines.ended_lines}
use Rattle.cell_tables.specs.declared.entry.Entry.{Entry}
use Rattle.event_lines.specs.declared.run_digits.RunDigits.{RunDigits}
use Rattle.event_lines.specs.{RunDigits.AreDigits, LogLines.IsEntryOf, LogLines.LinesParse}
use Rattle.log_chapters.specs.declared.parts.Origin.{Origin}
use Rattle.log_chapters.specs.Chapters.{no_digits, origin_text, chapter_text}
use Rattle.event_lines.specs.LastPlan.{IsLastPlan}

-- what stands behind the prefix in a line that begins with it, with a line feed; nothing of any other line
abbrev pub marked_line : List ℕ → List ℕ → List ℕ
marked_line prefix line = if starts_with nat_eq line prefix then drop (length prefix) line ++ codes "\n" else []

-- the lines of a text that begin with the prefix, without it
abbrev pub lines_marked : List ℕ → List ℕ → List ℕ
lines_marked prefix text = flat_map (marked_line prefix) (parts_of is_line_feed text)

-- a line feed ends each line of the text
abbrev pub AreWholeLines : List ℕ → Type 0
AreWholeLines text = (text ≡ []) ⊎ ((front : List ℕ) × (text ≡ front ++ codes "\n"))

-- the names, none where there are none
abbrev pub names_text : Option (List ℕ) → List ℕ
names_text None = []
names_text (Some names) = names

-- each of the texts is of whole lines
pub record AreTextsOfLines (file plan : List ℕ) (names : Option (List ℕ)) : Type 0 where
  pub file_whole : AreWholeLines file
  pub plan_whole : AreWholeLines plan
  pub names_whole : AreWholeLines (names_text names)

-- what a job was, by its number: `job J was K`, `job J is new` or `job J holds machine M`
abbrev pub number_text : ℕ → Origin → List ℕ
number_text job origin = codes "job " ++ (decimal job ++ (origin_text origin ++ codes "\n"))

-- what the jobs from this one on were
abbrev pub number_texts : ℕ → List Origin → List ℕ
number_texts job [] = []
number_texts job (origin ∷ origins) = number_text job origin ++ number_texts (job + 1) origins

-- the lines of a log that are marked so are each text again, and what each job was
pub record HoldsTexts (file plan : List ℕ) (names : Option (List ℕ)) (origins : List Origin) (log : List ℕ) : Type 0 where
  pub file_again : lines_marked (codes "unfinished file: ") log ≡ file
  pub plan_again : lines_marked (codes "unfinished plan: ") log ≡ plan
  pub names_again : lines_marked (codes "unfinished names: ") log ≡ names_text names
  pub numbers_again : lines_marked (codes "unfinished numbers: ") log ≡ number_texts 0 origins

abbrev pub ChaptersHoldTheirTexts : Type 0
ChaptersHoldTheirTexts = (file plan : List ℕ) (names : Option (List ℕ)) (origins : List Origin) (entries : List Entry) (digits : RunDigits)
    → AreTextsOfLines file plan names → AreDigits digits → HoldsTexts file plan names origins (chapter_text file plan names origins entries digits)

-- by its last line a log is that of the digits; a beginning of it that isn't all of it, with bytes behind it that end no line, has no whole line, or by its last line of a plan it is the log of no plan
pub record IsWholeOrNone (digits : RunDigits) (log : List ℕ) : Type 0 where
  pub whole : IsLastPlan (ended_lines log) digits
  pub beginning : (count : ℕ) (behind : List ℕ) → count < length log → HasNone 10 behind
      → (ended_lines (take count log ++ behind) ≡ []) ⊎ IsLastPlan (ended_lines (take count log ++ behind)) no_digits

abbrev pub ChaptersAreWholeOrNone : Type 0
ChaptersAreWholeOrNone = (file plan : List ℕ) (names : Option (List ℕ)) (origins : List Origin) (entries : List Entry) (digits : RunDigits)
    → AreDigits digits → IsWholeOrNone digits (chapter_text file plan names origins entries digits)

-- a log records these events, and its ended lines do
pub record RecordsEvents (p : PlannedShop) (entries : List Entry) (log : List ℕ) : Type 0 where
  pub lines : LinesParse p (lines_of log) entries
  pub ended : LinesParse p (ended_lines log) entries

-- of a planned shop the events are recorded, and nothing else: each other line is passed over
abbrev pub ChaptersRecordTheirEvents : Type 0
ChaptersRecordTheirEvents = (p : PlannedShop) (file plan : List ℕ) (names : Option (List ℕ)) (origins : List Origin) (entries : List Entry) (digits : RunDigits)
    → IsWellShaped p → All (IsEntryOf p) entries → AreDigits digits → RecordsEvents p entries (chapter_text file plan names origins entries digits)
