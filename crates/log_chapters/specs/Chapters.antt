-- The text of a log that begins with its own texts.
use Rattle.std.specs.Prelude.{ℕ, ◌+◌, List, [], ◌∷◌, ◌++◌, Option, Some, None, codes, decimal, option_copied}
use Rattle.std.specs.List.{flat_map}
use Rattle.text_lines.specs.Lines.{is_line_feed, parts_of}
use Rattle.cell_tables.specs.declared.entry.Entry.{Entry}
use Rattle.event_lines.specs.declared.run_digits.RunDigits.{RunDigits}
use Rattle.event_lines.specs.EventLines.{entry_lines}
use Rattle.event_lines.specs.RunDigits.{plan_line}
use Rattle.log_chapters.specs.declared.parts.Texts.{Texts}
use Rattle.log_chapters.specs.declared.parts.Origin.{Origin}
use Rattle.log_chapters.specs.declared.parts.Origin.TheVariants.{Was, New, Holds}

-- the digits of no plan and of no shop
abbrev pub no_digits : RunDigits
no_digits = record { plan = codes "0000000000000000"; shop = codes "0000000000000000" }

-- a line with a prefix before it, and a line feed at its end
abbrev pub line_behind : List ℕ → List ℕ → List ℕ
line_behind prefix line = prefix ++ (line ++ codes "\n")

-- the lines of a text, each with a prefix before it
abbrev pub lines_behind : List ℕ → List ℕ → List ℕ
lines_behind prefix text = flat_map (line_behind prefix) (parts_of is_line_feed text)

-- the lines of the instance, and of the plan
abbrev pub file_lines : List ℕ → List ℕ
file_lines text = lines_behind (codes "unfinished file: ") text

abbrev pub plan_text_lines : List ℕ → List ℕ
plan_text_lines text = lines_behind (codes "unfinished plan: ") text

-- the lines of the names, if there are any
abbrev pub names_lines : Option (List ℕ) → List ℕ
names_lines None = []
names_lines (Some names) = lines_behind (codes "unfinished names: ") names

-- what a job was, behind its number
abbrev pub origin_text : Origin → List ℕ
origin_text (Was job) = codes " was " ++ decimal job
origin_text New = codes " is new"
origin_text (Holds machine) = codes " holds machine " ++ decimal machine

-- the line that says what a job was
abbrev pub number_line : ℕ → Origin → List ℕ
number_line job origin = codes "unfinished numbers: job " ++ (decimal job ++ (origin_text origin ++ codes "\n"))

-- those of the jobs from this one on
abbrev pub number_lines : ℕ → List Origin → List ℕ
number_lines job [] = []
number_lines job (origin ∷ origins) = number_line job origin ++ number_lines (job + 1) origins

-- the line of no plan; behind it each line of the texts, the numbers, and the events; the last line is that of the plan
abbrev pub chapter_text : List ℕ → List ℕ → Option (List ℕ) → List Origin → List Entry → RunDigits → List ℕ
chapter_text file plan names origins entries digits =
    plan_line no_digits
    ++ (file_lines file ++ (plan_text_lines plan ++ (names_lines names ++ (number_lines 0 origins ++ (entry_lines entries ++ plan_line digits)))))

-- so of these texts
abbrev pub chapter : Texts → List Origin → List Entry → RunDigits → List ℕ
chapter texts origins entries digits = chapter_text texts.file.now texts.plan.now (option_copied texts.names) origins entries digits
