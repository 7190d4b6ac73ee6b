-- The words of how it stands with a job or with a machine, and the answers in which they stand, from version 2 of the lines on.
use Rattle.std.specs.Prelude.{ℕ, zero, suc, Option, Some, None, List, [], ◌∷◌, ◌++◌, codes}
use Rattle.shop_base.specs.declared.move_order.Spot.{Spot}
use Rattle.cell_tables.specs.declared.standing.Visit.{Visit}
use Rattle.cell_tables.specs.declared.standing.Standing.{Standing}
use Rattle.cell_tables.specs.declared.standing.Standing.TheVariants.{Awaited, Outside, Worked, Done, Gone, Cleaned, Clean}
use Rattle.event_lines.specs.declared.details.Detail.{Detail}
use Rattle.event_lines.specs.declared.details.Detail.TheVariants.{Nothing, Last, Stands}
use Rattle.event_lines.specs.declared.details.Overdue.{Overdue}
use Rattle.event_lines.specs.Words.{Word, Text, Number, JobStep, short, moment, line_of}
use Rattle.event_lines.specs.EventLines.{spot_word}

-- `job J`, `machine M`
abbrev pub job_words : ℕ → List Word → List Word
job_words job words = Text (codes "job") ∷ short job ∷ words

abbrev pub machine_words : ℕ → List Word → List Word
machine_words machine words = Text (codes "machine") ∷ short machine ∷ words

-- `since S due D`
abbrev pub since_words : ℕ → ℕ → List Word
since_words since due = Text (codes "since") ∷ moment since ∷ Text (codes "due") ∷ moment due ∷ []

-- `for machine M`
abbrev pub target_words : Spot → List Word
target_words to = Text (codes "for") ∷ Text (codes "machine") ∷ spot_word to ∷ []

-- a job, and its step where the visit is told by it
abbrev pub shown_word : ℕ → Option ℕ → Word
shown_word job None = short job
shown_word job (Some step) = JobStep job step

-- `job J`, or `job J.K`
abbrev pub visit_words : Visit → List Word → List Word
visit_words visit words = Text (codes "job") ∷ shown_word visit.job visit.step ∷ words

-- how it stands with a job or with a machine
abbrev pub standing_words : Standing → List Word
standing_words (Awaited job due) = job_words job (Text (codes "arrives") ∷ moment due ∷ [])
standing_words (Outside job to) = job_words job (Text (codes "waits") ∷ Text (codes "outside") ∷ target_words to)
standing_words (Worked visit machine since due) = visit_words visit (Text (codes "on") ∷ machine_words machine (since_words since due))
standing_words (Done visit machine to) =
    visit_words visit (Text (codes "waits") ∷ Text (codes "on") ∷ machine_words machine (target_words to))
standing_words (Gone job at) = job_words job (Text (codes "has") ∷ Text (codes "left") ∷ Text (codes "at") ∷ moment at ∷ [])
standing_words (Cleaned machine visit since due) =
    machine_words machine (Text (codes "cleaned") ∷ Text (codes "after") ∷ visit_words visit (since_words since due))
standing_words (Clean machine) = machine_words machine (Text (codes "is") ∷ Text (codes "clean") ∷ [])

-- behind the name of a reason: nothing, `last T`, or how it stands with what the report is of
abbrev pub detail_words : Detail → List Word
detail_words Nothing = []
detail_words (Last at) = Text (codes "last") ∷ moment at ∷ []
detail_words (Stands standing) = standing_words standing

-- `and K more`, where there are others
abbrev pub others_words : ℕ → List Word
others_words zero = []
others_words (suc k) = Text (codes "and") ∷ Number 10 (suc k) ∷ Text (codes "more") ∷ []

-- one of what is overdue, and how many others are
abbrev pub overdue_words : Overdue → List Word
overdue_words overdue = standing_words overdue.first ++ others_words overdue.others

-- what stands behind a name, to the end of the line
abbrev pub detail_end : Detail → List ℕ
detail_end Nothing = 10 ∷ []
detail_end detail = 32 ∷ line_of (detail_words detail)

-- what stands behind what is overdue, to the end of the line
abbrev pub others_end : ℕ → List ℕ
others_end zero = 10 ∷ []
others_end (suc k) = 32 ∷ line_of (others_words (suc k))

-- `unfinished WORDS`
abbrev pub unfinished_standing_words : Standing → List Word
unfinished_standing_words standing = Text (codes "unfinished") ∷ standing_words standing

-- `refused LINE NAME WORDS`
abbrev pub refused_detail_words : ℕ → List ℕ → Detail → List Word
refused_detail_words number name detail = Text (codes "refused") ∷ Number 20 number ∷ Text name ∷ detail_words detail

-- `late T WORDS`
abbrev pub late_overdue_words : ℕ → Overdue → List Word
late_overdue_words at overdue = Text (codes "late") ∷ moment at ∷ overdue_words overdue

abbrev pub unfinished_standing_line : Standing → List ℕ
unfinished_standing_line standing = line_of (unfinished_standing_words standing)

abbrev pub refused_detail_line : ℕ → List ℕ → Detail → List ℕ
refused_detail_line number name detail = line_of (refused_detail_words number name detail)

abbrev pub late_overdue_line : ℕ → Overdue → List ℕ
late_overdue_line at overdue = line_of (late_overdue_words at overdue)
