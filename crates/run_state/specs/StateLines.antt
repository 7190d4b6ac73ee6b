-- The lines of a state: how it stands with a job or a machine, by names and clock.
use Rattle.std.specs.Prelude.{ℕ, Bool, if◌then◌else◌, List, [], ◌∷◌, codes}
use Rattle.shop_base.specs.declared.move_order.Spot.{Spot}
use Rattle.shop_base.specs.declared.move_order.Spot.TheVariants.{Out, At}
use Rattle.cell_tables.specs.declared.standing.Visit.{Visit}
use Rattle.cell_tables.specs.declared.standing.Standing.{Standing}
use Rattle.cell_tables.specs.declared.standing.Standing.TheVariants.{Awaited, Outside, Worked, Done, Gone, Cleaned, Clean}
use Rattle.cell_tables.specs.Standings.{is_overdue}
use Rattle.people_names.specs.NameBooks.{NameBook}
use Rattle.people_names.specs.Words.{job_word, visit_word, machine_word, moment_word}
use Rattle.event_lines.specs.Words.{Word, Text, Number, line_of, words_before}

module _ (names : NameBook) where
  -- `job J`, `machine M`
  abbrev pub job_words : ℕ → List Word → List Word
  job_words job words = Text (codes "job") ∷ Text (job_word names job) ∷ words

  abbrev pub machine_words : ℕ → List Word → List Word
  machine_words machine words = Text (codes "machine") ∷ Text (machine_word names machine) ∷ words

  -- `job J`, or `job J.K`
  abbrev pub visit_words : Visit → List Word → List Word
  visit_words visit words = Text (codes "job") ∷ Text (visit_word names visit.job visit.step) ∷ words

  -- a moment
  abbrev pub at_word : ℕ → Word
  at_word t = Text (moment_word names t)

  -- `since S due D`
  abbrev pub since_words : ℕ → ℕ → List Word
  since_words since due = Text (codes "since") ∷ at_word since ∷ Text (codes "due") ∷ at_word due ∷ []

  -- what a job waits for: `for machine M`, or `to leave` where no machine is next
  abbrev pub target_words : Spot → List Word
  target_words Out = Text (codes "to") ∷ Text (codes "leave") ∷ []
  target_words (At m) = Text (codes "for") ∷ machine_words m []

  -- how it stands with a job that isn't gone, or with a machine that is being cleaned; with others there is nothing to say
  abbrev pub standing_words : Standing → List Word
  standing_words (Awaited job due) = job_words job (Text (codes "arrives") ∷ at_word due ∷ [])
  standing_words (Outside job to) = job_words job (Text (codes "waits") ∷ Text (codes "outside") ∷ target_words to)
  standing_words (Worked visit machine since due) = visit_words visit (Text (codes "on") ∷ machine_words machine (since_words since due))
  standing_words (Done visit machine to) =
      visit_words visit (Text (codes "waits") ∷ Text (codes "on") ∷ machine_words machine (target_words to))
  standing_words (Gone job at) = []
  standing_words (Cleaned machine visit since due) =
      machine_words machine (Text (codes "cleaned") ∷ Text (codes "after") ∷ visit_words visit (since_words since due))
  standing_words (Clean machine) = []

  -- `now N`
  abbrev pub now_line : ℕ → List ℕ
  now_line t = line_of (Text (codes "now") ∷ at_word t ∷ [])

-- the end of a line: ` overdue` before it where something should have ended
abbrev pub overdue_end : Bool → List ℕ
overdue_end overdue = if overdue then codes " overdue\n" else codes "\n"

-- how it stands at moment t: with ` overdue` where what goes on is due before t
abbrev pub standing_line : NameBook → ℕ → Standing → List ℕ
standing_line names t standing = words_before (standing_words names standing) (overdue_end (is_overdue standing t))

-- `left K of J`
abbrev pub left_line : ℕ → ℕ → List ℕ
left_line left jobs = line_of (Text (codes "left") ∷ Number 20 left ∷ Text (codes "of") ∷ Number 20 jobs ∷ [])

-- `reports K`
abbrev pub reports_line : ℕ → List ℕ
reports_line left = line_of (Text (codes "reports") ∷ Number 20 left ∷ [])
