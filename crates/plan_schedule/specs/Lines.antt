-- The lines of a schedule in words.
use Rattle.std.specs.Prelude.{ℕ, if◌then◌else◌, List, [], ◌∷◌, ◌++◌, codes, Option, None, Some}
use Rattle.people_names.specs.{NameBooks.NameBook, Words.job_word, Words.machine_word, Words.moment_word, Words.is_deadline_printed}
use Rattle.plan_explain.specs.Labels.{label_word}
use Rattle.plan_explain.specs.Arcs.{words_and}
use Rattle.plan_schedule.specs.{declared.lines.ScheduledVisit.ScheduledVisit, declared.lines.Cleaning.Cleaning}

module _ (names : NameBook) where
  -- ` by D`, where there is a deadline and it is printed
  abbrev pub due_words : Option ℕ → List (List ℕ)
  due_words None = []
  due_words (Some due) = if is_deadline_printed names due then codes " by " ∷ moment_word names due ∷ [] else []

  -- `job J arrives R by D`
  abbrev pub arrival_line : ℕ → ℕ → Option ℕ → List ℕ
  arrival_line job release due = words_and (codes "job " ∷ job_word names job ∷ codes " arrives " ∷ moment_word names release ∷ []) (words_and (due_words due) (codes "\n"))

  -- ` to F by D`, or ` done` of an operation that is done
  abbrev pub ending_words : ScheduledVisit → List ℕ → List ℕ
  ending_words visit behind = if visit.done then codes " done" ++ behind else words_and (codes " to " ∷ moment_word names visit.to ∷ []) (words_and (due_words visit.due) behind)

  -- `job J on machine M from E to F by D leaves L`, where these words say when the operation begins; in a shop with recirculation with the step, as `J.K`
  abbrev pub visit_line : List ℕ → ScheduledVisit → List ℕ
  visit_line begins visit =
      words_and (codes "job " ∷ label_word names visit.label ∷ codes " on machine " ∷ machine_word names visit.machine ∷ begins ∷ moment_word names visit.from ∷ []) (
      ending_words visit (words_and (codes " leaves " ∷ moment_word names visit.leaves ∷ []) (codes "\n"))
      )

  -- `machine M cleaned from L to C by D`, where these words say when it begins; nothing where there is no cleaning
  abbrev pub cleaning_line : List ℕ → Option Cleaning → List ℕ
  cleaning_line begins None = []
  cleaning_line begins (Some cleaning) =
      words_and (codes "machine " ∷ machine_word names cleaning.machine ∷ begins ∷ moment_word names cleaning.from ∷ codes " to " ∷ moment_word names cleaning.to ∷ []) (
      words_and (due_words cleaning.due) (codes "\n")
      )

  -- `job J left L`, of a job that is gone
  abbrev pub left_line : ℕ → ℕ → List ℕ
  left_line job left = words_and (codes "job " ∷ job_word names job ∷ codes " left " ∷ moment_word names left ∷ []) (codes "\n")

  -- `job J has arrived`, of a job that is ready outside the cell
  abbrev pub arrived_line : ℕ → List ℕ
  arrived_line job = words_and (codes "job " ∷ job_word names job ∷ codes " has arrived" ∷ []) (codes "\n")
