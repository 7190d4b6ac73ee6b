-- The lines of the jobs of a plan without a cycle.
use Rattle.std.specs.Prelude.{ℕ, ◌-◌, nat_lt, if◌then◌else◌, List, [], ◌∷◌, codes, decimal}
use Rattle.shop_base.specs.{Plan.PlannedShop, Plan.jobs, Plan.steps, Plan.budget, Cell.Cell, Cell.made}
use Rattle.people_names.specs.{NameBooks.NameBook, Words.job_word, Words.moment_word, Words.is_budget_printed}
use Rattle.plan_explain.specs.{Arcs.words_and, Parts.texts_below}

module _ (names : NameBook) where
  -- ` budget B`, with these words behind it; ` no budget` of one that nobody gave
  abbrev pub leaving_budget_words : ℕ → List (List ℕ) → List (List ℕ)
  leaving_budget_words budget behind = if is_budget_printed names budget then codes " budget " ∷ moment_word names budget ∷ behind else codes " no budget" ∷ []

  -- ` budget B slack S`, what is left to the budget, or ` no budget`; or ` budget B late D`, by how much the leaving is past it
  abbrev pub margin_words : ℕ → ℕ → List (List ℕ)
  margin_words leaves budget =
      if nat_lt budget leaves then codes " budget " ∷ moment_word names budget ∷ codes " late " ∷ decimal (leaves - budget) ∷ []
      else leaving_budget_words budget (codes " slack " ∷ decimal (budget - leaves) ∷ [])

  -- `job J leaves L budget B slack S`, or `.. late D`
  abbrev pub leaving_line : ℕ → ℕ → ℕ → List ℕ
  leaving_line j leaves budget = words_and (codes "job " ∷ job_word names j ∷ codes " leaves " ∷ moment_word names leaves ∷ []) (words_and (margin_words leaves budget) (codes "\n"))

  -- `job J left L budget B`
  abbrev pub gone_line : ℕ → ℕ → ℕ → List ℕ
  gone_line j left budget = words_and (codes "job " ∷ job_word names j ∷ codes " left " ∷ moment_word names left ∷ []) (words_and (leaving_budget_words budget []) (codes "\n"))

module _ (names : NameBook) (p : PlannedShop) (c : Cell) where
  -- the line of job j: when it left, or when it leaves and what is left to its budget
  abbrev pub leaves_line : ℕ → ℕ → List ℕ
  leaves_line j leaves = if nat_lt (steps p j) (made c j) then gone_line names j leaves (budget p j) else leaving_line names j leaves (budget p j)

  -- the lines of all jobs, in ascending order
  abbrev pub leaves_lines : (ℕ → ℕ) → List ℕ
  leaves_lines leaves = texts_below (λ j. leaves_line j (leaves j)) (jobs p)
