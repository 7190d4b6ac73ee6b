-- The lines that answer `bounds`.
use Rattle.std.specs.Prelude.{◌≡◌, ◌⊎◌, ℕ, zero, suc, ◌<◌, ◌≤◌, nat_lt, if◌then◌else◌, List, [], ◌∷◌, ◌++◌, codes, slice_index}
use Rattle.shop_base.specs.declared.shape_fault.ShapeFault.{ShapeFault}
use Rattle.shop_base.specs.Plan.{PlannedShop, IsWellShaped}
use Rattle.shop_base.specs.ShapeFault.{IsFirstShapeFault}
use Rattle.plan_bounds.specs.declared.makespan.By.{By}
use Rattle.plan_bounds.specs.declared.makespan.By.TheVariants.{Machine, Job}
use Rattle.plan_bounds.specs.declared.makespan.LeastMakespan.{LeastMakespan}
use Rattle.plan_bounds.specs.Bounds.{ShopTimes, times_of, job_count, job_bound}
use Rattle.plan_bounds.specs.Makespan.{IsLeastMakespan}
use Rattle.people_names.specs.NameBooks.{NameBook, no_names}
use Rattle.people_names.specs.Words.{job_word, machine_word, moment_word, is_budget_printed}
use Rattle.plan_explain.specs.Arcs.{words_and}
use Rattle.command_answers.specs.declared.answer.Answer.{Answer}
use Rattle.command_answers.specs.Shapes.{IsLineOfFault}
use Rattle.command_answers.specs.Serial.{serially}

-- ` by machine M` or ` by job J`: whose bound it is
abbrev pub by_words : NameBook → By → List ℕ
by_words names (Machine m) = codes " by machine " ++ machine_word names m
by_words names (Job j) = codes " by job " ++ job_word names j

-- `makespan at least N by machine M`, or `.. by job J`
abbrev pub makespan_line : NameBook → LeastMakespan → List ℕ
makespan_line names least = words_and (codes "makespan at least " ∷ moment_word names least.at_least ∷ by_words names least.by ∷ []) (codes "\n")

-- ` budget B`, and ` never` where the bound is past it; where one that nobody gave isn't printed for people, ` no budget`
abbrev pub budget_words : NameBook → ℕ → ℕ → List ℕ
budget_words names bound budget =
    if nat_lt budget bound then codes " budget " ++ (moment_word names budget ++ codes " never")
    else if is_budget_printed names budget then codes " budget " ++ moment_word names budget
    else codes " no budget"

-- `job J leaves at least N budget B`, and ` never` where N is past B
abbrev pub bound_line : NameBook → ℕ → ℕ → ℕ → List ℕ
bound_line names j bound budget = words_and (codes "job " ∷ job_word names j ∷ codes " leaves at least " ∷ moment_word names bound ∷ budget_words names bound budget ∷ []) (codes "\n")

module _ (names : NameBook) (t : ShopTimes) (budgets : List ℕ) where
  -- the lines of the first n jobs
  abbrev pub bound_lines_below : ℕ → List ℕ
  bound_lines_below zero = []
  bound_lines_below (suc n) = bound_lines_below n ++ bound_line names n (job_bound t n) (slice_index budgets n)

  -- the line of the greatest bound, and then those of all jobs, in ascending order
  abbrev pub bound_lines : LeastMakespan → List ℕ
  bound_lines least = makespan_line names least ++ bound_lines_below (job_count t)

module _ (t : ShopTimes) (budgets : List ℕ) where
  -- none of the first n jobs has a bound past its budget
  abbrev pub CanBeInTime : ℕ → Type 0
  CanBeInTime n = (j : ℕ) → j < n → job_bound t j ≤ slice_index budgets j

  -- job j has a bound past its budget
  abbrev pub IsBoundPastBudget : ℕ → Type 0
  IsBoundPastBudget j = (j < job_count t) × (slice_index budgets j < job_bound t j)

  -- the status is 1 where a job has a bound past its budget, else 0
  abbrev pub IsBoundsStatus : ℕ → Type 0
  IsBoundsStatus status = (CanBeInTime (job_count t) × (status ≡ 0)) ⊎ ((j : ℕ) × IsBoundPastBudget j × (status ≡ 1))

-- the lines of the bounds of a shop with these releases and cleaning times, and of these budgets
pub record AreBoundLines (names : NameBook) (t : ShopTimes) (budgets : List ℕ) (answer : Answer) : Type 0 where
  pub least : LeastMakespan
  pub greatest : IsLeastMakespan t least
  pub lines : answer.text.items ≡ bound_lines names t budgets least
  pub status : IsBoundsStatus t budgets answer.status

-- the line of numbers that are too few, too many or over a limit: the first fault of the serial plan with them
pub record IsBadNumbersLine (p : PlannedShop) (answer : Answer) : Type 0 where
  pub fault : ShapeFault
  pub first : IsFirstShapeFault (serially p) fault
  pub line : IsLineOfFault (codes "bad numbers ") fault answer

-- what is answered without names, whatever the plan's orders: the lines of the bounds where its numbers are sound, else their first fault
abbrev pub AreBounds : PlannedShop → Answer → Type 0
AreBounds p answer = (IsWellShaped (serially p) × AreBoundLines no_names (times_of p) p.plan.budget answer) ⊎ IsBadNumbersLine p answer
