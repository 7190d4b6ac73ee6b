-- The words of a line for a job, a machine, a moment.
use Rattle.std.specs.Prelude.{ℕ, zero, suc, ◌+◌, ◌/◌, ◌%◌, ◌==◌, nat_lt, Bool, not, ◌&&◌, List, [], ◌∷◌, ◌++◌, decimal, slice_get, unwrap_or, Option, None, Some}
use Rattle.shop_base.specs.declared.limits.TheConstants.{MAX_MOMENT}
use Rattle.people_names.specs.declared.clock.Clock.{Clock}
use Rattle.people_names.specs.declared.clock.Clock.TheVariants.{Minutes, Seconds}
use Rattle.people_names.specs.declared.names.TheConstants.{LAST_PRINTED_DEADLINE}
use Rattle.people_names.specs.NameBooks.{NameBook}

-- the name of this number, else the number in decimal
abbrev pub word_of : List (List ℕ) → ℕ → List ℕ
word_of names n = unwrap_or (slice_get names n) (decimal n)

-- a job
abbrev pub job_word : NameBook → ℕ → List ℕ
job_word names j = word_of names.jobs j

-- a step behind a dot, where there is one
abbrev pub step_behind : Option ℕ → List ℕ
step_behind None = []
step_behind (Some k) = 46 ∷ decimal k

-- a visit of a job: the job, and the step where its visits are told apart by it
abbrev pub visit_word : NameBook → ℕ → Option ℕ → List ℕ
visit_word names j step = job_word names j ++ step_behind step

-- a machine
abbrev pub machine_word : NameBook → ℕ → List ℕ
machine_word names m = word_of names.machines m

-- a number below 100 in two digits
abbrev pub two_digits : ℕ → List ℕ
two_digits n = (48 + n / 10) ∷ (48 + n % 10) ∷ []

-- `HH:MM`, of minutes since a midnight
abbrev pub hour_and_minute : ℕ → List ℕ
hour_and_minute minutes = two_digits (minutes / 60 % 24) ++ 58 ∷ two_digits (minutes % 60)

-- `+D` from the D-th midnight on
abbrev pub day_words : ℕ → List ℕ
day_words zero = []
day_words (suc d) = 43 ∷ decimal (suc d)

-- what the clock says so many minutes after the midnight before moment 0
abbrev pub minute_words : ℕ → List ℕ
minute_words minutes = hour_and_minute minutes ++ day_words (minutes / 1440)

-- what it says so many seconds after
abbrev pub second_words : ℕ → List ℕ
second_words seconds = hour_and_minute (seconds / 60) ++ 58 ∷ two_digits (seconds % 60) ++ day_words (seconds / 86400)

-- a moment by the clock, else in decimal
abbrev pub moment_by : Option Clock → ℕ → List ℕ
moment_by None t = decimal t
moment_by (Some (Minutes begin)) t = minute_words (begin + t)
moment_by (Some (Seconds begin)) t = second_words (begin + t)

-- a moment
abbrev pub moment_word : NameBook → ℕ → List ℕ
moment_word names t = moment_by names.clock t

-- whether a budget is printed: for people one that nobody gave isn't
abbrev pub is_budget_printed : NameBook → ℕ → Bool
is_budget_printed names budget = not (names.people && (budget == MAX_MOMENT))

-- whether a deadline is printed: for people one that only comes of such budgets isn't
abbrev pub is_deadline_printed : NameBook → ℕ → Bool
is_deadline_printed names due = not (names.people && nat_lt LAST_PRINTED_DEADLINE due)
