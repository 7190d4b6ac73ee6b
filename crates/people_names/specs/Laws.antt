-- The law of no names.
use Rattle.std.specs.Prelude.{◌≡◌, ℕ, true, decimal}
use Rattle.people_names.specs.NameBooks.{no_names}
use Rattle.people_names.specs.Words.{job_word, machine_word, moment_word, is_budget_printed, is_deadline_printed}

-- how a number is printed without names
pub record IsPrintedAsItIs (n : ℕ) : Type 0 where
  pub job : job_word no_names n ≡ decimal n
  pub machine : machine_word no_names n ≡ decimal n
  pub moment : moment_word no_names n ≡ decimal n
  pub budget : is_budget_printed no_names n ≡ true
  pub deadline : is_deadline_printed no_names n ≡ true

-- without names all is printed as it is
abbrev pub NoNamesLeaveNumbers : Type 0
NoNamesLeaveNumbers = (n : ℕ) → IsPrintedAsItIs n
