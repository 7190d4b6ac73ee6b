-- The lines of what `decide` says.
use Rattle.std.specs.Prelude.{◌==◌, ℕ, if◌then◌else◌, Bool, List, [], ◌++◌, codes, decimal}
use Rattle.std.specs.List.{flat_map}
use Rattle.people_names.specs.NameBooks.{NameBook}
use Rattle.people_names.specs.Words.{job_word}
use Rattle.plan_decide.specs.declared.decided.Within.{Within}
use Rattle.plan_decide.specs.declared.decided.Excluded.{Excluded}
use Rattle.plan_decide.specs.declared.decided.Excluded.TheVariants.{Alone, Pair, Several}
use Rattle.plan_decide.specs.Excluding.{jobs_in}

-- the words of the jobs, with a blank before each
abbrev pub words_of_jobs : NameBook → List ℕ → List ℕ
words_of_jobs names js = flat_map (λ j. codes " " ++ job_word names j) js

-- ` or fewer`, or nothing
abbrev pub fewer_if : Bool → List ℕ
fewer_if or_fewer = if or_fewer then codes " or fewer" else []

-- ` or fewer` after two jobs or several, where some of them may not be needed
abbrev pub fewer_words : Excluded → List ℕ
fewer_words (Alone j) = []
fewer_words (Pair i j or_fewer) = fewer_if or_fewer
fewer_words (Several js or_fewer) = fewer_if or_fewer

-- the words of the jobs that exclude each other, and that
abbrev pub excluded_words : NameBook → Excluded → List ℕ
excluded_words names e = words_of_jobs names (jobs_in e) ++ fewer_words e

-- `never jobs J0 J1 ..`
abbrev pub never_line : NameBook → Excluded → List ℕ
never_line names e = codes "never jobs" ++ excluded_words names e ++ codes "\n"

-- one such line for each
abbrev pub never_lines : NameBook → List Excluded → List ℕ
never_lines names es = flat_map (never_line names) es

-- `# least X`
abbrev pub least_line : ℕ → List ℕ
least_line x = codes "# least " ++ decimal x ++ codes "\n"

-- `# at most X at least B`
abbrev pub bounds_line : ℕ → ℕ → List ℕ
bounds_line x b = codes "# at most " ++ decimal x ++ codes " at least " ++ decimal b ++ codes "\n"

-- the line of an objective, which is known where both are the same
abbrev pub within_line : Within → List ℕ
within_line w = if w.at_least == w.at_most then least_line w.at_most else bounds_line w.at_most w.at_least
