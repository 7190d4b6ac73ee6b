-- A job that is asked for by its number.
use Rattle.std.specs.Prelude.{◌≡◌, ℕ, List, ◌++◌, codes, decimal}
use Rattle.command_answers.specs.declared.answer.Answer.{Answer}

-- `bad numbers JobOutOfRange job J`
abbrev pub no_job_line : ℕ → List ℕ
no_job_line j = codes "bad numbers JobOutOfRange job " ++ decimal j ++ codes "\n"

-- the line of a job that isn't one of the shop
abbrev pub IsNoJobLine : ℕ → Answer → Type 0
IsNoJobLine j answer = (answer.text.items ≡ no_job_line j) × (answer.status ≡ 1)
