-- The line of a margin.
use Rattle.std.specs.Prelude.{ℕ, List, [], ◌++◌, codes, decimal, Option, None, Some}
use Rattle.people_names.specs.NameBooks.{NameBook}
use Rattle.people_names.specs.Words.{job_word}
use Rattle.plan_margin.specs.declared.margin.Margin.{Margin}

-- ` then job J`, the first job that is late with more; nothing where none is
abbrev pub then_words : NameBook → Option ℕ → List ℕ
then_words names None = []
then_words names (Some j) = codes " then job " ++ job_word names j

-- `margin S thousandths`, and ` then job J` where some job is late with more
abbrev pub margin_line : NameBook → Margin → List ℕ
margin_line names m = codes "margin " ++ decimal m.thousandths ++ codes " thousandths" ++ then_words names m.then ++ codes "\n"
