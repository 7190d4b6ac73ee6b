-- The line that answers `margin`.
use Rattle.std.specs.Prelude.{◌≡◌, ◌⊎◌}
use Rattle.shop_base.specs.Plan.{PlannedShop}
use Rattle.people_names.specs.NameBooks.{NameBook}
use Rattle.plan_verifier.specs.Accepted.{IsAcceptable}
use Rattle.plan_verifier.specs.declared.verdict.Verdict.{Verdict}
use Rattle.plan_verifier.specs.declared.verdict.Verdict.TheVariants.{Accepted, Refused}
use Rattle.plan_margin.specs.declared.margin.Margin.{Margin}
use Rattle.plan_margin.specs.Margins.{IsMargin}
use Rattle.plan_margin.specs.MarginLine.{margin_line}
use Rattle.command_answers.specs.declared.answer.Answer.{Answer}
use Rattle.command_answers.specs.Checks.{IsCycleLine, IsLateLine, IsLineOfVerdict}

-- the line of the plan's margin
pub record IsMarginLine (names : NameBook) (p : PlannedShop) (answer : Answer) : Type 0 where
  pub margin : Margin
  pub is : IsMargin p margin
  pub line : answer.text.items ≡ margin_line names margin
  pub good : answer.status ≡ 0

-- how much longer everything may take by a well-shaped plan: its margin where it is accepted, else the line of its check
abbrev pub IsMarginAnswer : NameBook → PlannedShop → Answer → Type 0
IsMarginAnswer names p answer = (IsAcceptable p × IsMarginLine names p answer) ⊎ (IsCycleLine p answer ⊎ IsLateLine p answer)

-- so by the verdict on it
abbrev pub IsMarginAnswerOf : NameBook → Verdict → Answer → Type 0
IsMarginAnswerOf names (Accepted verified) answer = IsMarginLine names verified.planned answer
IsMarginAnswerOf names (Refused back why) answer = IsLineOfVerdict (Refused back why) answer
