-- The line that answers `digest`.
use Rattle.std.specs.Prelude.{◌≡◌, ◌⊎◌, ℕ, List, ◌++◌, codes}
use Rattle.shop_base.specs.Plan.{PlannedShop, IsWellShaped}
use Rattle.event_lines.specs.RunDigits.{digits_words}
use Rattle.run_log.specs.Digits.{digits_of}
use Rattle.command_answers.specs.declared.answer.Answer.{Answer}
use Rattle.command_answers.specs.Shapes.{IsNotShapedLine}

-- `plan P shop S`, with the digits by which a log knows the plan and its shop
abbrev pub digest_line : PlannedShop → List ℕ
digest_line p = digits_words (digits_of p.shop p.plan) ++ codes "\n"

-- the line of the digits of a well-shaped plan
pub record IsDigestLine (p : PlannedShop) (answer : Answer) : Type 0 where
  pub well_shaped : IsWellShaped p
  pub line : answer.text.items ≡ digest_line p
  pub good : answer.status ≡ 0

-- what is answered: the line of the digits, or that of the first fault of the plan's shape
abbrev pub IsDigestAnswer : PlannedShop → Answer → Type 0
IsDigestAnswer p answer = IsDigestLine p answer ⊎ IsNotShapedLine p answer
