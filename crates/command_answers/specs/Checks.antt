-- The line that answers `check`: the first fault of the plan's shape, or the verdict on it.
use Rattle.std.specs.Prelude.{◌≡◌, ℕ, List, ◌⊎◌, Result, Ok, Err}
use Rattle.shop_base.specs.declared.node.Node.{Node}
use Rattle.shop_base.specs.Plan.{PlannedShop, IsWellShaped}
use Rattle.shop_base.specs.{ShapeFault.IsFirstShapeFault, Cell.start}
use Rattle.alt_graph.specs.Evidence.{IsCycle}
use Rattle.plan_verifier.specs.declared.verdict.Verdict.{Verdict}
use Rattle.plan_verifier.specs.declared.verdict.Verdict.TheVariants.{Accepted, Refused}
use Rattle.plan_verifier.specs.Accepted.{VerifiedPlan, IsAcceptable}
use Rattle.plan_verifier.specs.Seen.{judged, as_rest}
use Rattle.plan_verifier.specs.Verdicts.{OnAccepted, OnRefused, IsFirstLate, IsReason}
use Rattle.plan_explain.specs.FirstLines.{cycle_line, refused_late_line, IsAcceptedFirstLine, IsFirstLine}
use Rattle.command_answers.specs.declared.answer.Answer.{Answer}
use Rattle.command_answers.specs.declared.loading.Loaded.{Loaded}
use Rattle.command_answers.specs.declared.loading.Loaded.TheVariants.{NotShaped, Judged}
use Rattle.command_answers.specs.Shapes.{IsNotShapedLine, IsRefusedLine}

-- the status of a verdict
abbrev pub verdict_status : Verdict → ℕ
verdict_status (Accepted verified) = 0
verdict_status (Refused back why) = 1

-- the verdict on a well-shaped plan: it is accepted and acceptable, or comes back with the reason for the refusal
pub record IsVerdictOf (p : PlannedShop) (verdict : Verdict) : Type 0 where
  pub well_shaped : IsWellShaped p
  pub accepted : OnAccepted (λ verified. (verified.planned ≡ p) × IsAcceptable p) verdict
  pub refused : OnRefused (λ back why. (back ≡ p) × IsReason p why) verdict

-- what is said of a plan: the first fault of its shape, or the verdict on it
abbrev pub IsLoaded : PlannedShop → Loaded → Type 0
IsLoaded p (NotShaped fault) = IsFirstShapeFault p fault
IsLoaded p (Judged verdict) = IsVerdictOf p verdict

-- the accepted plan; what is said of any other comes back
abbrev pub accepted_in : Loaded → Result VerifiedPlan Loaded
accepted_in (Judged (Accepted verified)) = Ok verified
accepted_in (Judged (Refused back why)) = Err (Judged (Refused back why))
accepted_in (NotShaped fault) = Err (NotShaped fault)

-- the line of an accepted plan
pub record IsAcceptedLine (p : PlannedShop) (answer : Answer) : Type 0 where
  pub acceptable : IsAcceptable p
  pub line : IsAcceptedFirstLine p (start p) 0 answer.text.items
  pub good : answer.status ≡ 0

-- the line of a plan with a cycle
pub record IsCycleLine (p : PlannedShop) (answer : Answer) : Type 0 where
  pub nodes : List Node
  pub cycle : IsCycle p nodes
  pub line : answer.text.items ≡ cycle_line nodes
  pub refused : answer.status ≡ 1

-- the line of a plan with a late job
pub record IsLateLine (p : PlannedShop) (answer : Answer) : Type 0 where
  pub job : ℕ
  pub leaves : ℕ
  pub chain : List Node
  pub late : IsFirstLate p job leaves chain
  pub line : answer.text.items ≡ refused_late_line job leaves chain
  pub refused : answer.status ≡ 1

-- the line of a verdict on a well-shaped plan
abbrev pub IsVerdictLine : PlannedShop → Answer → Type 0
IsVerdictLine p answer = IsAcceptedLine p answer ⊎ (IsCycleLine p answer ⊎ IsLateLine p answer)

-- the line of the check of a plan
abbrev pub IsCheckLine : PlannedShop → Answer → Type 0
IsCheckLine p answer = IsNotShapedLine p answer ⊎ (IsWellShaped p × IsVerdictLine p answer)

-- the first line of a verdict, with its status
abbrev pub IsLineOfVerdict : Verdict → Answer → Type 0
IsLineOfVerdict verdict answer = IsFirstLine (judged verdict) (start (judged verdict)) 0 (as_rest verdict) answer.text.items × (answer.status ≡ verdict_status verdict)

-- the line of what is said of a plan: the refusal of a plan that isn't well shaped, or the first line of the verdict, with its status
abbrev pub IsLineOf : Loaded → Answer → Type 0
IsLineOf (NotShaped fault) answer = IsRefusedLine fault answer
IsLineOf (Judged verdict) answer = IsLineOfVerdict verdict answer
