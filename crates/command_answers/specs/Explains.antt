-- The lines that answer `explain`.
use Rattle.std.specs.Prelude.{◌⊎◌, None}
use Rattle.shop_base.specs.Plan.{PlannedShop}
use Rattle.plan_verifier.specs.{Seen.judged, Verdicts.OnRefused, Verdicts.IsReason}
use Rattle.people_names.specs.NameBooks.{no_names}
use Rattle.command_answers.specs.declared.answer.Answer.{Answer}
use Rattle.command_answers.specs.declared.loading.Loaded.{Loaded}
use Rattle.command_answers.specs.declared.loading.Loaded.TheVariants.{NotShaped, Judged}
use Rattle.command_answers.specs.declared.rests.PlanAnswer.TheVariants.{Reasons}
use Rattle.command_answers.specs.Shapes.{IsNotShapedLine, IsRefusedLine}
use Rattle.command_answers.specs.Rests.{AnswersPlan}

-- why a plan is accepted or refused, without names: the line of the first fault of its shape, or the explanation of the verdict on it
abbrev pub IsExplanation : PlannedShop → Answer → Type 0
IsExplanation p answer = IsNotShapedLine p answer ⊎ AnswersPlan no_names (Reasons None) p answer

-- a refusal has its evidence
abbrev pub HasEvidence : Loaded → Type 0
HasEvidence (NotShaped fault) = Unit {0}
HasEvidence (Judged verdict) = OnRefused IsReason verdict

-- the explanation of what is said of a plan
abbrev pub IsExplanationOf : Loaded → Answer → Type 0
IsExplanationOf (NotShaped fault) answer = IsRefusedLine fault answer
IsExplanationOf (Judged verdict) answer = AnswersPlan no_names (Reasons None) (judged verdict) answer
