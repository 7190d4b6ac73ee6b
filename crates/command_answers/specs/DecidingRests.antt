-- The answers of the command `decide` of the rest of a run.
use Rattle.std.specs.Prelude.{◌≡◌, ◌⊎◌, ℕ, List, Option, None, Some, Result, Ok, Err, codes}
use Rattle.shop_base.specs.declared.shape_fault.ShapeFault.{ShapeFault}
use Rattle.shop_base.specs.declared.shape_fault.ShapeFault.TheVariants.{OrderCount, JobOutOfRange, NotOnRoute, JobTwice, JobMissing}
use Rattle.shop_base.specs.Plan.{PlannedShop}
use Rattle.shop_base.specs.Cell.{Cell}
use Rattle.shop_base.specs.ShapeFault.{IsFirstShapeFault}
use Rattle.text_lines.specs.Lines.{ended_lines}
use Rattle.people_names.specs.NameBooks.{NameBook}
use Rattle.plan_text.specs.declared.plan_fault.PlanFault.TheVariants.{NotReadBack}
use Rattle.plan_decide.specs.declared.aim.Aim.{Aim}
use Rattle.plan_decide.specs.Pasts.{HoldsFrom, whole_case}
use Rattle.command_answers.specs.declared.answer.Answer.{Answer}
use Rattle.command_answers.specs.declared.command_fault.CommandFault.{CommandFault}
use Rattle.command_answers.specs.declared.command_fault.CommandFault.TheVariants.{Plan, Memory}
use Rattle.command_answers.specs.Deciding.{IsDecisionAnswer, IsDecisionText, IsFoundUnread}
use Rattle.command_answers.specs.Rests.{RecordsRun, IsRunRefused}
use Rattle.command_answers.specs.Shapes.{IsLineOfFault}
use Rattle.command_answers.specs.Steps.{IsOrMemory}

-- the words before the first fault of a plan: its orders don't fit, or its numbers are bad
abbrev pub refusal : ShapeFault → List ℕ
refusal OrderCount = codes "not shaped "
refusal (JobOutOfRange machine place) = codes "not shaped "
refusal (NotOnRoute machine place) = codes "not shaped "
refusal (JobTwice machine place) = codes "not shaped "
refusal (JobMissing machine job) = codes "not shaped "
refusal fault = codes "bad numbers "

-- the line of a plan that isn't well shaped for its shop
pub record IsUnfitLine (p : PlannedShop) (answer : Answer) : Type 0 where
  pub fault : ShapeFault
  pub first : IsFirstShapeFault p fault
  pub line : IsLineOfFault (refusal fault) fault answer

module _ (names : NameBook) (aim : Aim) where
  -- what is answered of the rest of a run of a plan, from a cell and a present moment on: what is decided of it, that the plan that was found isn't read back, or that memory ran out
  abbrev pub IsDecisionFrom : PlannedShop → Cell → ℕ → Result Answer CommandFault → Type 0
  IsDecisionFrom p c t (Ok answer) = HoldsFrom p c t (λ case. IsDecisionText names case aim answer)
  IsDecisionFrom p c t (Err Memory) = Unit {0}
  IsDecisionFrom p c t (Err (Plan fault)) = (fault ≡ NotReadBack) × HoldsFrom p c t (λ case. IsFoundUnread case aim)
  IsDecisionFrom p c t (Err other) = ⊥

-- what is answered of a plan that is well shaped, where the job that is asked for is one of its shop: that of the rest of the run that the lines record; or the line of the log's first fault, or of a moment that is past, or that memory ran out
abbrev pub IsRestDecisionAnswer : NameBook → Option ℕ → List (List ℕ) → PlannedShop → Aim → Result Answer CommandFault → Type 0
IsRestDecisionAnswer names at lines p aim outcome = RecordsRun (λ c entries t. IsDecisionFrom names aim p c t outcome) at lines p ⊎ IsOrMemory (IsRunRefused at lines p) outcome

-- what is answered there where a run is: so of its log, or before it has begun of any plan with these numbers
abbrev pub IsRunDecision : NameBook → Aim → Option ℕ → PlannedShop → Option (List ℕ) → Result Answer CommandFault → Type 0
IsRunDecision names aim at p None = IsDecisionAnswer names (whole_case p) aim
IsRunDecision names aim at p (Some log) = IsRestDecisionAnswer names at (ended_lines log) p aim
