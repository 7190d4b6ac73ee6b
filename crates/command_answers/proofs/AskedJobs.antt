-- A job that is asked for and is there.
use Rattle.std.proofs.Common.{ℕ, ◌<◌, List, Option, None, Some, Result, IfSome, inl}
use Rattle.shop_base.specs.Plan.{PlannedShop, jobs}
use Rattle.command_answers.specs.declared.answer.Answer.{Answer}
use Rattle.command_answers.specs.declared.command_fault.CommandFault.{CommandFault}
use Rattle.command_answers.specs.Commands.{IfThere, IfThereBy, Itself}

-- where it is one of the shop, or none is asked for, there is the step
pub if_there_by : {W B : Type 0} (Line : (Answer → Type 0) → B → Type 0) (job : Option ℕ) (p : PlannedShop) (next : W → Result B CommandFault → W → Type 0)
    (before : W) (outcome : Result B CommandFault) (after : W) → IfSome job (λ j. j < jobs p) → next before outcome after → IfThereBy Line job p next before outcome after
if_there_by Line None p next before outcome after inside is = is
if_there_by Line (Some j) p next before outcome after inside is = inl (inside, is)

-- so where its line is the answer itself
pub if_there : {W : Type 0} (gives : W → List ℕ → Result (List ℕ) CommandFault → W → Type 0) (job : Option ℕ) (p : PlannedShop) (next : W → Result Answer CommandFault → W → Type 0)
    (before : W) (outcome : Result Answer CommandFault) (after : W) → IfSome job (λ j. j < jobs p) → next before outcome after → IfThere gives job p next before outcome after
if_there gives = if_there_by Itself
