-- The improver that is asked for better plans.
use Rattle.std.specs.Prelude.{◌≡◌, ◌⊎◌, ℕ, List, [], ◌∷◌, Result, Err}
use Rattle.shop_base.specs.Plan.{PlannedShop}
use Rattle.plan_seek.specs.Orders.{Proposal}
use Rattle.plan_improve.specs.Settings.{Left}
use Rattle.command_answers.specs.declared.answer.Answer.{Answer}
use Rattle.command_answers.specs.declared.command_fault.CommandFault.{CommandFault}
use Rattle.command_answers.specs.declared.command_fault.CommandFault.TheVariants.{Memory}
use Rattle.command_answers.specs.Improving.{RoundsOf, SearchBy}
use Rattle.command_answers.specs.Commands.{RunPaths, RunsImprove}

-- what the improver may answer: anything
abbrev pub MayImprove : Unit {0} → PlannedShop → Left → ℕ → Proposal → Type 0
MayImprove improver plan rest round answer = Unit {0}

-- what so many rounds make of a plan, in each of which the one improver is asked
abbrev pub AsksOne : ℕ → SearchBy
AsksOne rounds = RoundsOf rounds MayImprove (tt ∷ [])

-- a better plan is sought by the one improver, unless memory runs out before any file is asked for
abbrev pub Improves : {W : Type 0} → (W → List ℕ → Result (List ℕ) CommandFault → W → Type 0) → ℕ → RunPaths → W → Result Answer CommandFault → W → Type 0
Improves gives rounds run before outcome after =
    RunsImprove gives (AsksOne rounds) rounds run before outcome after ⊎ ((outcome ≡ Err Memory) × (after ≡ before))
