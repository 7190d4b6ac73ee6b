-- The planners that are asked for a plan.
use Rattle.std.specs.Prelude.{◌≡◌, ◌⊎◌, ℕ, zero, suc, List, Some, Result, Err}
use Rattle.shop_base.specs.Shop.{JobShop}
use Rattle.plan_seek.specs.Orders.{Proposal, shifted_order}
use Rattle.plan_seek.specs.Tasks.{PlanTask}
use Rattle.plan_seek.specs.Turns.{PlanSearch}
use Rattle.command_answers.specs.declared.answer.Answer.{Answer}
use Rattle.command_answers.specs.declared.command_fault.CommandFault.{CommandFault}
use Rattle.command_answers.specs.declared.command_fault.CommandFault.TheVariants.{Memory}
use Rattle.command_answers.specs.Commands.{InputPaths, RunsPlan}

-- what the planner of a place may propose: the first one anything, and the second one the jobs in one row, shifted by the round
abbrev pub MayPlanAt : ℕ → JobShop → ℕ → Proposal → Type 0
MayPlanAt zero shop round proposal = Unit {0}
MayPlanAt (suc zero) shop round proposal = proposal ≡ Some (shifted_order shop round)
MayPlanAt (suc (suc place)) shop round proposal = ⊥

-- the search for a plan for this task by the two planners
abbrev pub search_by_two : PlanTask → PlanSearch
search_by_two t = record { task = t; proposers = 2; may = λ turn. MayPlanAt turn.proposer t.shop turn.round }

-- a plan is sought by the two planners, unless memory runs out before any file is asked for
abbrev pub SeeksPlan : {W : Type 0} → (W → List ℕ → Result (List ℕ) CommandFault → W → Type 0) → ℕ → InputPaths → W → Result Answer CommandFault → W → Type 0
SeeksPlan gives rounds inputs before outcome after =
    RunsPlan gives search_by_two rounds inputs before outcome after ⊎ ((outcome ≡ Err Memory) × (after ≡ before))
