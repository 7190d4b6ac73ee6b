-- What came of the parts of a search: of one proposal or several, of a round, and of the serial plan.
use Rattle.std.specs.Prelude.{◌≡◌, ℕ, ◌<◌, List, Some, Result, Ok, Err}
use Rattle.shop_base.specs.Plan.{PlannedShop}
use Rattle.plan_verifier.specs.Accepted.{VerifiedPlan}
use Rattle.plan_seek.specs.declared.attempt.Attempt.{Attempt}
use Rattle.plan_seek.specs.declared.attempt.Attempt.TheVariants.{Accepted, InVain, NoMemory}
use Rattle.plan_seek.specs.declared.seek_fault.NotFound.{NotFound}
use Rattle.plan_seek.specs.declared.seek_fault.SeekFault.{SeekFault}
use Rattle.plan_seek.specs.declared.seek_fault.SeekFault.TheVariants.{BadNumbers, Exhausted, TooManyRounds, Memory}
use Rattle.plan_seek.specs.Orders.{Proposal}
use Rattle.plan_seek.specs.Tasks.{PlanTask, task_given_back, with_order, serial_plan, IsAccepted}
use Rattle.plan_seek.specs.Turns.{PlanSearch, MayFail, IsFirstFound, EachMayFail, EachInRound, turn_of}
use Rattle.plan_seek.specs.Search.{IsSeriallyLate}

-- an accepted plan for the task
pub record IsPlanFor (t : PlanTask) (p : PlannedShop) : Type 0 where
  pub same : p ≡ with_order t p.plan.order
  pub accepted : IsAccepted p

-- what came of the attempts: an accepted plan for the task, whose orders are such, or else the task again, where this holds, or out of memory
abbrev pub IsOutcome : PlanTask → (List (List ℕ) → Type 0) → Type 0 → Attempt → Type 0
IsOutcome t Found Failed (Accepted verified) = IsPlanFor t verified.planned × Found verified.planned.plan.order
IsOutcome t Found Failed (InVain back) = (back ≡ t) × Failed
IsOutcome t Found Failed (NoMemory error back) = back ≡ t

-- within one round: these orders may be proposed at some turn, and at each turn before it a proposal may be made that isn't accepted
pub record IsFoundIn (s : PlanSearch) (round : ℕ) (order : List (List ℕ)) : Type 0 where
  pub place : ℕ
  pub inside : place < s.proposers
  pub given : s.may (turn_of round place) (Some order)
  pub before : EachInRound s round place

-- what came of one turn: a plan with orders that may be proposed, or else a proposal may be made that isn't accepted
abbrev pub IsTurnOutcome : PlanTask → (Proposal → Type 0) → Attempt → Type 0
IsTurnOutcome t may attempt = IsOutcome t (λ order. may (Some order)) (MayFail t may) attempt

-- what came of one round: the plan that is found in it, or else at each of its turns a proposal may be made that isn't accepted
abbrev pub IsRoundOutcome : PlanSearch → ℕ → Attempt → Type 0
IsRoundOutcome s round attempt = IsOutcome s.task (IsFoundIn s round) (EachInRound s round s.proposers) attempt

-- what came of all rounds: the plan that is found first, or else at each turn a proposal may be made that isn't accepted
abbrev pub IsRoundsOutcome : PlanSearch → ℕ → Attempt → Type 0
IsRoundsOutcome s rounds attempt = IsOutcome s.task (IsFirstFound s rounds) (EachMayFail s rounds) attempt

-- why the serial plan isn't given: it is late, or memory ran out
abbrev pub IsSerialFault : PlanTask → SeekFault → Type 0
IsSerialFault t Exhausted = IsSeriallyLate t
IsSerialFault t Memory = Unit {0}
IsSerialFault t TooManyRounds = ⊥
IsSerialFault t (BadNumbers fault) = ⊥

-- what came of the serial plan: it is given, or the task comes back with the reason
abbrev pub IsSerialOutcome : PlanTask → Result VerifiedPlan NotFound → Type 0
IsSerialOutcome t (Ok verified) = (verified.planned ≡ serial_plan t) × IsAccepted verified.planned
IsSerialOutcome t (Err refused) = (task_given_back refused ≡ t) × IsSerialFault t refused.fault
