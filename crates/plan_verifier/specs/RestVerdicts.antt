-- The verdict on the rest of a run: accepted, or the reason for its refusal.
use Rattle.std.specs.Prelude.{◌≡◌, ℕ, ◌<◌, ◌≤◌, List}
use Rattle.shop_base.specs.declared.node.Node.{Node}
use Rattle.shop_base.specs.Plan.{PlannedShop, jobs, budget}
use Rattle.shop_base.specs.Cell.{Cell, IsGone}
use Rattle.shop_base.specs.Graph.{leaving}
use Rattle.shop_base.specs.Ahead.{PathAhead, MeetBudgetsAhead}
use Rattle.alt_graph.specs.Evidence.{IsCycle}
use Rattle.alt_graph.specs.Solved.{HasCycle}
use Rattle.alt_graph.specs.Times.{NodeTimes, earliest_of}
use Rattle.plan_verifier.specs.declared.verdict.Judged.{Judged}
use Rattle.plan_verifier.specs.declared.verdict.Judged.TheVariants.{Accepted, Refused}
use Rattle.plan_verifier.specs.declared.verdict.Why.TheVariants.{Cycle, Late}
use Rattle.plan_verifier.specs.Held.{BeginHeldUp}
use Rattle.plan_verifier.specs.Rest.{AreOrderedAhead, IsChainAhead, IsGreatestAhead}

module _ (p : PlannedShop) (c : Cell) (t : ℕ) where
  -- no path ahead to the leaving of job j is longer than its budget
  abbrev pub IsWithinBudgetAhead : ℕ → Type 0
  IsWithinBudgetAhead j = (nodes : List Node) (n : ℕ) → PathAhead p c t nodes (leaving p j) n → n ≤ budget p j

  -- a rest to be accepted: the graph has no cycle, and no path ahead to the leaving of a job that isn't gone is longer than its budget
  pub record IsAcceptableAhead : Type 0 where
    pub acyclic : HasCycle p → ⊥
    pub budgets : (j : ℕ) → j < jobs p → (IsGone p c j → ⊥) → IsWithinBudgetAhead j

  -- the first late job of a rest without a cycle: it isn't gone, the greatest length of a path ahead to its leaving is past its budget, and this is such a path, from a node that is held up
  pub record IsFirstLateAhead (j n : ℕ) (chain : List Node) : Type 0 where
    pub acyclic : HasCycle p → ⊥
    pub job : j < jobs p
    pub here : IsGone p c j → ⊥
    pub before : (i : ℕ) → i < j → (IsGone p c i → ⊥) → IsWithinBudgetAhead i
    pub greatest : IsGreatestAhead p c t (leaving p j) n
    pub past : budget p j < n
    pub path : PathAhead p c t chain (leaving p j) n
    pub begins : BeginHeldUp p c chain
    pub evidence : IsChainAhead p c t chain n

  -- where the rest is accepted, it is one to be accepted, with its ranks and its earliest moments, which meet the budgets
  abbrev pub IsAcceptedAhead : Judged → Type 0
  IsAcceptedAhead (Accepted times) = AreOrderedAhead p c t times × IsAcceptableAhead × MeetBudgetsAhead p c (earliest_of times)
  IsAcceptedAhead (Refused why) = Unit {0}

  -- the reason for a refusal: a cycle, or else the first late job, with the ranks and the earliest moments; there is none for a rest that is accepted
  abbrev pub IsReasonAhead : Judged → Type 0
  IsReasonAhead (Accepted times) = Unit {0}
  IsReasonAhead (Refused (Cycle nodes)) = IsCycle p nodes.items
  IsReasonAhead (Refused (Late job leaves chain times)) = IsFirstLateAhead job leaves chain.items × AreOrderedAhead p c t times × (leaves ≡ earliest_of times (leaving p job))

-- the verdict says that the rest is accepted
abbrev pub IsRestAccepted : Judged → Type 0
IsRestAccepted (Accepted times) = Unit {0}
IsRestAccepted (Refused why) = ⊥

-- where it is refused
abbrev pub OnRestRefused : Type 0 → Judged → Type 0
OnRestRefused P (Accepted times) = Unit {0}
OnRestRefused P (Refused why) = P

-- where it is refused for a cycle
abbrev pub OnRestCycle : (List Node → Type 0) → Judged → Type 0
OnRestCycle P (Accepted times) = Unit {0}
OnRestCycle P (Refused (Cycle nodes)) = P nodes.items
OnRestCycle P (Refused (Late job leaves chain times)) = Unit {0}

-- where it has earliest moments, since it has no cycle
abbrev pub OnRestTimes : (NodeTimes → Type 0) → Judged → Type 0
OnRestTimes P (Accepted times) = P times
OnRestTimes P (Refused (Cycle nodes)) = Unit {0}
OnRestTimes P (Refused (Late job leaves chain times)) = P times
