-- The verdict on a plan: accepted, or the reason for its refusal.
use Rattle.std.specs.Prelude.{ℕ, ◌<◌, List}
use Rattle.shop_base.specs.declared.node.Node.{Node}
use Rattle.shop_base.specs.Plan.{PlannedShop, jobs, budget}
use Rattle.shop_base.specs.Cell.{start}
use Rattle.shop_base.specs.Run.{Event, IsRun, ends_in}
use Rattle.shop_base.specs.Punctual.{AreExact}
use Rattle.shop_base.specs.Ends.{IsOutByBudget}
use Rattle.shop_base.specs.Graph.{leaving, Path}
use Rattle.alt_graph.specs.Evidence.{IsCycle, IsChain}
use Rattle.alt_graph.specs.Times.{AreOrdered}
use Rattle.plan_verifier.specs.declared.verdict.Verdict.{Verdict}
use Rattle.plan_verifier.specs.declared.verdict.Verdict.TheVariants.{Accepted, Refused}
use Rattle.plan_verifier.specs.declared.verdict.Why.{Why}
use Rattle.plan_verifier.specs.declared.verdict.Why.TheVariants.{Cycle, Late}
use Rattle.plan_verifier.specs.Accepted.{VerifiedPlan, HasNoCycle, IsWithinBudget, IsGreatest}

-- the first late job of a plan without a cycle: the greatest length of a path to its leaving, which is past its budget, and such a path
pub record IsFirstLate (p : PlannedShop) (j n : ℕ) (chain : List Node) : Type 0 where
  pub acyclic : HasNoCycle p
  pub job : j < jobs p
  pub before : (i : ℕ) → i < j → IsWithinBudget p i
  pub greatest : IsGreatest p (leaving p j) n
  pub past : budget p j < n
  pub path : Path p chain (leaving p j) n
  pub evidence : IsChain p chain n

-- the reason for a refusal: a cycle, or else the first late job, with the ranks and the greatest lengths of all nodes
abbrev pub IsReason : PlannedShop → Why → Type 0
IsReason p (Cycle nodes) = IsCycle p nodes.items
IsReason p (Late job leaves chain times) = IsFirstLate p job leaves chain.items × AreOrdered p times

-- the verdict says that the plan is accepted
abbrev pub SaysAccepted : Verdict → Type 0
SaysAccepted (Accepted verified) = Unit {0}
SaysAccepted (Refused back why) = ⊥

-- where the plan is accepted
abbrev pub OnAccepted : (VerifiedPlan → Type 0) → Verdict → Type 0
OnAccepted P (Accepted verified) = P verified
OnAccepted P (Refused back why) = Unit {0}

-- where the plan is refused
abbrev pub OnRefused : (PlannedShop → Why → Type 0) → Verdict → Type 0
OnRefused P (Accepted verified) = Unit {0}
OnRefused P (Refused back why) = P back why

-- where it is refused for a cycle
abbrev pub OnCycle : (List Node → Type 0) → Verdict → Type 0
OnCycle P (Refused back (Cycle nodes)) = P nodes.items
OnCycle P (Refused back (Late job leaves chain times)) = Unit {0}
OnCycle P (Accepted verified) = Unit {0}

-- where it is refused for a late job
abbrev pub OnLate : (ℕ → ℕ → Type 0) → Verdict → Type 0
OnLate P (Refused back (Late job leaves chain times)) = P job leaves
OnLate P (Refused back (Cycle nodes)) = Unit {0}
OnLate P (Accepted verified) = Unit {0}

-- in every run whose reports are exact, some job isn't out by its budget
abbrev pub IsNeverInBudget : PlannedShop → Type 0
IsNeverInBudget p = (es : List Event) → IsRun p es → AreExact p (start p) es → (j : ℕ) × (j < jobs p) × (IsOutByBudget p (ends_in p es) j → ⊥)
