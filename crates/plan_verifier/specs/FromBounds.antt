-- What is judged of a plan from any bounds, of which a whole plan's and those of the rest of a run are two.
use Rattle.std.specs.Prelude.{◌≡◌, ℕ, ◌<◌, ◌≤◌}
use Rattle.shop_base.specs.declared.node.Node.{Node}
use Rattle.shop_base.specs.Plan.{PlannedShop, jobs, budget}
use Rattle.shop_base.specs.Graph.{leaving}
use Rattle.alt_graph.specs.Bounds.{NodeBounds, IsAheadOf}
use Rattle.alt_graph.specs.Evidence.{IsCycle}
use Rattle.alt_graph.specs.Times.{earliest_of, AreOrderedFrom, IsPathFromBy}
use Rattle.plan_verifier.specs.declared.verdict.Judged.{Judged}
use Rattle.plan_verifier.specs.declared.verdict.Judged.TheVariants.{Accepted, Refused}
use Rattle.plan_verifier.specs.declared.verdict.Why.TheVariants.{Cycle, Late}
use Rattle.plan_verifier.specs.Accepted.{IsAcceptable, IsVerified}
use Rattle.plan_verifier.specs.Verdicts.{IsReason}

module _ (p : PlannedShop) (b : NodeBounds) where
  -- each leaving ahead is within its budget
  abbrev pub MeetBudgetsFrom : (Node → ℕ) → Type 0
  MeetBudgetsFrom kept = (j : ℕ) → j < jobs p → IsAheadOf b (leaving p j) → kept (leaving p j) ≤ budget p j

  -- the first job whose leaving is ahead, and kept past its budget
  pub record IsFirstPastFrom (kept : Node → ℕ) (job : ℕ) : Type 0 where
    pub inside : job < jobs p
    pub here : IsAheadOf b (leaving p job)
    pub past : budget p job < kept (leaving p job)
    pub before : (i : ℕ) → i < job → IsAheadOf b (leaving p i) → kept (leaving p i) ≤ budget p i

  -- accepted, with ranks and the greatest lengths from the bounds, which meet the budgets; or refused by a cycle, or by the first late job, with a longest path to its leaving
  abbrev pub IsJudgedFrom : Judged → Type 0
  IsJudgedFrom (Accepted times) = AreOrderedFrom p b times × MeetBudgetsFrom (earliest_of times)
  IsJudgedFrom (Refused (Cycle nodes)) = IsCycle p nodes.items
  IsJudgedFrom (Refused (Late job leaves chain times)) =
      AreOrderedFrom p b times × IsFirstPastFrom (earliest_of times) job × (leaves ≡ earliest_of times (leaving p job)) × IsPathFromBy times (leaving p job) chain.items

-- what that is of a whole plan: a plan to be accepted, with what it comes with, or the reason for its refusal
abbrev pub IsJudgedWhole : PlannedShop → Judged → Type 0
IsJudgedWhole p (Accepted times) = IsVerified (record { planned = p; times = times }) × IsAcceptable p
IsJudgedWhole p (Refused why) = IsReason p why
