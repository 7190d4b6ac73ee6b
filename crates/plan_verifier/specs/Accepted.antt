-- Which plans are to be accepted, the longest paths of one, and what its runs come to.
use Rattle.std.specs.Prelude.{ℕ, ◌<◌, ◌≤◌, List, ◌≡◌}
use Rattle.shop_base.specs.declared.node.Node.{Node}
use Rattle.shop_base.specs.declared.report.Report.{Report}
use Rattle.shop_base.specs.Plan.{PlannedShop, jobs, budget}
use Rattle.shop_base.specs.Cell.{Cell, start, since, IsGone}
use Rattle.shop_base.specs.Run.{Event}
use Rattle.shop_base.specs.Controlled.{IsControlledRun}
use Rattle.shop_base.specs.Punctual.{ArePunctual, AreExact}
use Rattle.shop_base.specs.Graph.{leaving, IsSimpleCycle, Path, IsSchedule, MeetBudgets}
use Rattle.alt_graph.specs.Times.{NodeTimes, rank_of, earliest_of, IsPathInTime, AreOrdered}

-- no arcs make a cycle
abbrev pub HasNoCycle : PlannedShop → Type 0
HasNoCycle p = (nodes : List Node) → IsSimpleCycle p nodes → ⊥

-- no path to the leaving of job j is longer than its budget
abbrev pub IsWithinBudget : PlannedShop → ℕ → Type 0
IsWithinBudget p j = (nodes : List Node) (n : ℕ) → Path p nodes (leaving p j) n → n ≤ budget p j

-- a plan to be accepted: its graph has no cycle, and no path to a job's leaving is longer than its budget
pub record IsAcceptable (p : PlannedShop) : Type 0 where
  pub acyclic : HasNoCycle p
  pub budgets : (j : ℕ) → j < jobs p → IsWithinBudget p j

-- the greatest length of a path to the node
pub record IsGreatest (p : PlannedShop) (v : Node) (n : ℕ) : Type 0 where
  pub reached : (nodes : List Node) × Path p nodes v n
  pub longest : (nodes : List Node) (k : ℕ) → Path p nodes v k → k ≤ n

-- a path of the greatest length to the node
pub record IsLongestTo (p : PlannedShop) (v : Node) (nodes : List Node) : Type 0 where
  pub size : ℕ
  pub path : Path p nodes v size
  pub greatest : IsGreatest p v size

-- the makespan (Pinedo, Scheduling: C_max): no path to a leaving is longer than n, and one is as long
pub record IsMakespan (p : PlannedShop) (n : ℕ) : Type 0 where
  pub bound : (j : ℕ) (nodes : List Node) (k : ℕ) → j < jobs p → Path p nodes (leaving p j) k → k ≤ n
  pub reached : (j : ℕ) × (j < jobs p) × (nodes : List Node) × Path p nodes (leaving p j) n

-- in every controlled run whose reports are punctual, job j, once it is gone, is gone since at most moment n
abbrev pub IsNeverGoneAfter : PlannedShop → ℕ → ℕ → Type 0
IsNeverGoneAfter p j n = (rs : List Report) (es : List Event) (end : Cell) → IsControlledRun p rs es end → ArePunctual p (start p) es → IsGone p end j → since end j ≤ n

-- in every controlled run whose reports are exact, job j, once it is gone, is gone since exactly moment n
abbrev pub IsGoneJustAt : PlannedShop → ℕ → ℕ → Type 0
IsGoneJustAt p j n = (rs : List Report) (es : List Event) (end : Cell) → IsControlledRun p rs es end → AreExact p (start p) es → IsGone p end j → since end j ≡ n

-- an accepted plan, with a rank and a moment for each node
pub record VerifiedPlan : Type 0 where
  pub planned : PlannedShop
  pub times : NodeTimes

-- the moment kept for a node of an accepted plan: the greatest length of a path to it
abbrev pub kept_at : VerifiedPlan → Node → ℕ
kept_at v = earliest_of v.times

-- the rank of a node of an accepted plan
abbrev pub rank_in : VerifiedPlan → Node → ℕ
rank_in v = rank_of v.times

-- the nodes are a path to the leaving of job j, as long as the moment kept for it
abbrev pub IsPathToLeaving : VerifiedPlan → ℕ → List Node → Type 0
IsPathToLeaving v j = IsPathInTime v.planned v.times (leaving v.planned j)

-- what an accepted plan comes with: a schedule, whose moments are the greatest lengths of paths, with each leaving within its budget
pub record IsVerified (v : VerifiedPlan) : Type 0 where
  pub schedule : IsSchedule v.planned (rank_in v) (kept_at v)
  pub budgets : MeetBudgets v.planned (kept_at v)
  pub ordered : AreOrdered v.planned v.times
