-- When each job leaves, and which leaves last.
use Rattle.std.specs.Prelude.{◌≡◌, ℕ, ◌<◌, ◌≤◌}
use Rattle.shop_base.specs.Plan.{PlannedShop, jobs}
use Rattle.shop_base.specs.Cell.{Cell, since, IsGone}
use Rattle.shop_base.specs.Graph.{leaving}
use Rattle.alt_graph.specs.Times.{NodeTimes, earliest_of}
use Rattle.plan_verifier.specs.Accepted.{IsGreatest}
use Rattle.plan_verifier.specs.Rest.{IsGreatestAhead}

-- the leavings by the moments of the nodes
abbrev pub leaves_in : PlannedShop → NodeTimes → ℕ → ℕ
leaves_in p times j = earliest_of times (leaving p j)

-- these are the earliest leavings: of each job the greatest length of a path to its leaving
abbrev pub AreLeavings : PlannedShop → (ℕ → ℕ) → Type 0
AreLeavings p leaves = (j : ℕ) → j < jobs p → IsGreatest p (leaving p j) (leaves j)

-- those of the rest of a run: of a job that is gone the moment at which it left, of each other job the greatest length of a path ahead to its leaving
pub record AreLeavingsAhead (p : PlannedShop) (c : Cell) (t : ℕ) (leaves : ℕ → ℕ) : Type 0 where
  pub left : (j : ℕ) → j < jobs p → IsGone p c j → leaves j ≡ since c j
  pub ahead : (j : ℕ) → j < jobs p → (IsGone p c j → ⊥) → IsGreatestAhead p c t (leaving p j) (leaves j)

-- the last of the leavings, which is the makespan (Pinedo, Scheduling: C_max): no job leaves later than n, and one leaves then
pub record IsLastLeaving (p : PlannedShop) (leaves : ℕ → ℕ) (n : ℕ) : Type 0 where
  pub bound : (j : ℕ) → j < jobs p → leaves j ≤ n
  pub reached : (j : ℕ) × (j < jobs p) × (leaves j ≡ n)

-- job j isn't gone, none of those that aren't gone leaves later, and those before it leave earlier
pub record LeavesLast (p : PlannedShop) (c : Cell) (leaves : ℕ → ℕ) (j : ℕ) : Type 0 where
  pub job : j < jobs p
  pub here : IsGone p c j → ⊥
  pub last : (i : ℕ) → i < jobs p → (IsGone p c i → ⊥) → leaves i ≤ leaves j
  pub first : (i : ℕ) → i < j → (IsGone p c i → ⊥) → leaves i < leaves j
