-- Paths where everything takes longer, with their lengths in thousandths of a time unit, so that nothing is rounded; and which jobs then keep their budgets.
use Rattle.std.specs.Prelude.{ℕ, ◌+◌, ◌*◌, ◌<◌, ◌≤◌, List, [], ◌∷◌, ◌++◌}
use Rattle.shop_base.specs.declared.node.Node.{Node}
use Rattle.shop_base.specs.Plan.{PlannedShop, jobs, release, budget}
use Rattle.shop_base.specs.Graph.{Arc, node, leaving}

-- a time in thousandths of a unit, where it is s thousandths longer
unfoldable pub longer : ℕ → ℕ → ℕ
longer s time = time * (1000 + s)

-- a path to a node, with its length in thousandths of a unit: it begins with a job's first place, at the job's release, and follows arcs, each s thousandths longer
pub data LongerPath (p : PlannedShop) (s : ℕ) : List Node → Node → ℕ → Type 0 where
  sets_out : (j : ℕ) → j < jobs p → LongerPath p s (node j 0 ∷ []) (node j 0) (release p j * 1000)
  goes_along : (nodes : List Node) (u v : Node) (n d : ℕ) → LongerPath p s nodes u n → Arc p u v d → LongerPath p s (nodes ++ v ∷ []) v (n + longer s d)

module _ (p : PlannedShop) (s : ℕ) where
  -- job j keeps its budget: no such path to its leaving is longer
  abbrev pub KeepsBudget : ℕ → Type 0
  KeepsBudget j = (nodes : List Node) (n : ℕ) → LongerPath p s nodes (leaving p j) n → n ≤ budget p j * 1000

  -- each job does
  abbrev pub AllKeepBudgets : Type 0
  AllKeepBudgets = (j : ℕ) → j < jobs p → KeepsBudget j

  -- job j doesn't: such a path to its leaving is longer
  pub record IsPast (j : ℕ) : Type 0 where
    pub job : j < jobs p
    pub nodes : List Node
    pub length : ℕ
    pub path : LongerPath p s nodes (leaving p j) length
    pub past : budget p j * 1000 < length

  -- it is the first that doesn't
  pub record IsFirstPast (j : ℕ) : Type 0 where
    pub past : IsPast j
    pub before : (i : ℕ) → i < j → KeepsBudget i
