-- The greatest lengths of paths where everything takes longer, while they are filled in.
use Rattle.std.specs.Prelude.{◌≡◌, ℕ, ◌+◌, ◌*◌, ◌<◌, ◌≤◌, ◌⊎◌, List, Option}
use Rattle.shop_base.specs.declared.node.Node.{Node}
use Rattle.shop_base.specs.Plan.{PlannedShop, jobs, release, budget}
use Rattle.shop_base.specs.Graph.{Arc, IsNode, node, leaving}
use Rattle.alt_graph.specs.LatestRows.{HasRows, moment_in}
use Rattle.plan_margin.specs.declared.margin.TheConstants.{MAX_MARGIN}
use Rattle.plan_margin.specs.Longer.{longer, LongerPath}
use Rattle.plan_margin.specs.Order.{IsAt}

-- no length of a path to a node from which an arc leads is greater
abbrev pub MAX_LENGTH : ℕ
MAX_LENGTH = 1000000000000 + 11000000000 * 20200

-- n is no less than the release at a job's first place, and than each arc into v of a kind asks for, and is one of these
pub record IsLength (p : PlannedShop) (s : ℕ) (kept : Node → ℕ) (Into : Node → Node → ℕ → Type 0) (v : Node) (n : ℕ) : Type 0 where
  pub begins : v.place ≡ 0 → release p v.job * 1000 ≤ n
  pub arcs : (u : Node) (d : ℕ) → Into u v d → kept u + longer s d ≤ n
  pub attained : ((v.place ≡ 0) × (n ≡ release p v.job * 1000)) ⊎ ((u : Node) × (d : ℕ) × Into u v d × (n ≡ kept u + longer s d))

-- so is the length of each node
abbrev pub AreLengths : PlannedShop → ℕ → (Node → ℕ) → Type 0
AreLengths p s kept = (v : Node) → IsNode p v → IsLength p s kept (Arc p) v (kept v)

-- no length of a node from which an arc leads to v is greater than any can be
abbrev pub AreShort : PlannedShop → (Node → ℕ) → Node → Type 0
AreShort p kept v = (u : Node) (d : ℕ) → Arc p u v d → kept u ≤ MAX_LENGTH

-- node v is next: of the nodes from which arcs lead to it the lengths are known
pub record IsNext (p : PlannedShop) (firsts lengths : List ℕ) (s : ℕ) (v : Node) : Type 0 where
  pub node : IsNode p v
  pub rows : HasRows p firsts lengths
  pub most : s ≤ MAX_MARGIN
  pub short : AreShort p (moment_in firsts lengths) v

-- so are the lengths of the nodes at the first n places, and none is greater than its place allows
pub record AreLengthsBelow (p : PlannedShop) (s : ℕ) (kept : Node → ℕ) (nodes : List (Option Node)) (n : ℕ) : Type 0 where
  pub lengths : (i : ℕ) (v : Node) → i < n → IsAt nodes i v → IsLength p s kept (Arc p) v (kept v)
  pub short : (i : ℕ) (v : Node) → i < n → IsAt nodes i v → kept v ≤ 1000000000000 + 11000000000 * i

-- each is the length of a path to its node
abbrev pub AreReached : PlannedShop → ℕ → (Node → ℕ) → Type 0
AreReached p s kept = (v : Node) → IsNode p v → (nodes : List Node) × LongerPath p s nodes v (kept v)

module _ (p : PlannedShop) (kept : Node → ℕ) where
  -- each leaving is within its budget, in thousandths
  abbrev pub AreAllWithin : Type 0
  AreAllWithin = (j : ℕ) → j < jobs p → kept (leaving p j) ≤ budget p j * 1000

  -- job j's is the first that isn't
  pub record IsFirstOver (j : ℕ) : Type 0 where
    pub job : j < jobs p
    pub over : budget p j * 1000 < kept (leaving p j)
    pub before : (i : ℕ) → i < j → kept (leaving p i) ≤ budget p i * 1000

-- moments in thousandths that respect the releases, arcs that are s thousandths longer, and the budgets
pub record IsLongerSchedule (p : PlannedShop) (s : ℕ) (kept : Node → ℕ) : Type 0 where
  pub releases : (j : ℕ) → j < jobs p → release p j * 1000 ≤ kept (node j 0)
  pub arcs : (u v : Node) (d : ℕ) → Arc p u v d → kept u + longer s d ≤ kept v
  pub budgets : AreAllWithin p kept

-- there are such moments
abbrev pub HasLongerSchedule : PlannedShop → ℕ → Type 0
HasLongerSchedule p s = (kept : Node → ℕ) × IsLongerSchedule p s kept
