-- The two kinds of arcs; the one arc of a kind into a node, and the one out of it; the longest of the arcs between two nodes.
use Rattle.std.specs.Prelude.{◌≡◌, ℕ, ◌+◌, ◌<◌, ◌≤◌, length, Option, MatchOption}
use Rattle.shop_base.specs.declared.node.Node.{Node}
use Rattle.shop_base.specs.Plan.{PlannedShop, steps, nominal, order, clean, Stands}
use Rattle.shop_base.specs.Graph.{Arc}
use Rattle.alt_graph.specs.declared.sources.ArcIn.{ArcIn}

-- a job arc leads from u to v, and has the length d
pub record IsJobArc (p : PlannedShop) (u v : Node) (d : ℕ) : Type 0 where
  pub job : u.job ≡ v.job
  pub place : v.place ≡ u.place + 1
  pub within : u.place < steps p u.job
  pub length : d ≡ nominal p u.job u.place

-- a blocking arc leads from u to v, and has the length d: on some machine u's job stands directly before v's, which v enters; u follows its step there
pub record IsBlockingArc (p : PlannedShop) (u v : Node) (d : ℕ) : Type 0 where
  pub machine : ℕ
  pub ahead : ℕ
  pub step : ℕ
  pub left : Stands p machine ahead u.job step
  pub enters : Stands p machine (ahead + 1) v.job v.place
  pub place : u.place ≡ step + 1
  pub length : d ≡ clean p machine

-- visit v stands directly behind visit u in machine m's order
abbrev pub AreNeighbours : PlannedShop → ℕ → Node → Node → Type 0
AreNeighbours p m u v = (a : ℕ) × Stands p m a u.job u.place × Stands p m (a + 1) v.job v.place

-- visit u is the last there
abbrev pub IsLast : PlannedShop → ℕ → Node → Type 0
IsLast p m u = (a : ℕ) × (a + 1 ≡ length (order p m)) × Stands p m a u.job u.place

-- an arc of this length leads from u to v, and none that is longer
pub record IsLongestArc (p : PlannedShop) (u v : Node) (d : ℕ) : Type 0 where
  pub arc : Arc p u v d
  pub longest : (e : ℕ) → Arc p u v e → e ≤ d

-- the arc into v of one kind, if there is one
abbrev pub IsArcIn : (Node → Node → ℕ → Type 0) → Node → Option ArcIn → Type 0
IsArcIn Kind v found = MatchOption found ((u : Node) (d : ℕ) → Kind u v d → ⊥) (λ s. Kind s.node v s.length)

-- the node to which the arc out of u of one kind leads, if there is one
abbrev pub IsTarget : (Node → Node → ℕ → Type 0) → Node → Option Node → Type 0
IsTarget Kind u found = MatchOption found ((v : Node) (d : ℕ) → Kind u v d → ⊥) (λ v. (d : ℕ) × Kind u v d)
