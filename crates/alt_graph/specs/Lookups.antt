-- What is looked up in a plan's graph: the numbers of nodes, and the visits next to each other in the orders.
use Rattle.std.specs.Prelude.{◌≡◌, ℕ, ◌+◌, ◌*◌, ◌<◌, ◌≤◌, List, length, slice_index}
use Rattle.shop_base.specs.declared.node.Node.{Node}
use Rattle.shop_base.specs.declared.limits.TheConstants.{MAX_JOBS, MAX_MACHINES}
use Rattle.shop_base.specs.Plan.{PlannedShop, jobs, machines, steps, order, Stands, IsWellShaped}
use Rattle.shop_base.specs.Graph.{node}
use Rattle.alt_graph.specs.declared.lookups.Lookups.{Lookups}
use Rattle.alt_graph.specs.declared.lookups.TheConstants.{NOBODY}
use Rattle.alt_graph.specs.Layout.{number_of}
use Rattle.alt_graph.specs.Places.{node_at}

-- the nodes of each job follow those of the job before it
pub record AreFirsts (p : PlannedShop) (firsts : List ℕ) : Type 0 where
  pub size : length firsts ≡ jobs p + 1
  pub begins : slice_index firsts 0 ≡ 0
  pub follows : (j : ℕ) → j < jobs p → slice_index firsts (j + 1) ≡ slice_index firsts j + (steps p j + 1)
  pub few : slice_index firsts (jobs p) ≤ MAX_JOBS * (MAX_MACHINES + 1)

-- no visit stands at this place of the list
abbrev pub IsGap : List Node → ℕ → Type 0
IsGap visits i = (node_at visits i).job ≡ NOBODY

-- the visit at place a of machine m's order stands there
abbrev pub IsVisitAt : PlannedShop → ℕ → ℕ → List Node → ℕ → Type 0
IsVisitAt p m a visits i = Stands p m a (node_at visits i).job (node_at visits i).place

-- between the gap at this place and the next one stand machine m's visits, as its order has them, and each finds its place by its number
pub record AreVisitsOf (p : PlannedShop) (firsts : List ℕ) (visits : List Node) (places : List ℕ) (m gap : ℕ) : Type 0 where
  pub ahead : IsGap visits gap
  pub stand : (a : ℕ) → a < length (order p m) → IsVisitAt p m a visits (gap + (a + 1))
  pub behind : IsGap visits (gap + (length (order p m) + 1))
  pub within : gap + (length (order p m) + 1) < length visits
  pub found : (a j k : ℕ) → Stands p m a j k → slice_index places (number_of firsts (node j k)) ≡ gap + (a + 1)

-- of a well-shaped plan: the numbers of the jobs' first nodes, a row for each node, and the visits of each machine
pub record AreLookups (p : PlannedShop) (lookups : Lookups) : Type 0 where
  pub shaped : IsWellShaped p
  pub firsts : AreFirsts p lookups.firsts.items
  pub rows : length lookups.places.items ≡ slice_index lookups.firsts.items (jobs p)
  pub visits : (m : ℕ) → m < machines p → (gap : ℕ) × AreVisitsOf p lookups.firsts.items lookups.visits.items lookups.places.items m gap
