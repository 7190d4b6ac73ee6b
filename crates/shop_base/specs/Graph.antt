-- The graph of a plan: nodes, arcs and their lengths, paths, cycles, and the ranks and moments that fit it
-- (Mascis and Pacciarelli, EJOR 143, 2002).
use Rattle.std.specs.Prelude.{◌≢◌, ℕ, ◌+◌, ◌<◌, ◌≤◌, List, [], ◌∷◌, ◌++◌, length}
use Rattle.shop_base.specs.declared.node.Node.{Node}
use Rattle.shop_base.specs.Plan.{PlannedShop, jobs, steps, nominal, release, budget, clean, order, job_at, Stands, IsWellShaped}

-- job j's entry of step k, or, where k is the length of its route, its leaving
abbrev pub node : ℕ → ℕ → Node
node j k = record { job = j; place = k }

-- the leaving of job j
abbrev pub leaving : PlannedShop → ℕ → Node
leaving p j = node j (steps p j)

-- the node is of the shop
pub record IsNode (p : PlannedShop) (v : Node) : Type 0 where
  pub job : v.job < jobs p
  pub place : v.place ≤ steps p v.job

-- an arc and its length (Mascis and Pacciarelli, EJOR 143, 2002): a node is at least that much later than the one before it
pub data Arc (p : PlannedShop) : Node → Node → ℕ → Type 0 where
  -- the next place of a job comes after the nominal time of its step
  job_arc : (j k : ℕ) → k < steps p j → Arc p (node j k) (node j (k + 1)) (nominal p j k)
  -- a job enters a machine after the job directly before it in the order has left it, by the cleaning time
  blocking_arc : (m a i k j l : ℕ) → Stands p m a i k → Stands p m (a + 1) j l → Arc p (node i (k + 1)) (node j l) (clean p m)

-- there is an arc
abbrev pub HasArc : PlannedShop → Node → Node → Type 0
HasArc p u v = (d : ℕ) × Arc p u v d

-- a path to a node, with its length: it begins with a job's first place, at the job's release, and follows arcs
pub data Path (p : PlannedShop) : List Node → Node → ℕ → Type 0 where
  begins : (j : ℕ) → j < jobs p → Path p (node j 0 ∷ []) (node j 0) (release p j)
  follows : (nodes : List Node) (u v : Node) (n d : ℕ) → Path p nodes u n → Arc p u v d → Path p (nodes ++ v ∷ []) v (n + d)

-- arcs lead from u along the list, and from its end to v
abbrev pub ArcsLead : PlannedShop → Node → List Node → Node → Type 0
ArcsLead p u [] v = HasArc p u v
ArcsLead p u (w ∷ ws) v = HasArc p u w × ArcsLead p w ws v

-- the node isn't in the list
abbrev pub IsNew : Node → List Node → Type 0
IsNew u [] = Unit {0}
IsNew u (w ∷ ws) = (u ≢ w) × IsNew u ws

-- no node is in the list twice
abbrev pub AreDistinct : List Node → Type 0
AreDistinct [] = Unit {0}
AreDistinct (u ∷ us) = IsNew u us × AreDistinct us

-- a simple cycle: distinct nodes, with arcs from each to the next and from the last to the first
abbrev pub IsSimpleCycle : PlannedShop → List Node → Type 0
IsSimpleCycle p [] = ⊥
IsSimpleCycle p (u ∷ us) = AreDistinct (u ∷ us) × ArcsLead p u us u

-- the ranks rise strictly along every arc
abbrev pub RanksRise : PlannedShop → (Node → ℕ) → Type 0
RanksRise p rank = (u v : Node) (d : ℕ) → Arc p u v d → rank u < rank v

-- the moments respect the release of each job and the length of every arc
pub record MomentsFit (p : PlannedShop) (kept : Node → ℕ) : Type 0 where
  pub releases : (j : ℕ) → j < jobs p → release p j ≤ kept (node j 0)
  pub arcs : (u v : Node) (d : ℕ) → Arc p u v d → kept u + d ≤ kept v

-- each leaving is within its budget
abbrev pub MeetBudgets : PlannedShop → (Node → ℕ) → Type 0
MeetBudgets p kept = (j : ℕ) → j < jobs p → kept (leaving p j) ≤ budget p j

-- a schedule of a well-shaped plan: ranks that rise along every arc, and moments that fit
pub record IsSchedule (p : PlannedShop) (rank kept : Node → ℕ) : Type 0 where
  pub shaped : IsWellShaped p
  pub ranks : RanksRise p rank
  pub moments : MomentsFit p kept

-- the serial plan's order: each machine takes its jobs in ascending order, each for all its visits
abbrev pub IsSerial : PlannedShop → Type 0
IsSerial p = (m a : ℕ) → a + 1 < length (order p m) → job_at p m a ≤ job_at p m (a + 1)
