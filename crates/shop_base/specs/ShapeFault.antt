-- What is wrong first with the shape of a plan.
use Rattle.std.specs.Prelude.{◌≡◌, ◌≢◌, ℕ, ◌<◌, ◌≤◌, length}
use Rattle.shop_base.specs.declared.limits.TheConstants.{MAX_RELEASE, MAX_MOMENT, MAX_CLEAN}
use Rattle.shop_base.specs.declared.shape_fault.ShapeFault.{ShapeFault}
use Rattle.shop_base.specs.declared.shape_fault.ShapeFault.TheVariants.{ReleaseCount, BudgetCount, OrderCount, CleanCount, ReleaseTooLarge, BudgetTooLarge, CleanTooLarge, JobOutOfRange, NotOnRoute, JobTwice, JobMissing}
use Rattle.shop_base.specs.Plan.{PlannedShop, jobs, machines, steps, release, budget, clean, order, job_at, visits_before, places_before, Visits, HasCleanCount, HasCounts, IsWithinLimits, IsOrder}

-- the route of job j visits machine m
abbrev pub IsVisitor : PlannedShop → ℕ → ℕ → Type 0
IsVisitor p m j = (k : ℕ) × Visits p j k m

-- how often job j visits machine m
abbrev pub visit_count : PlannedShop → ℕ → ℕ → ℕ
visit_count p m j = visits_before p j m (steps p j)

-- how often it stands in the machine's order
abbrev pub place_count : PlannedShop → ℕ → ℕ → ℕ
place_count p m j = places_before p m j (length (order p m))

-- the job at place a of the order of machine m visits it more often than it stands before
abbrev pub IsGoodPlace : PlannedShop → ℕ → ℕ → Type 0
IsGoodPlace p m a = places_before p m (job_at p m a) a < visit_count p m (job_at p m a)

-- so does the job at each place of that order
abbrev pub AreGoodPlaces : PlannedShop → ℕ → Type 0
AreGoodPlaces p m = (a : ℕ) → a < length (order p m) → IsGoodPlace p m a

-- the counts, the limits and the orders before machine m are sound
pub record IsMachineReached (p : PlannedShop) (m : ℕ) : Type 0 where
  pub in_range : m < machines p
  pub counts : HasCounts p
  pub limits : IsWithinLimits p
  pub before : (n : ℕ) → n < m → IsOrder p n

-- so are the places before place a
pub record IsPlaceReached (p : PlannedShop) (m a : ℕ) : Type 0 where
  pub reached : IsMachineReached p m
  pub in_range : a < length (order p m)
  pub before : (b : ℕ) → b < a → IsGoodPlace p m b

-- so are all places, and no job before job j is missing
pub record IsJobReached (p : PlannedShop) (m j : ℕ) : Type 0 where
  pub reached : IsMachineReached p m
  pub places : AreGoodPlaces p m
  pub before : (i : ℕ) → i < j → visit_count p m i ≤ place_count p m i

-- each of the first n numbers is within the limit
abbrev pub EachIsWithin : (ℕ → ℕ) → ℕ → ℕ → Type 0
EachIsWithin f n limit = (i : ℕ) → i < n → f i ≤ limit

-- this is what is wrong first with the shape of a plan
abbrev pub IsFirstShapeFault : PlannedShop → ShapeFault → Type 0
IsFirstShapeFault p ReleaseCount = length p.plan.release ≢ jobs p
IsFirstShapeFault p BudgetCount = (length p.plan.release ≡ jobs p) × (length p.plan.budget ≢ jobs p)
IsFirstShapeFault p OrderCount =
    (length p.plan.release ≡ jobs p) × (length p.plan.budget ≡ jobs p) × (length p.plan.order ≢ machines p)
IsFirstShapeFault p CleanCount =
    (length p.plan.release ≡ jobs p)
    × (length p.plan.budget ≡ jobs p)
    × (length p.plan.order ≡ machines p)
    × (HasCleanCount p.plan.clean (machines p) → ⊥)
IsFirstShapeFault p (ReleaseTooLarge job) =
    HasCounts p × (job < jobs p) × EachIsWithin (release p) job MAX_RELEASE × (MAX_RELEASE < release p job)
IsFirstShapeFault p (BudgetTooLarge job) =
    HasCounts p
    × EachIsWithin (release p) (jobs p) MAX_RELEASE
    × (job < jobs p)
    × EachIsWithin (budget p) job MAX_MOMENT
    × (MAX_MOMENT < budget p job)
IsFirstShapeFault p (CleanTooLarge machine) =
    HasCounts p
    × EachIsWithin (release p) (jobs p) MAX_RELEASE
    × EachIsWithin (budget p) (jobs p) MAX_MOMENT
    × (machine < machines p)
    × EachIsWithin (clean p) machine MAX_CLEAN
    × (MAX_CLEAN < clean p machine)
IsFirstShapeFault p (JobOutOfRange machine place) = IsPlaceReached p machine place × (jobs p ≤ job_at p machine place)
IsFirstShapeFault p (NotOnRoute machine place) =
    IsPlaceReached p machine place
    × (job_at p machine place < jobs p)
    × (IsVisitor p machine (job_at p machine place) → ⊥)
IsFirstShapeFault p (JobTwice machine place) =
    IsPlaceReached p machine place
    × IsVisitor p machine (job_at p machine place)
    × (visit_count p machine (job_at p machine place) ≤ places_before p machine (job_at p machine place) place)
IsFirstShapeFault p (JobMissing machine job) =
    IsJobReached p machine job × (place_count p machine job < visit_count p machine job)

-- nothing but this is what is wrong first
abbrev pub IsOnlyShapeFault : PlannedShop → ShapeFault → Type 0
IsOnlyShapeFault p fault = (other : ShapeFault) → IsFirstShapeFault p other → other ≡ fault
