-- The lookups under way: the routes are noted job by job, and then the visits get their places, machine by machine.
use Rattle.std.specs.Prelude.{◌≡◌, ℕ, ◌+◌, ◌*◌, ◌<◌, ◌≤◌, List, length, slice_index}
use Rattle.shop_base.specs.declared.limits.TheConstants.{MAX_JOBS, MAX_MACHINES}
use Rattle.shop_base.specs.Plan.{PlannedShop, jobs, machines, visits_before, Visits, IsWellShaped}
use Rattle.shop_base.specs.Graph.{node}
use Rattle.alt_graph.specs.declared.lookups.Placing.{Placing}
use Rattle.alt_graph.specs.Layout.{number_of}
use Rattle.alt_graph.specs.Lookups.{AreFirsts, IsGap, AreVisitsOf}

-- where machine m and job j stand in the table of the jobs' next visits
abbrev pub slot_of : ℕ → ℕ → ℕ
slot_of m j = m * MAX_JOBS + j

-- there is a row for each node in both tables, and a slot for each machine and job
pub record AreTables (p : PlannedShop) (firsts places behind next : List ℕ) : Type 0 where
  pub shaped : IsWellShaped p
  pub numbers : AreFirsts p firsts
  pub rows : length places ≡ slice_index firsts (jobs p)
  pub links : length behind ≡ slice_index firsts (jobs p)
  pub slots : length next ≡ machines p * MAX_JOBS

-- from step s on, the row of each of job j's visits gives the step of its next one to the same machine
abbrev pub AreLinked : PlannedShop → List ℕ → List ℕ → ℕ → ℕ → Type 0
AreLinked p firsts behind j s = (m k l : ℕ) → s ≤ k → Visits p j k m → Visits p j l m → visits_before p j m l ≡ visits_before p j m k + 1
    → slice_index behind (number_of firsts (node j k)) ≡ l

-- the slot gives the step of job j's n-th visit to machine m, counted from 0
abbrev pub IsNext : PlannedShop → List ℕ → ℕ → ℕ → ℕ → Type 0
IsNext p next m j n = (k : ℕ) → Visits p j k m → visits_before p j m k ≡ n → slice_index next (slot_of m j) ≡ k

-- the routes of the jobs below j are noted, and only the first gap stands among the visits
pub record AreRoutesNoted (p : PlannedShop) (s : Placing) (j : ℕ) : Type 0 where
  pub tables : AreTables p s.lookups.firsts.items s.lookups.places.items s.behind.items s.next.items
  pub linked : (i : ℕ) → i < j → AreLinked p s.lookups.firsts.items s.behind.items i 0
  pub first : (m i : ℕ) → i < j → IsNext p s.next.items m i 0
  pub size : length s.lookups.visits.items ≡ 1
  pub gap : IsGap s.lookups.visits.items 0

-- the visits to the machines below m have their places, and a gap is last
pub record AreOrdersPlaced (p : PlannedShop) (s : Placing) (m : ℕ) : Type 0 where
  pub tables : AreTables p s.lookups.firsts.items s.lookups.places.items s.behind.items s.next.items
  pub linked : (j : ℕ) → AreLinked p s.lookups.firsts.items s.behind.items j 0
  pub first : (n j : ℕ) → m ≤ n → IsNext p s.next.items n j 0
  pub placed : (n : ℕ) → n < m → (gap : ℕ) × AreVisitsOf p s.lookups.firsts.items s.lookups.visits.items s.lookups.places.items n gap
  pub gap : (last : ℕ) × IsGap s.lookups.visits.items last × (length s.lookups.visits.items ≡ last + 1) × (last ≤ m * (MAX_JOBS * MAX_MACHINES + 1))
