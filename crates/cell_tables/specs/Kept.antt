-- When the run so far keeps another plan, as can be seen from its cell c: p is the plan by which it was made, q the other.
use Rattle.std.specs.Prelude.{◌≡◌, ℕ, ◌<◌, ◌≤◌, false, is_some, if◌then◌else◌}
use Rattle.shop_base.specs.Plan.{PlannedShop, jobs, machines, steps, machine_of, order, clean, Visits}
use Rattle.shop_base.specs.{Cell.Cell, Cell.made, Cell.ready, Cell.entries, Cell.cleaning, Cell.IsGone, Move.IsPrefix}
use Rattle.shop_base.specs.ReportsLeft.{departures}

module _ (p : PlannedShop) (c : Cell) (q : PlannedShop) where
  -- what was done with job j keeps the other plan: of a job that it hasn't nothing was reported, the steps that the job has entered are on the same machines, and a job that is gone has no others
  pub record KeepsJob (j : ℕ) : Type 0 where
    pub lacking : jobs q ≤ j → (made c j ≡ 0) × (ready c j ≡ false)
    pub entered : (k : ℕ) → k < made c j → k < steps p j → Visits q j k (machine_of p j k)
    pub gone : IsGone p c j → steps q j ≡ steps p j

  -- the cleanings of machine m do: its cleaning time becomes 0 only where no cleaning of it has ended, and 0 becomes more only where no job has left it
  pub record KeepsCleaning (m : ℕ) : Type 0 where
    pub cleaned : 0 < clean p m → clean q m ≡ 0 → departures p c m ≤ (if is_some (cleaning c m) then 1 else 0)
    pub uncleaned : clean p m ≡ 0 → 0 < clean q m → departures p c m ≡ 0

  -- what was done on machine m does: the jobs that have entered it begin the other order, and its cleanings keep the plan
  pub record KeepsMachine (m : ℕ) : Type 0 where
    pub in_order : IsPrefix (entries c m) (order q m)
    pub cleanings : KeepsCleaning m

  -- all that was done does
  pub record KeepsSoFar : Type 0 where
    pub jobs_keep : (j : ℕ) → j < jobs p → KeepsJob j
    pub machines_keep : (m : ℕ) → m < machines p → KeepsMachine m
