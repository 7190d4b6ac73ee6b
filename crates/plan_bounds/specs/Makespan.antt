-- The first line of the bounds: the greatest of those of machines and jobs.
use Rattle.std.specs.Prelude.{◌≡◌, ℕ, ◌<◌, ◌≤◌}
use Rattle.plan_bounds.specs.Bounds.{ShopTimes, job_count, job_bound, IsMachineBound}
use Rattle.plan_bounds.specs.declared.makespan.By.{By}
use Rattle.plan_bounds.specs.declared.makespan.By.TheVariants.{Machine, Job}
use Rattle.plan_bounds.specs.declared.makespan.LeastMakespan.{LeastMakespan}

module _ (t : ShopTimes) where
  -- no machine before machine m has a bound of n or more
  abbrev pub AreMachinesBelow : ℕ → ℕ → Type 0
  AreMachinesBelow m n = (i b : ℕ) → i < m → IsMachineBound t i b → b < n

  -- no machine of the first m has a bound above n
  abbrev pub AreMachinesWithin : ℕ → ℕ → Type 0
  AreMachinesWithin m n = (i b : ℕ) → i < m → IsMachineBound t i b → b ≤ n

  -- no job before job j has a bound of n or more
  abbrev pub AreJobsBelow : ℕ → ℕ → Type 0
  AreJobsBelow j n = (i : ℕ) → i < j → job_bound t i < n

  -- no job of the first j has a bound above n
  abbrev pub AreJobsWithin : ℕ → ℕ → Type 0
  AreJobsWithin j n = (i : ℕ) → i < j → job_bound t i ≤ n

  -- machine m is the least with the greatest bound of all machines
  pub record IsGreatestMachine (m n : ℕ) : Type 0 where
    pub in_range : m < t.shop.machines
    pub bound : IsMachineBound t m n
    pub before : AreMachinesBelow m n
    pub within : AreMachinesWithin t.shop.machines n

  -- job j is the least with the greatest bound of all jobs
  pub record IsGreatestJob (j n : ℕ) : Type 0 where
    pub in_range : j < job_count t
    pub bound : n ≡ job_bound t j
    pub before : AreJobsBelow j n
    pub within : AreJobsWithin (job_count t) n

  -- the greatest bound is that of the least machine that has it, else that of the least job
  abbrev pub IsBy : ℕ → By → Type 0
  IsBy n (Machine m) = IsGreatestMachine m n × AreJobsWithin (job_count t) n
  IsBy n (Job j) = IsGreatestJob j n × AreMachinesBelow t.shop.machines n

  -- the greatest of the bounds of the machines and the jobs
  abbrev pub IsLeastMakespan : LeastMakespan → Type 0
  IsLeastMakespan least = IsBy least.at_least least.by
