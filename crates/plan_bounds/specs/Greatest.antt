-- What is known of the greatest bound once some of the machines, or of the jobs, were looked at.
use Rattle.std.specs.Prelude.{◌≡◌, ℕ, ◌<◌}
use Rattle.plan_bounds.specs.Bounds.{ShopTimes, job_bound, IsMachineBound}
use Rattle.plan_bounds.specs.Makespan.{AreMachinesBelow, AreMachinesWithin, AreJobsBelow, AreJobsWithin}

module _ (t : ShopTimes) (n : ℕ) where
  -- none of the first n machines has a bound
  abbrev pub HaveNoBound : Type 0
  HaveNoBound = (i b : ℕ) → i < n → IsMachineBound t i b → ⊥

  -- this is the least of the first n machines with the greatest bound of them, and the bound
  pub record IsGreatestOfMachines (found : ℕ × ℕ) : Type 0 where
    pub in_range : found.0 < n
    pub bound : IsMachineBound t found.0 found.1
    pub before : AreMachinesBelow t found.0 found.1
    pub within : AreMachinesWithin t n found.1

  -- this is the least of the first n jobs with the greatest bound of them, and the bound
  pub record IsGreatestOfJobs (found : ℕ × ℕ) : Type 0 where
    pub in_range : found.0 < n
    pub bound : found.1 ≡ job_bound t found.0
    pub before : AreJobsBelow t found.0 found.1
    pub within : AreJobsWithin t n found.1
