-- What a run has left of its plan, as an improver gets it, and that it hasn't begun.
use Rattle.std.specs.{Prelude.◌≡◌, Prelude.ℕ, Prelude.nat_lt, Prelude.if◌then◌else◌, Prelude.map, Prelude.◌<◌, Prelude.false, List.range_with_len}
use Rattle.shop_base.specs.Plan.{PlannedShop, jobs, machines, steps}
use Rattle.shop_base.specs.{Cell.Cell, Cell.job_in, Cell.made, Cell.ready, Cell.since, Cell.cleaning, Movers.due_of_job}
use Rattle.plan_net.specs.{declared.ahead.JobAhead.JobAhead, declared.ahead.PartAhead.PartAhead}
use Rattle.plan_verifier.specs.Held.{later_than}

module _ (p : PlannedShop) (c : Cell) (t : ℕ) where
  -- before this job j doesn't make its next move: the present moment t or, if that is later, when what goes on with it is due; of a job that is gone the moment at which it left
  abbrev pub begins_at : ℕ → ℕ
  begins_at j = if nat_lt (steps p j) (made c j) then since c j else later_than t (due_of_job p j (job_in c j))

  -- how job j goes on
  abbrev pub job_rest : ℕ → JobAhead
  job_rest j = record { made = made c j; bound = begins_at j }

  -- this is how each job goes on, and since when each machine is being cleaned
  pub record IsRestOf (rest : PartAhead) : Type 0 where
    pub each_job : rest.jobs.items ≡ map job_rest (range_with_len 0 (jobs p))
    pub each_machine : rest.cleanings.items ≡ map (cleaning c) (range_with_len 0 (machines p))

-- job j hasn't arrived: it isn't ready, and has made no move
abbrev pub HasNotArrived : Cell → ℕ → Type 0
HasNotArrived c j = (made c j ≡ 0) × (ready c j ≡ false)

-- nothing was done yet: no job has arrived
abbrev pub NothingIsDone : PlannedShop → Cell → Type 0
NothingIsDone p c = (j : ℕ) → j < jobs p → HasNotArrived c j
