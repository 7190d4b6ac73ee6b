-- How many steps a job has, and how many jobs a machine.
use Rattle.std.proofs.Common.{ℕ, ◌*◌, ◌<◌, ◌≤◌, length, arith}
use Rattle.shop_base.specs.declared.limits.TheConstants.{MAX_JOBS, MAX_MACHINES}
use Rattle.shop_base.specs.Plan.{PlannedShop, jobs, machines, steps, order, job_at, IsWellShaped}
use Rattle.shop_base.proofs.Cleanings.{order_length}
use Rattle.shop_base.proofs.Visits.{visits_job}

module _ (p : PlannedShop) (shaped : IsWellShaped p) where
  pub steps_few : (j : ℕ) → j < jobs p → steps p j ≤ MAX_MACHINES
  steps_few j inside = (shaped.shop.routes j inside).few_steps

  pub order_few : (m : ℕ) → m < machines p → length (order p m) ≤ MAX_JOBS * MAX_MACHINES
  order_few m inside = omega (arith, order_length p m shaped (shaped.orders m inside), shaped.shop.counts.few_jobs)

  -- at each place of an order stands a job
  pub place_job : (m a : ℕ) → m < machines p → a < length (order p m) → job_at p m a < jobs p
  place_job m a inside within = let found = (shaped.orders m inside).on_route a within in visits_job p (job_at p m a) found.0 m found.1.visits
