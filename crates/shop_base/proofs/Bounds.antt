-- How many steps, and how much work, a shop within the limits can have.
use Rattle.std.proofs.Common.{ℕ, Bool, ◌*◌, ◌≤◌, List, [], length, All, arith}
use Rattle.std.proofs.lemmas.List.{get_or_default}
use Rattle.std.proofs.lemmas.List.Sums.{sum_by-le}
use Rattle.shop_base.specs.declared.shop.Step.{Step}
use Rattle.shop_base.specs.declared.limits.TheConstants.{MAX_JOBS, MAX_MACHINES, MAX_NOMINAL}
use Rattle.shop_base.specs.Shop.{JobShop, IsShop, IsRoute, no_step, route_at, operations_of}
use Rattle.shop_base.specs.Work.{route_work, work_of}

module _ (machines : ℕ) (again : Bool) (route : List Step) (sound : IsRoute machines again route) where
  -- the work of a route is within the limit for each of its steps
  pub route_work-le : route_work route ≤ MAX_MACHINES * MAX_NOMINAL
  route_work-le =
      let each : All (λ step. step.nominal ≤ MAX_NOMINAL) route =
      λ k d h. rw (get_or_default route k d no_step h) ((sound.steps k h).nominal) in
      omega (arith, sum_by-le (λ step. step.nominal) MAX_NOMINAL route each, sound.few_steps)

module _ (shop : JobShop) (sound : IsShop shop) where
  pub operations_of-le : operations_of shop ≤ MAX_JOBS * MAX_MACHINES
  operations_of-le =
      let each : All (λ route. length route ≤ MAX_MACHINES) shop.routes =
      λ k d h. rw (get_or_default shop.routes k d [] h) ((sound.routes k h).few_steps) in
      omega (arith, sum_by-le length MAX_MACHINES shop.routes each, sound.counts.few_jobs)

  pub work_of-le : work_of shop ≤ MAX_JOBS * (MAX_MACHINES * MAX_NOMINAL)
  work_of-le =
      let each : All (λ route. route_work route ≤ MAX_MACHINES * MAX_NOMINAL) shop.routes =
      λ k d h. rw (get_or_default shop.routes k d [] h) (route_work-le shop.machines shop.recirculates (route_at shop.routes k) (sound.routes k h)) in
      omega (arith, sum_by-le route_work (MAX_MACHINES * MAX_NOMINAL) shop.routes each, sound.counts.few_jobs)
