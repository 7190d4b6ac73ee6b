-- What has a fault isn't sound: so what is refused is exactly what isn't.
use Rattle.std.proofs.Common.{◌≡◌, ◌↔◌, ℕ, List, Bool, true, false, arith}
use Rattle.shop_base.specs.declared.shop.Step.{Step}
use Rattle.shop_base.specs.declared.shop_fault.ShopFault.{ShopFault}
use Rattle.shop_base.specs.declared.shop_fault.ShopFault.TheVariants.{NoJobs, TooManyJobs, NoMachines, TooManyMachines, EmptyRoute, TooManySteps, MachineOutOfRange, MachineTwice, NominalTooLarge}
use Rattle.shop_base.specs.declared.shape_fault.ShapeFault.{ShapeFault}
use Rattle.shop_base.specs.declared.shape_fault.ShapeFault.TheVariants.{ReleaseCount, BudgetCount, OrderCount, CleanCount, ReleaseTooLarge, BudgetTooLarge, CleanTooLarge, JobOutOfRange, NotOnRoute, JobTwice, JobMissing}
use Rattle.shop_base.specs.Shop.{IsShop, IsSoundStep, route_at}
use Rattle.shop_base.specs.ShopFault.{IsFirstFault, IsStepReached}
use Rattle.shop_base.specs.Plan.{PlannedShop, job_at, IsOrder, IsWellShaped}
use Rattle.shop_base.specs.ShapeFault.{IsFirstShapeFault, IsMachineReached}
use Rattle.shop_base.proofs.FirstVisits.{sound-twice}
use Rattle.shop_base.proofs.Visits.{visits_job}
use Rattle.shop_base.proofs.Orders.{stands-place, none_missing}

-- a shop with a fault isn't sound
pub fault_refutes : (count : ℕ) (again : Bool) (routes : List (List Step)) (fault : ShopFault) → IsFirstFault count again routes fault
    → IsShop (record { machines = count; routes = routes; recirculates = again }) → ⊥
fault_refutes count again routes fault is shop = go fault is
  where
    step_of : (job step : ℕ) → IsStepReached count again routes job step → IsSoundStep count again (route_at routes job) step
    step_of job step reached = (shop.routes job reached.reached.in_range).steps step reached.in_range

    go : (fault : ShopFault) → IsFirstFault count again routes fault → ⊥
    go NoJobs none = omega (arith, shop.counts.some_job)
    go TooManyJobs many = omega (arith, shop.counts.few_jobs)
    go NoMachines none = omega (arith, shop.counts.some_machine, none.2)
    go TooManyMachines many = omega (arith, shop.counts.few_machines, many.2)
    go (EmptyRoute job) (reached, empty) = omega (arith, (shop.routes job reached.in_range).visits_some)
    go (TooManySteps job) (reached, long) = omega (arith, (shop.routes job reached.in_range).few_steps, long.1)
    go (MachineOutOfRange job step) (reached, past) = omega (arith, (step_of job step reached).in_range)
    go (MachineTwice job step) (reached, inside, twice) = sound-twice count again (route_at routes job) step (step_of job step reached) twice
    go (NominalTooLarge job step) (reached, inside, first, large) = omega (arith, (step_of job step reached).nominal)

-- a plan with a fault isn't well shaped
pub shape_fault_refutes : (p : PlannedShop) (fault : ShapeFault) → IsFirstShapeFault p fault → IsWellShaped p → ⊥
shape_fault_refutes p fault is shaped = go fault is
  where
    order_of : (m : ℕ) → IsMachineReached p m → IsOrder p m
    order_of m reached = shaped.orders m reached.in_range

    go : (fault : ShapeFault) → IsFirstShapeFault p fault → ⊥
    go ReleaseCount other = other shaped.counts.releases
    go BudgetCount (releases, other) = other shaped.counts.budgets
    go OrderCount (releases, budgets, other) = other shaped.counts.orders
    go CleanCount (releases, budgets, orders, other) = other shaped.counts.cleanings
    go (ReleaseTooLarge job) (counts, inside, before, large) = omega (arith, shaped.limits.releases job inside)
    go (BudgetTooLarge job) (counts, releases, inside, before, large) = omega (arith, shaped.limits.budgets job inside)
    go (CleanTooLarge machine) (counts, releases, budgets, inside, before, large) = omega (arith, shaped.limits.cleanings machine inside)
    go (JobOutOfRange machine place) (reached, past) =
        let (k, stands) = (order_of machine reached.reached).on_route place reached.in_range in
        omega (arith, visits_job p (job_at p machine place) k machine stands.visits)
    go (NotOnRoute machine place) (reached, inside, elsewhere) = let found = (order_of machine reached.reached).on_route place reached.in_range in elsewhere (found.0, found.1.visits)
    go (JobTwice machine place) (reached, visitor, many) =
        let found = (order_of machine reached.reached).on_route place reached.in_range in
        omega (arith, many, stands-place p machine place found.0 found.1)
    go (JobMissing machine job) (reached, few) = omega (arith, few, none_missing p machine job (order_of machine reached.reached))

-- where something isn't so, a refusal says exactly that
pub refused_just : {S : Type 0} → (S → ⊥) → false ≡ true ↔ S
refused_just none = ((λ bad. absurd (differ bad)), (λ is. absurd (none is)))
  where
    differ : false ≡ true → ⊥
    differ bad = cc
