-- What a planner proposes; the visits to each machine of the jobs in a row, and the orders of the serial and the shifted plans.
use Rattle.std.specs.Prelude.{ℕ, ◌-◌, ◌%◌, ◌==◌, List, ◌++◌, map, length, replicate, Option, None, Some, Vec}
use Rattle.std.specs.List.{count_by, flat_map, range_with_len}
use Rattle.std.specs.declared.alloc.Global.{Global}
use Rattle.shop_base.specs.declared.shop.Step.{Step}
use Rattle.shop_base.specs.Shop.{JobShop, route_at}
use Rattle.shop_base.specs.Vectors.{lists_of}

-- what a proposer proposes: an order for each machine, or nothing
abbrev pub Proposal : Type 0
Proposal = Option (List (List ℕ))

-- the lists of a proposal
abbrev pub proposal_of : Option (Vec (Vec ℕ Global) Global) → Proposal
proposal_of None = None
proposal_of (Some orders) = Some (lists_of orders.items)

-- how often the route comes to machine m
abbrev pub visits_in : List Step → ℕ → ℕ
visits_in route m = count_by (λ step. step.machine == m) route

-- the job, as often as its route comes to machine m
abbrev pub visits_of : JobShop → ℕ → ℕ → List ℕ
visits_of shop j m = replicate (visits_in (route_at shop.routes j) m) j

-- those of the jobs whose routes come to machine m, each as often as its route does, in the same order
abbrev pub visitors : JobShop → List ℕ → ℕ → List ℕ
visitors shop row m = flat_map (λ j. visits_of shop j m) row

-- the orders in which the jobs enter the machines if they stand in this row at each of them
abbrev pub orders_along : JobShop → List ℕ → List (List ℕ)
orders_along shop row = map (visitors shop row) (range_with_len 0 shop.machines)

-- n jobs in a row: from this one on ascending, and then from job 0 on
abbrev pub jobs_from : ℕ → ℕ → List ℕ
jobs_from n first = range_with_len first (n - first) ++ range_with_len 0 first

-- the orders of the serial plan: each machine has the jobs whose routes come to it in ascending order, each for all its visits in a row
abbrev pub serial_order : JobShop → List (List ℕ)
serial_order shop = orders_along shop (range_with_len 0 (length shop.routes))

-- the orders of the shifted plan of a round r: as the serial plan's, but from job r on, counted round
abbrev pub shifted_order : JobShop → ℕ → List (List ℕ)
shifted_order shop r = orders_along shop (jobs_from (length shop.routes) (r % length shop.routes))
