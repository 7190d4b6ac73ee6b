-- What a check has met: the machines that a route visits and how often, how often the jobs stand in an order, a number over its limit.
use Rattle.std.specs.Prelude.{◌≡◌, ℕ, ◌<◌, List, [], Bool, false, length, nat_eq, slice_index, slice_index_or, MatchBool, MatchOption, Option}
use Rattle.shop_base.specs.declared.shop.Step.{Step}
use Rattle.shop_base.specs.declared.limits.TheConstants.{MAX_MACHINES}
use Rattle.shop_base.specs.Shop.{route_at, step_at}
use Rattle.shop_base.specs.Plan.{count_below}
use Rattle.shop_base.specs.TimeLimits.{AreAllWithin, IsFirstOver}

-- one mark per job, set for exactly those of which the fact holds
abbrev pub AreMarks : List Bool → (ℕ → Type 0) → Type 0
AreMarks marks P = (j : ℕ) → j < length marks → MatchBool (slice_index_or marks j false) (P j) (P j → ⊥)

-- one of the first n steps of the route is on machine m
abbrev pub IsVisitedBefore : List Step → ℕ → ℕ → Type 0
IsVisitedBefore route n m = (i : ℕ) × (i < n) × ((step_at route i).machine ≡ m)

-- the counts are those that a function gives
abbrev pub AreTheCounts : List ℕ → (ℕ → ℕ) → Type 0
AreTheCounts counts f = (i : ℕ) → i < length counts → slice_index counts i ≡ f i

-- how often the first n steps of the route are on machine m
abbrev pub route_visits : List Step → ℕ → ℕ → ℕ
route_visits route n m = count_below (λ i. nat_eq (step_at route i).machine m) n

-- how often the route of job j visits machine m
abbrev pub visits_in : List (List Step) → ℕ → ℕ → ℕ
visits_in routes j m = route_visits (route_at routes j) (length (route_at routes j)) m

-- how often the route visits each machine
pub record AreVisited (row : List ℕ) (route : List Step) : Type 0 where
  pub counts : AreTheCounts row (route_visits route (length route))
  pub size : length row ≡ MAX_MACHINES

-- for each job how often its route visits each machine
abbrev pub AreVisits : List (List ℕ) → List (List Step) → Type 0
AreVisits visits routes =
    (j : ℕ) → j < length visits → AreVisited (slice_index_or visits j []) (route_at routes j)

-- the first number over the limit, none where each is within it
abbrev pub IsFirstAbove : List ℕ → ℕ → Option ℕ → Type 0
IsFirstAbove numbers limit found = MatchOption found (AreAllWithin numbers limit) (IsFirstOver numbers limit)
