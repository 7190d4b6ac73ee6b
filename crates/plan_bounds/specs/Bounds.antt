-- What no plan can do, whatever its orders: the bounds of jobs and of machines (Pinedo, Scheduling: a machine's heads and tails).
use Rattle.std.specs.Prelude.{◌≡◌, ◌≢◌, ℕ, zero, suc, ◌+◌, ◌*◌, ◌-◌, ◌<◌, ◌≤◌, ◌==◌, max, if◌then◌else◌, Bool, false, List, length, take, drop, slice_index, Option, None, Some}
use Rattle.shop_base.specs.declared.shop.Step.{Step}
use Rattle.shop_base.specs.Shop.{JobShop, route_at, step_at}
use Rattle.shop_base.specs.Plan.{PlannedShop, clean_in}
use Rattle.shop_base.specs.Ends.{sum_below}
use Rattle.shop_base.specs.Work.{route_work}

-- a shop, with the releases and the cleaning times of a plan for it
pub record ShopTimes : Type 0 where
  pub shop : JobShop
  pub release : List ℕ
  pub clean : Option (List ℕ)

-- those of a plan, without its budgets and orders
abbrev pub times_of : PlannedShop → ShopTimes
times_of p = record { shop = p.shop; release = p.plan.release; clean = p.plan.clean }

-- what f gives of those of the first n steps of a route that are on machine m, together
abbrev pub sum_on : (Step → ℕ) → ℕ → List Step → ℕ → ℕ
sum_on f m route n = sum_below (λ k. if (step_at route k).machine == m then f (step_at route k) else 0) n

-- the machine that is left for step k of a route is m
abbrev pub is_left : List Step → ℕ → ℕ → Bool
is_left route zero m = false
is_left route (suc k) m = (step_at route k).machine == m

-- the least of the numbers of which P holds, if there is one
abbrev pub IsLeast : (ℕ → Type 0) → Option ℕ → Type 0
IsLeast P None = (x : ℕ) → P x → ⊥
IsLeast P (Some x) = P x × ((y : ℕ) → P y → x ≤ y)

-- a job alone in the cell: when it is ready for its next move, and from when on it can enter each machine
pub record Alone : Type 0 where
  pub ready : ℕ
  pub free : ℕ → ℕ

module _ (t : ShopTimes) where
  -- the number of jobs
  abbrev pub job_count : ℕ
  job_count = length t.shop.routes

  -- the route of job j
  abbrev pub route_in : ℕ → List Step
  route_in j = route_at t.shop.routes j

  -- when a job alone enters step k of its route: once it is ready, and can enter the machine
  abbrev pub enters_alone : List Step → ℕ → Alone → ℕ
  enters_alone route k a = max a.ready (a.free (step_at route k).machine)

  -- once it has: it is ready again after the nominal time, and can enter the machine that it has left after the cleaning time
  abbrev pub after_entry : List Step → ℕ → Alone → Alone
  after_entry route k a = record {
    ready = enters_alone route k a + (step_at route k).nominal;
    free = λ m. if is_left route k m then enters_alone route k a + clean_in t.clean m else a.free m;
  }

  -- job j alone, which had made some moves and was ready for the next one at the moment `at`, once it has entered n steps more
  abbrev pub alone_after : ℕ → ℕ → ℕ → ℕ → Alone
  alone_after j made at zero = record { ready = at; free = λ m. 0 }
  alone_after j made at (suc n) = after_entry (route_in j) (made + n) (alone_after j made at n)

  -- when it can leave then, once it has entered all its steps
  abbrev pub out_alone : ℕ → ℕ → ℕ → ℕ
  out_alone j made at = (alone_after j made at (length (route_in j) - made)).ready

  -- a job's bound, the least moment at which it can leave alone: its release and its nominal times, where each visit to a machine begins at least the machine's cleaning time after the job has left it before
  abbrev pub job_bound : ℕ → ℕ
  job_bound j = out_alone j 0 (slice_index t.release j)

  -- step k of job j is on machine m
  pub record IsVisit (m j k : ℕ) : Type 0 where
    pub within : k < length (route_in j)
    pub here : (step_at (route_in j) k).machine ≡ m

  -- the head of a step: its job's release, and the nominal times before it
  abbrev pub head : ℕ → ℕ → ℕ
  head j k = slice_index t.release j + route_work (take k (route_in j))

  -- the tail of a step: the nominal times after it
  abbrev pub tail : ℕ → ℕ → ℕ
  tail j k = route_work (drop (k + 1) (route_in j))

  -- x is the head of one and the tail of another of these visits, of one job too
  pub record AreEnds (V : ℕ → ℕ → Type 0) (x : ℕ) : Type 0 where
    pub first : ℕ
    pub enters : ℕ
    pub last : ℕ
    pub leaves : ℕ
    pub apart : first ≡ last → enters ≢ leaves
    pub first_visit : V first enters
    pub last_visit : V last leaves
    pub sum : x ≡ head first enters + tail last leaves

  -- the nominal times of the first n jobs on machine m
  abbrev pub work_on : ℕ → ℕ → ℕ
  work_on m n = sum_below (λ j. sum_on (λ step. step.nominal) m (route_in j) (length (route_in j))) n

  -- how often they visit it
  abbrev pub visits_on : ℕ → ℕ → ℕ
  visits_on m n = sum_below (λ j. sum_on (λ step. 1) m (route_in j) (length (route_in j))) n

  -- a machine's bound, where two or more visits are made to it: all its nominal times, its cleaning time once fewer than its visits, and the least that the head of one of them and the tail of another add up to
  pub record IsMachineBound (m n : ℕ) : Type 0 where
    pub ends : ℕ
    pub least : IsLeast (AreEnds (IsVisit m)) (Some ends)
    pub sum : n ≡ work_on m job_count + clean_in t.clean m * (visits_on m job_count - 1) + ends

  -- machine m has no bound of its own: no two visits are made to it
  abbrev pub HasNoBound : ℕ → Type 0
  HasNoBound m = IsLeast (AreEnds (IsVisit m)) None
