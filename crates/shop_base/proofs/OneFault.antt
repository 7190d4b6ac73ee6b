-- A shop and a plan have only one first fault.
use Rattle.std.proofs.Common.{◌≡◌, ℕ, zero, suc, ◌+◌, ◌<◌, ◌≤◌, Bool, List, length, ◌⊎◌, inl, inr, refl, sym, ap, ap₂, subst, arith}
use Rattle.std.proofs.lemmas.Bool.{cases_order}
use Rattle.shop_base.specs.declared.shop.Step.{Step}
use Rattle.shop_base.specs.declared.limits.TheConstants.{MAX_RELEASE, MAX_MOMENT, MAX_CLEAN}
use Rattle.shop_base.specs.declared.shop_fault.ShopFault.{ShopFault}
use Rattle.shop_base.specs.declared.shop_fault.ShopFault.TheVariants.{NoJobs, TooManyJobs, NoMachines, TooManyMachines, EmptyRoute, TooManySteps, MachineOutOfRange, MachineTwice, NominalTooLarge}
use Rattle.shop_base.specs.Shop.{IsRoute, IsSoundStep, route_at, step_at}
use Rattle.shop_base.specs.ShopFault.{IsFirstFault, AreSoundBefore, IsStepReached, IsTooLong, IsTwice}
use Rattle.shop_base.specs.declared.shape_fault.ShapeFault.{ShapeFault}
use Rattle.shop_base.specs.declared.shape_fault.ShapeFault.TheVariants.{ReleaseCount, BudgetCount, OrderCount, CleanCount, ReleaseTooLarge, BudgetTooLarge, CleanTooLarge, JobOutOfRange, NotOnRoute, JobTwice, JobMissing}
use Rattle.shop_base.specs.Plan.{PlannedShop, jobs, machines, release, budget, clean, order, job_at, HasCleanCount, HasCounts, IsOrder}
use Rattle.shop_base.specs.ShapeFault.{IsVisitor, IsGoodPlace, visit_count, place_count, IsMachineReached, IsPlaceReached, EachIsWithin, IsFirstShapeFault}
use Rattle.shop_base.proofs.FirstVisits.{sound-twice}
use Rattle.shop_base.proofs.Visits.{visits_job}
use Rattle.shop_base.proofs.Orders.{stands-place, place-stands, none_missing}

module _ (count : ℕ) (again : Bool) (routes : List (List Step)) where
  -- all before job j is sound, and its route isn't
  record IsBadJob (j : ℕ) : Type 0 where
    reached : AreSoundBefore count again routes j
    bad : IsRoute count again (route_at routes j) → ⊥

  -- all before step k of job j is sound, and that step isn't
  record IsBadStep (j k : ℕ) : Type 0 where
    reached : IsStepReached count again routes j k
    bad : IsSoundStep count again (route_at routes j) k → ⊥

  bad_job_once : (i j : ℕ) → IsBadJob i → IsBadJob j → i ≡ j
  bad_job_once i j one other = go (cases_order i j)
    where
      go : (i ≡ j) ⊎ ((i < j) ⊎ (j < i)) → i ≡ j
      go (inl same) = same
      go (inr (inl less)) = absurd (one.bad (other.reached.before i less))
      go (inr (inr more)) = absurd (other.bad (one.reached.before j more))

  bad_step-job : (j k : ℕ) → IsBadStep j k → IsBadJob j
  bad_step-job j k step = record { reached = step.reached.reached; bad = λ route. step.bad (route.steps k step.reached.in_range) }

  empty-job : (j : ℕ) → IsFirstFault count again routes (EmptyRoute j) → IsBadJob j
  empty-job j (reached, empty) = record { reached = reached; bad = λ route. omega (arith, route.visits_some) }

  bad_step_once : (i k j l : ℕ) → IsBadStep i k → IsBadStep j l → (i ≡ j) × (k ≡ l)
  bad_step_once i k j l one other = (same, go (cases_order k l))
    where
      same : i ≡ j
      same = bad_job_once i j (bad_step-job i k one) (bad_step-job j l other)

      go : (k ≡ l) ⊎ ((k < l) ⊎ (l < k)) → k ≡ l
      go (inl is) = is
      go (inr (inl less)) = absurd (one.bad (subst (λ x. IsSoundStep count again (route_at routes x) k) (sym same) (other.reached.before k less)))
      go (inr (inr more)) = absurd (other.bad (subst (λ x. IsSoundStep count again (route_at routes x) l) same (one.reached.before l more)))

  range-step : (j k : ℕ) → IsFirstFault count again routes (MachineOutOfRange j k) → IsBadStep j k
  range-step j k (reached, past) = record { reached = reached; bad = λ step. omega (arith, step.in_range) }

  twice-step : (j k : ℕ) → IsFirstFault count again routes (MachineTwice j k) → IsBadStep j k
  twice-step j k (reached, inside, twice) = record { reached = reached; bad = λ step. sound-twice count again (route_at routes j) k step twice }

  nominal-step : (j k : ℕ) → IsFirstFault count again routes (NominalTooLarge j k) → IsBadStep j k
  nominal-step j k (reached, inside, once, large) = record { reached = reached; bad = λ step. omega (arith, step.nominal) }

  long-job : (j : ℕ) → IsFirstFault count again routes (TooManySteps j) → IsBadJob j
  long-job j (reached, long) = record { reached = reached; bad = λ route. omega (arith, long.1, route.few_steps) }

  -- a job without steps has not too many
  empty-not_long : (i j : ℕ) → IsFirstFault count again routes (EmptyRoute i) → IsFirstFault count again routes (TooManySteps j) → ⊥
  empty-not_long i j empty long =
      let same : i ≡ j = bad_job_once i j (empty-job i empty) (long-job j long) in
      omega (arith, empty.1, ap (λ x. length (route_at routes x)) same, long.1.1)

  -- no step of a route that is too long is looked at
  long-no_step : (i j l : ℕ) → IsFirstFault count again routes (TooManySteps i) → IsBadStep j l → ⊥
  long-no_step i j l long step =
      let same : i ≡ j = bad_job_once i j (long-job i long) (bad_step-job j l step) in
      step.reached.short (subst (λ x. IsTooLong again (route_at routes x)) same long.1)

  -- a job without steps has no step
  empty-no_step : (i j l : ℕ) → IsFirstFault count again routes (EmptyRoute i) → IsBadStep j l → ⊥
  empty-no_step i j l empty step =
      let same : i ≡ j = bad_job_once i j (empty-job i empty) (bad_step-job j l step) in
      omega (arith, empty.1, ap (λ x. length (route_at routes x)) same, step.reached.in_range)

  machine_same : (i k j l : ℕ) → IsBadStep i k → IsBadStep j l → (step_at (route_at routes i) k).machine ≡ (step_at (route_at routes j) l).machine
  machine_same i k j l one other = let (same, place) = bad_step_once i k j l one other in ap₂ (λ x y. (step_at (route_at routes x) y).machine) same place

  twice-not_first : (i k j l : ℕ) → IsFirstFault count again routes (MachineTwice i k) → IsFirstFault count again routes (NominalTooLarge j l) → ⊥
  twice-not_first i k j l one other =
      let (same, place) = bad_step_once i k j l (twice-step i k one) (nominal-step j l other) in
      other.2 (subst (IsTwice again (route_at routes j)) place (subst (λ x. IsTwice again (route_at routes x) k) same one.2))

  pub fault_once : (a b : ShopFault) → IsFirstFault count again routes a → IsFirstFault count again routes b → a ≡ b
  fault_once NoJobs NoJobs one other = refl
  fault_once TooManyJobs TooManyJobs one other = refl
  fault_once NoMachines NoMachines one other = refl
  fault_once TooManyMachines TooManyMachines one other = refl
  fault_once (EmptyRoute i) (EmptyRoute j) one other = ap EmptyRoute (bad_job_once i j (empty-job i one) (empty-job j other))
  fault_once (EmptyRoute i) (TooManySteps j) one other = absurd (empty-not_long i j one other)
  fault_once (TooManySteps i) (EmptyRoute j) one other = absurd (empty-not_long j i other one)
  fault_once (TooManySteps i) (TooManySteps j) one other = ap TooManySteps (bad_job_once i j (long-job i one) (long-job j other))
  fault_once (TooManySteps i) (MachineOutOfRange j l) one other = absurd (long-no_step i j l one (range-step j l other))
  fault_once (TooManySteps i) (MachineTwice j l) one other = absurd (long-no_step i j l one (twice-step j l other))
  fault_once (TooManySteps i) (NominalTooLarge j l) one other = absurd (long-no_step i j l one (nominal-step j l other))
  fault_once (MachineOutOfRange i k) (TooManySteps j) one other = absurd (long-no_step j i k other (range-step i k one))
  fault_once (MachineTwice i k) (TooManySteps j) one other = absurd (long-no_step j i k other (twice-step i k one))
  fault_once (NominalTooLarge i k) (TooManySteps j) one other = absurd (long-no_step j i k other (nominal-step i k one))
  fault_once (EmptyRoute i) (MachineOutOfRange j l) one other = absurd (empty-no_step i j l one (range-step j l other))
  fault_once (EmptyRoute i) (MachineTwice j l) one other = absurd (empty-no_step i j l one (twice-step j l other))
  fault_once (EmptyRoute i) (NominalTooLarge j l) one other = absurd (empty-no_step i j l one (nominal-step j l other))
  fault_once (MachineOutOfRange i k) (EmptyRoute j) one other = absurd (empty-no_step j i k other (range-step i k one))
  fault_once (MachineTwice i k) (EmptyRoute j) one other = absurd (empty-no_step j i k other (twice-step i k one))
  fault_once (NominalTooLarge i k) (EmptyRoute j) one other = absurd (empty-no_step j i k other (nominal-step i k one))
  fault_once (MachineOutOfRange i k) (MachineOutOfRange j l) one other =
      let (same, place) = bad_step_once i k j l (range-step i k one) (range-step j l other) in ap₂ MachineOutOfRange same place
  fault_once (MachineTwice i k) (MachineTwice j l) one other =
      let (same, place) = bad_step_once i k j l (twice-step i k one) (twice-step j l other) in ap₂ MachineTwice same place
  fault_once (NominalTooLarge i k) (NominalTooLarge j l) one other =
      let (same, place) = bad_step_once i k j l (nominal-step i k one) (nominal-step j l other) in ap₂ NominalTooLarge same place
  fault_once (MachineOutOfRange i k) (MachineTwice j l) one other = absurd (omega (arith, one.1, other.1, machine_same i k j l (range-step i k one) (twice-step j l other)))
  fault_once (MachineTwice i k) (MachineOutOfRange j l) one other = absurd (omega (arith, one.1, other.1, machine_same i k j l (twice-step i k one) (range-step j l other)))
  fault_once (MachineOutOfRange i k) (NominalTooLarge j l) one other = absurd (omega (arith, one.1, other.1, machine_same i k j l (range-step i k one) (nominal-step j l other)))
  fault_once (NominalTooLarge i k) (MachineOutOfRange j l) one other = absurd (omega (arith, one.1, other.1, machine_same i k j l (nominal-step i k one) (range-step j l other)))
  fault_once (MachineTwice i k) (NominalTooLarge j l) one other = absurd (twice-not_first i k j l one other)
  fault_once (NominalTooLarge i k) (MachineTwice j l) one other = absurd (twice-not_first j l i k other one)
  fault_once a b one other = absurd (omega arith)

-- a first number over a limit is the only one
least_once : (f : ℕ → ℕ) (limit i j : ℕ) → EachIsWithin f i limit → limit < f i → EachIsWithin f j limit → limit < f j → i ≡ j
least_once f limit i j before over before' over' = go (cases_order i j)
  where
    go : (i ≡ j) ⊎ ((i < j) ⊎ (j < i)) → i ≡ j
    go (inl same) = same
    go (inr (inl less)) = absurd (omega (arith, before' i less))
    go (inr (inr more)) = absurd (omega (arith, before j more))

-- a place of a sound order is good
good_place : (p : PlannedShop) (m a : ℕ) → a < length (order p m) → IsOrder p m → IsGoodPlace p m a
good_place p m a within sound = let found = sound.on_route a within in stands-place p m a found.0 found.1

module _ (p : PlannedShop) where
  -- what is looked at in turn: four counts, then three limits
  abbrev Holds : ℕ → Type 0
  Holds zero = length p.plan.release ≡ jobs p
  Holds (suc zero) = length p.plan.budget ≡ jobs p
  Holds (suc (suc zero)) = length p.plan.order ≡ machines p
  Holds (suc (suc (suc zero))) = HasCleanCount p.plan.clean (machines p)
  Holds (suc (suc (suc (suc zero)))) = EachIsWithin (release p) (jobs p) MAX_RELEASE
  Holds (suc (suc (suc (suc (suc zero))))) = EachIsWithin (budget p) (jobs p) MAX_MOMENT
  Holds (suc (suc (suc (suc (suc (suc zero)))))) = EachIsWithin (clean p) (machines p) MAX_CLEAN
  Holds (suc (suc (suc (suc (suc (suc (suc n))))))) = Unit {0}

  -- the first thing that doesn't hold, 7 for the orders
  abbrev stage : ShapeFault → ℕ
  stage ReleaseCount = 0
  stage BudgetCount = 1
  stage OrderCount = 2
  stage CleanCount = 3
  stage (ReleaseTooLarge job) = 4
  stage (BudgetTooLarge job) = 5
  stage (CleanTooLarge machine) = 6
  stage (JobOutOfRange machine place) = 7
  stage (NotOnRoute machine place) = 7
  stage (JobTwice machine place) = 7
  stage (JobMissing machine job) = 7

  more : (n : ℕ) → ((s : ℕ) → s < n → Holds s) → Holds n → (s : ℕ) → s < n + 1 → Holds s
  more n before here s lt = go (cases_order s n)
    where
      go : (s ≡ n) ⊎ ((s < n) ⊎ (n < s)) → Holds s
      go (inl same) = subst Holds (sym same) here
      go (inr (inl less)) = before s less
      go (inr (inr past)) = absurd (omega arith)

  none_before : (s : ℕ) → s < 0 → Holds s
  none_before s lt = absurd (omega arith)

  counts_hold : HasCounts p → (s : ℕ) → s < 4 → Holds s
  counts_hold counts = more 3 (more 2 (more 1 (more 0 none_before counts.releases) counts.budgets) counts.orders) counts.cleanings

  reached_hold : (m : ℕ) → IsMachineReached p m → (s : ℕ) → s < 7 → Holds s
  reached_hold m reached = more 6 (more 5 (more 4 (counts_hold reached.counts) reached.limits.releases) reached.limits.budgets) reached.limits.cleanings

  passed : (fault : ShapeFault) → IsFirstShapeFault p fault → (s : ℕ) → s < stage fault → Holds s
  passed ReleaseCount is = none_before
  passed BudgetCount is = more 0 none_before is.0
  passed OrderCount is = more 1 (more 0 none_before is.0) is.1
  passed CleanCount is = more 2 (more 1 (more 0 none_before is.0) is.1) is.2
  passed (ReleaseTooLarge job) is = counts_hold is.0
  passed (BudgetTooLarge job) is = more 4 (counts_hold is.0) is.1
  passed (CleanTooLarge machine) is = more 5 (more 4 (counts_hold is.0) is.1) is.2
  passed (JobOutOfRange machine place) is = reached_hold machine is.0.reached
  passed (NotOnRoute machine place) is = reached_hold machine is.0.reached
  passed (JobTwice machine place) is = reached_hold machine is.0.reached
  passed (JobMissing machine job) is = reached_hold machine is.0.reached

  fails : (fault : ShapeFault) → IsFirstShapeFault p fault → stage fault < 7 → Holds (stage fault) → ⊥
  fails ReleaseCount is early holds = is holds
  fails BudgetCount is early holds = is.1 holds
  fails OrderCount is early holds = is.2 holds
  fails CleanCount is early holds = is.3 holds
  fails (ReleaseTooLarge job) is early holds = omega (arith, holds job is.1, is.3)
  fails (BudgetTooLarge job) is early holds = omega (arith, holds job is.2, is.4)
  fails (CleanTooLarge machine) is early holds = omega (arith, holds machine is.3, is.5)
  fails (JobOutOfRange machine place) is early holds = omega arith
  fails (NotOnRoute machine place) is early holds = omega arith
  fails (JobTwice machine place) is early holds = omega arith
  fails (JobMissing machine job) is early holds = omega arith

  stage_few : (fault : ShapeFault) → stage fault ≤ 7
  stage_few ReleaseCount = omega arith
  stage_few BudgetCount = omega arith
  stage_few OrderCount = omega arith
  stage_few CleanCount = omega arith
  stage_few (ReleaseTooLarge job) = omega arith
  stage_few (BudgetTooLarge job) = omega arith
  stage_few (CleanTooLarge machine) = omega arith
  stage_few (JobOutOfRange machine place) = omega arith
  stage_few (NotOnRoute machine place) = omega arith
  stage_few (JobTwice machine place) = omega arith
  stage_few (JobMissing machine job) = omega arith

  same_stage : (a b : ShapeFault) → IsFirstShapeFault p a → IsFirstShapeFault p b → stage a ≡ stage b
  same_stage a b one other = go (cases_order (stage a) (stage b))
    where
      go : (stage a ≡ stage b) ⊎ ((stage a < stage b) ⊎ (stage b < stage a)) → stage a ≡ stage b
      go (inl same) = same
      go (inr (inl less)) = absurd (fails a one (omega (arith, stage_few b)) (passed b other (stage a) less))
      go (inr (inr past)) = absurd (fails b other (omega (arith, stage_few a)) (passed a one (stage b) past))

  -- all before machine m is sound, and its order isn't
  record IsBadMachine (m : ℕ) : Type 0 where
    reached : IsMachineReached p m
    bad : IsOrder p m → ⊥

  machine_once : (m n : ℕ) → IsBadMachine m → IsBadMachine n → m ≡ n
  machine_once m n one other = go (cases_order m n)
    where
      go : (m ≡ n) ⊎ ((m < n) ⊎ (n < m)) → m ≡ n
      go (inl same) = same
      go (inr (inl less)) = absurd (one.bad (other.reached.before m less))
      go (inr (inr past)) = absurd (other.bad (one.reached.before n past))

  -- all before place a is good, and that place isn't
  record IsBadPlace (m a : ℕ) : Type 0 where
    reached : IsPlaceReached p m a
    bad : IsGoodPlace p m a → ⊥

  place-machine : (m a : ℕ) → IsBadPlace m a → IsBadMachine m
  place-machine m a place = record { reached = place.reached.reached; bad = λ sound. place.bad (good_place p m a place.reached.in_range sound) }

  place_once : (m a n b : ℕ) → IsBadPlace m a → IsBadPlace n b → (m ≡ n) × (a ≡ b)
  place_once m a n b one other = (same, go (cases_order a b))
    where
      same : m ≡ n
      same = machine_once m n (place-machine m a one) (place-machine n b other)

      go : (a ≡ b) ⊎ ((a < b) ⊎ (b < a)) → a ≡ b
      go (inl is) = is
      go (inr (inl less)) = absurd (one.bad (subst (λ x. IsGoodPlace p x a) (sym same) (other.reached.before a less)))
      go (inr (inr past)) = absurd (other.bad (subst (λ x. IsGoodPlace p x b) same (one.reached.before b past)))

  range-place : (m a : ℕ) → IsFirstShapeFault p (JobOutOfRange m a) → IsBadPlace m a
  range-place m a (reached, past) = record { reached = reached; bad = λ good. let found = place-stands p m a reached.in_range good in omega (arith, visits_job p (job_at p m a) found.0 m found.1.visits) }

  route-place : (m a : ℕ) → IsFirstShapeFault p (NotOnRoute m a) → IsBadPlace m a
  route-place m a (reached, inside, elsewhere) = record { reached = reached; bad = λ good. let found = place-stands p m a reached.in_range good in elsewhere (found.0, found.1.visits) }

  twice-place : (m a : ℕ) → IsFirstShapeFault p (JobTwice m a) → IsBadPlace m a
  twice-place m a (reached, visitor, many) = record { reached = reached; bad = λ good. omega (arith, many, good) }

  missing-machine : (m j : ℕ) → IsFirstShapeFault p (JobMissing m j) → IsBadMachine m
  missing-machine m j (reached, few) = record {
    reached = reached.reached;
    bad = λ sound. omega (arith, few, none_missing p m j sound);
  }

  missing-no_place : (m j n a : ℕ) → IsFirstShapeFault p (JobMissing m j) → IsBadPlace n a → ⊥
  missing-no_place m j n a missing place =
      let same : m ≡ n = machine_once m n (missing-machine m j missing) (place-machine n a place) in
      place.bad (subst (λ x. IsGoodPlace p x a) same (missing.0.places a (subst (λ x. a < length (order p x)) (sym same) place.reached.in_range)))

  missing_once : (m j n i : ℕ) → IsFirstShapeFault p (JobMissing m j) → IsFirstShapeFault p (JobMissing n i) → (m ≡ n) × (j ≡ i)
  missing_once m j n i one other = (same, go (cases_order j i))
    where
      same : m ≡ n
      same = machine_once m n (missing-machine m j one) (missing-machine n i other)

      go : (j ≡ i) ⊎ ((j < i) ⊎ (i < j)) → j ≡ i
      go (inl is) = is
      go (inr (inl less)) = absurd (omega (arith, one.1, ap (λ x. visit_count p x j) same, ap (λ x. place_count p x j) same, other.0.before j less))
      go (inr (inr past)) = absurd (omega (arith, other.1, ap (λ x. visit_count p x i) same, ap (λ x. place_count p x i) same, one.0.before i past))

  job_same : (m a n b : ℕ) → IsBadPlace m a → IsBadPlace n b → job_at p m a ≡ job_at p n b
  job_same m a n b one other = let (same, place) = place_once m a n b one other in ap₂ (job_at p) same place

  visitor_inside : (m a : ℕ) → IsFirstShapeFault p (JobTwice m a) → job_at p m a < jobs p
  visitor_inside m a twice = visits_job p (job_at p m a) twice.1.0 m twice.1.1

  twice-visits : (m a n b : ℕ) → IsFirstShapeFault p (NotOnRoute m a) → IsFirstShapeFault p (JobTwice n b) → ⊥
  twice-visits m a n b one other =
      let (same, place) = place_once m a n b (route-place m a one) (twice-place n b other) in
      one.2 (subst (λ x. IsVisitor p x (job_at p m a)) (sym same) (subst (IsVisitor p n) (sym (ap₂ (job_at p) same place)) other.1))

  once : (a b : ShapeFault) → stage a ≡ stage b → IsFirstShapeFault p a → IsFirstShapeFault p b → a ≡ b
  once ReleaseCount ReleaseCount same one other = refl
  once BudgetCount BudgetCount same one other = refl
  once OrderCount OrderCount same one other = refl
  once CleanCount CleanCount same one other = refl
  once (ReleaseTooLarge i) (ReleaseTooLarge j) same one other = ap ReleaseTooLarge (least_once (release p) MAX_RELEASE i j one.2 one.3 other.2 other.3)
  once (BudgetTooLarge i) (BudgetTooLarge j) same one other = ap BudgetTooLarge (least_once (budget p) MAX_MOMENT i j one.3 one.4 other.3 other.4)
  once (CleanTooLarge i) (CleanTooLarge j) same one other = ap CleanTooLarge (least_once (clean p) MAX_CLEAN i j one.4 one.5 other.4 other.5)
  once (JobOutOfRange m a) (JobOutOfRange n b) same one other = let is = place_once m a n b (range-place m a one) (range-place n b other) in ap₂ JobOutOfRange is.0 is.1
  once (NotOnRoute m a) (NotOnRoute n b) same one other = let is = place_once m a n b (route-place m a one) (route-place n b other) in ap₂ NotOnRoute is.0 is.1
  once (JobTwice m a) (JobTwice n b) same one other = let is = place_once m a n b (twice-place m a one) (twice-place n b other) in ap₂ JobTwice is.0 is.1
  once (JobMissing m j) (JobMissing n i) same one other = let is = missing_once m j n i one other in ap₂ JobMissing is.0 is.1
  once (JobOutOfRange m a) (NotOnRoute n b) same one other = absurd (omega (arith, one.1, other.1, job_same m a n b (range-place m a one) (route-place n b other)))
  once (NotOnRoute m a) (JobOutOfRange n b) same one other = absurd (omega (arith, one.1, other.1, job_same m a n b (route-place m a one) (range-place n b other)))
  once (JobOutOfRange m a) (JobTwice n b) same one other = absurd (omega (arith, one.1, visitor_inside n b other, job_same m a n b (range-place m a one) (twice-place n b other)))
  once (JobTwice m a) (JobOutOfRange n b) same one other = absurd (omega (arith, other.1, visitor_inside m a one, job_same m a n b (twice-place m a one) (range-place n b other)))
  once (NotOnRoute m a) (JobTwice n b) same one other = absurd (twice-visits m a n b one other)
  once (JobTwice m a) (NotOnRoute n b) same one other = absurd (twice-visits n b m a other one)
  once (JobMissing m j) (JobOutOfRange n b) same one other = absurd (missing-no_place m j n b one (range-place n b other))
  once (JobMissing m j) (NotOnRoute n b) same one other = absurd (missing-no_place m j n b one (route-place n b other))
  once (JobMissing m j) (JobTwice n b) same one other = absurd (missing-no_place m j n b one (twice-place n b other))
  once (JobOutOfRange m a) (JobMissing n i) same one other = absurd (missing-no_place n i m a other (range-place m a one))
  once (NotOnRoute m a) (JobMissing n i) same one other = absurd (missing-no_place n i m a other (route-place m a one))
  once (JobTwice m a) (JobMissing n i) same one other = absurd (missing-no_place n i m a other (twice-place m a one))
  once a b same one other = absurd (omega (arith, same))

  pub shape_fault_once : (a b : ShapeFault) → IsFirstShapeFault p a → IsFirstShapeFault p b → a ≡ b
  shape_fault_once a b one other = once a b (same_stage a b one other) one other
