-- Promises that exclude each other: no plan keeps all of them, whatever its orders.
use Rattle.std.specs.Prelude.{◌≡◌, ◌≢◌, ◌⊎◌, ℕ, ◌<◌, Bool, List, [], ◌∷◌, length, All, AllPairs, Contains, true, false}
use Rattle.shop_base.specs.declared.limits.TheConstants.{MAX_MOMENT}
use Rattle.shop_base.specs.Plan.{PlannedShop, jobs, budget}
use Rattle.plan_verifier.specs.Accepted.{HasNoCycle}
use Rattle.alt_graph.specs.Solved.{HasCycle}
use Rattle.plan_bounds.specs.Bounds.{times_of}
use Rattle.plan_decide.specs.declared.decided.Exclusions.{Exclusions}
use Rattle.plan_decide.specs.declared.decided.Excluded.{Excluded}
use Rattle.plan_decide.specs.declared.decided.Excluded.TheVariants.{Alone, Pair, Several}
use Rattle.plan_decide.specs.Cases.{Past, nothing, run_to, Case, IsOutWithin, IsPlanOf, IsAcceptedFromPast, bound_in, budget_in, times_in}
use Rattle.plan_decide.specs.Promises.{IsPromised}

-- the plan keeps the promises to these jobs: its graph has no cycle, and no path to the leaving of one of them is longer than its budget, whatever is of the others
pub record KeepsPromises (t : Case) (js : List ℕ) (p : PlannedShop) : Type 0 where
  pub acyclic : HasNoCycle p
  pub out : (j : ℕ) → Contains js j → IsOutWithin t.past p j (budget_in t j)

-- the promises to these jobs exclude each other: no such plan keeps them all
abbrev pub AreExcluded : Case → List ℕ → Type 0
AreExcluded t js = (p : PlannedShop) → IsPlanOf t p → KeepsPromises t js p → ⊥

-- no such plan is without a cycle
abbrev pub AreAllCyclic : Case → Type 0
AreAllCyclic t = (p : PlannedShop) → IsPlanOf t p → HasNoCycle p → ⊥

-- some such plan is
pub record HasAcyclicPlan (t : Case) : Type 0 where
  pub plan : PlannedShop
  pub is : IsPlanOf t plan
  pub acyclic : HasNoCycle plan

-- an accepted plan with the budgets of the jobs that are meant, every other budget being the greatest that a plan may have
pub record HasPlanFor (t : Case) (is_meant : ℕ → Type 0) : Type 0 where
  pub plan : PlannedShop
  pub same : times_of plan ≡ times_in t
  pub accepted : IsAcceptedFromPast t.past plan
  pub meant : (j : ℕ) → is_meant j → budget plan j ≡ budget_in t j
  pub others : (j : ℕ) → j < jobs plan → (is_meant j → ⊥) → budget plan j ≡ MAX_MOMENT

-- each of these jobs is needed: without it, the promises to the others can be kept
abbrev pub AreNeeded : Case → List ℕ → Type 0
AreNeeded t js = (j : ℕ) → Contains js j → HasPlanFor t (λ i. Contains js i × (i ≢ j))

-- job j has a promise, and no such plan has it out by its budget, by its bound
pub record IsNeverInTime (t : Case) (j : ℕ) : Type 0 where
  pub promised : IsPromised t j
  pub late : budget_in t j < bound_in (times_in t) t.past j

-- job j has a promise, which its bound leaves possible
pub record IsInDoubt (t : Case) (j : ℕ) : Type 0 where
  pub promised : IsPromised t j
  pub possible : IsNeverInTime t j → ⊥

-- the jobs
abbrev pub jobs_in : Excluded → List ℕ
jobs_in (Alone j) = j ∷ []
jobs_in (Pair i j or_fewer) = i ∷ j ∷ []
jobs_in (Several js or_fewer) = js.items

-- each is needed, unless fewer may do
abbrev pub AreNeededUnless : Bool → Case → List ℕ → Type 0
AreNeededUnless true t js = Unit {0}
AreNeededUnless false t js = AreNeeded t js

-- of whole plans, a job alone is late by its bound
abbrev pub IsLateAlone : Past → Case → ℕ → Type 0
IsLateAlone nothing t j = IsNeverInTime t j
IsLateAlone (run_to base c present) t j = Unit {0}

-- what else is said of them: one alone is late by its bound, in whole plans; neither of a pair is; and of a pair or of several each is needed, where no fewer may do
abbrev pub IsSaidOf : Case → Excluded → Type 0
IsSaidOf t (Alone j) = IsLateAlone t.past t j
IsSaidOf t (Pair i j or_fewer) = IsInDoubt t i × IsInDoubt t j × AreNeededUnless or_fewer t (i ∷ j ∷ [])
IsSaidOf t (Several js or_fewer) = AreNeededUnless or_fewer t js.items

-- jobs that have promises, at least one, in ascending order, and these exclude each other
pub record IsExclusion (t : Case) (e : Excluded) : Type 0 where
  pub some : 0 < length (jobs_in e)
  pub promised : All (IsPromised t) (jobs_in e)
  pub ascending : AllPairs (λ i j. i < j) (jobs_in e)
  pub excluded : AreExcluded t (jobs_in e)
  pub said : IsSaidOf t e

-- one is listed before the other: jobs alone first, ascending, and then pairs, ascending; several are listed only where nothing else is
abbrev pub ComesBefore : Excluded → Excluded → Type 0
ComesBefore (Alone i) (Alone j) = i < j
ComesBefore (Alone i) (Pair k l fewer) = Unit {0}
ComesBefore (Alone i) (Several js fewer) = ⊥
ComesBefore (Pair i j or_fewer) (Alone k) = ⊥
ComesBefore (Pair i j or_fewer) (Pair k l fewer) = (i < k) ⊎ ((i ≡ k) × (j < l))
ComesBefore (Pair i j or_fewer) (Several js fewer) = ⊥
ComesBefore (Several js or_fewer) e = ⊥

-- what is known of two jobs: one is listed alone, both are listed as a pair, or some plan keeps both promises
pub data IsSettled (t : Case) (es : List Excluded) (i j : ℕ) : Type 0 where
  one_alone : Contains es (Alone i) → IsSettled t es i j
  other_alone : Contains es (Alone j) → IsSettled t es i j
  as_pair : (or_fewer : Bool) → Contains es (Pair i j or_fewer) → IsSettled t es i j
  together : HasPlanFor t (Contains (i ∷ j ∷ [])) → IsSettled t es i j

-- neither of a pair is listed alone
abbrev pub IsApart : List Excluded → Excluded → Type 0
IsApart es (Alone j) = Unit {0}
IsApart es (Pair i j or_fewer) = (Contains es (Alone i) → ⊥) × (Contains es (Alone j) → ⊥)
IsApart es (Several js or_fewer) = Unit {0}

-- this is neither one of the two alone, nor both as a pair
abbrev pub IsNotOf : ℕ → ℕ → Excluded → Type 0
IsNotOf i j (Alone k) = (k ≢ i) × (k ≢ j)
IsNotOf i j (Pair k l or_fewer) = k ≡ i → l ≡ j → ⊥
IsNotOf i j (Several js or_fewer) = Unit {0}

-- two jobs in doubt are listed neither alone nor as a pair
pub record HasUnlistedPair (t : Case) (es : List Excluded) : Type 0 where
  pub lesser : ℕ
  pub greater : ℕ
  pub ascending : lesser < greater
  pub doubt : IsInDoubt t lesser × IsInDoubt t greater
  pub unlisted : All (IsNotOf lesser greater) es

-- it is open if any plan is without a cycle only where the one that was given has a cycle
abbrev pub HasCycleIfOpen : PlannedShop → Exclusions → Type 0
HasCycleIfOpen p found = found.cycles_open ≡ true → HasCycle p

-- what is listed where no plan keeps all promises, though some plan is without a cycle, where that isn't open: some such jobs; each job that is never in time by its bound; and pairs of others, all of them that exclude each other, where none is open, which it is only where some pair isn't listed
pub record AreExclusions (t : Case) (found : Exclusions) : Type 0 where
  pub some : 0 < length found.listed.items
  pub each : All (IsExclusion t) found.listed.items
  pub order : AllPairs ComesBefore found.listed.items
  pub alone : (j : ℕ) → IsNeverInTime t j → Contains found.listed.items (Alone j)
  pub apart : All (IsApart found.listed.items) found.listed.items
  pub acyclic : found.cycles_open ≡ false → HasAcyclicPlan t
  pub pairs : found.pairs_open ≡ false → (i j : ℕ) → i < j → IsInDoubt t i → IsInDoubt t j → IsSettled t found.listed.items i j
  pub left : found.pairs_open ≡ true → HasUnlistedPair t found.listed.items

-- no job is never in time by its bound
abbrev pub NoneIsAlone : Case → Type 0
NoneIsAlone t = (j : ℕ) → IsNeverInTime t j → ⊥
