-- A job that goes another way from here: machine by machine, as far behind in each order as it can without a cycle.
use Rattle.std.specs.Prelude.{◌≡◌, ℕ, ◌<◌, ◌≤◌, List, [], ◌∷◌, ◌++◌, length, take, slice_set, insert}
use Rattle.shop_base.specs.declared.shop.Step.{Step}
use Rattle.shop_base.specs.Plan.{PlannedShop, route, order, job_at, release, budget}
use Rattle.shop_base.specs.Cell.{entries}
use Rattle.plan_verifier.specs.Accepted.{HasNoCycle}
use Rattle.plan_revise.specs.Ended.{with_job_ended}
use Rattle.plan_revise.specs.Placed.{placed}
use Rattle.plan_revise.specs.Dates.{promised_by}
use Rattle.plan_revise.specs.Settings.{RevisionSetting, moves_made}

-- job j has one step more, behind its others, and stands for it at place a of the order of that step's machine
abbrev pub with_visit_at : PlannedShop → ℕ → Step → ℕ → PlannedShop
with_visit_at p j step a = record {
  shop = record p.shop { routes = slice_set p.shop.routes j (route p j ++ step ∷ []) };
  plan = record p.plan { order = slice_set p.plan.order step.machine (insert (order p step.machine) a j) };
}

-- outside job j leaves all orders, and goes last in each on its way
abbrev pub sent_outside : PlannedShop → ℕ → List Step → PlannedShop
sent_outside p j steps = placed (with_job_ended p j 0) j steps (release p j) (budget p j)

module _ (s : RevisionSetting) where
  module _ (p : PlannedShop) (j : ℕ) where
    -- job j can have place a in the order of machine m for a visit more: behind the jobs that have entered, and behind its own places there
    pub record IsOpenPlace (m a : ℕ) : Type 0 where
      pub within : a ≤ length (order p m)
      pub behind_entries : length (entries s.cell m) ≤ a
      pub behind_own : (b : ℕ) → b < length (order p m) → job_at p m b ≡ j → b < a

    -- at each such place the step brings a cycle
    abbrev pub LocksEverywhere : Step → Type 0
    LocksEverywhere step = (a : ℕ) → IsOpenPlace step.machine a → HasNoCycle (with_visit_at p j step a) → ⊥

    -- the step goes as far behind as it can without a cycle
    pub record IsFurthestBehind (step : Step) (q : PlannedShop) : Type 0 where
      pub place : ℕ
      pub free : IsOpenPlace step.machine place
      pub acyclic : HasNoCycle (with_visit_at p j step place)
      pub furthest : (a : ℕ) → place < a → IsOpenPlace step.machine a → HasNoCycle (with_visit_at p j step a) → ⊥
      pub is : q ≡ with_visit_at p j step place

  -- these steps do, one after the other
  abbrev pub AreFurthestBehind : PlannedShop → ℕ → List Step → PlannedShop → Type 0
  AreFurthestBehind p j [] q = q ≡ p
  AreFurthestBehind p j (step ∷ steps) q = (next : PlannedShop) × IsFurthestBehind p j step next × AreFurthestBehind next j steps q

  module _ (p : PlannedShop) (j : ℕ) where
    -- the steps that job j has entered, and these behind them
    abbrev pub way_on : List Step → List Step
    way_on steps = take (moves_made s j) (route p j) ++ steps

    -- in the cell it ends behind the steps that it has entered, and goes on by these
    pub record IsSentInside (steps : List Step) (q : PlannedShop) : Type 0 where
      pub sent : PlannedShop
      pub behind : AreFurthestBehind (with_job_ended p j (moves_made s j)) j steps sent
      pub is : q ≡ promised_by sent j (budget p j)
