-- The laws of limits: moments that every plan gives that keeps them, and what limits have to do with acceptance.
use Rattle.std.specs.Prelude.{◌≡◌, ◌≢◌, ℕ, ◌+◌, ◌*◌, ◌^◌, ◌<◌, ◌≤◌, ◌⊎◌, List, length, Option, Some}
use Rattle.shop_base.specs.declared.node.Node.{Node}
use Rattle.shop_base.specs.Shop.{step_at}
use Rattle.shop_base.specs.Plan.{PlannedShop, jobs, budget, clean_in, IsWellShaped}
use Rattle.shop_base.specs.Cell.{job_in, made, cleaning}
use Rattle.shop_base.specs.Movers.{due_of_job, due_of_cleaning}
use Rattle.shop_base.specs.Graph.{node}
use Rattle.shop_base.specs.Ahead.{next_node}
use Rattle.plan_verifier.specs.Accepted.{VerifiedPlan, IsVerified, IsAcceptable}
use Rattle.plan_verifier.specs.Held.{later_than}
use Rattle.plan_verifier.specs.RestVerdicts.{IsAcceptableAhead}
use Rattle.plan_bounds.specs.Bounds.{ShopTimes, times_of, job_count, route_in, IsVisit}
use Rattle.plan_limits.specs.declared.moments.TheConstants.{FINE}
use Rattle.plan_limits.specs.Stages.{Stage, bare, stage_at_start, HasSoundMoments, GoesOnFrom}
use Rattle.plan_limits.specs.Limits.{limit_of, KeepsLimits, KeepsLimitsFrom, NoPlanKeeps, NoPlanKeepsFrom}

module _ (s : Stage) where
  -- job i has left machine m by the place behind its step k, and the machine is clean, when job j enters it by its step l; each arc takes one fine unit more than its length, so that also one without length takes some time
  abbrev pub LeavesBefore : (Node → ℕ) → ℕ → ℕ → ℕ → ℕ → ℕ → Type 0
  LeavesBefore w m i k j l = w (node i (k + 1)) + (clean_in s.times.clean m * FINE + 1) ≤ w (node j l)

  -- moments of the nodes ahead, in fine units and of 64 bits, that respect what goes on, each arc of a job, and of any two visits to a machine one of the two arcs between them (Mascis and Pacciarelli, EJOR 143, 2002: a pair of alternative arcs)
  pub record AreFineMoments (w : Node → ℕ) : Type 0 where
    -- no job makes its next move before the present moment, or before what goes on with it is due: its arrival at its release
    pub next : (j : ℕ) → j < job_count s.times → made s.cell j ≤ length (route_in s.times j) → later_than s.present (due_of_job (bare s.times) j (job_in s.cell j)) * FINE ≤ w (next_node s.cell j)
    -- and none enters a machine that is being cleaned before that is due
    pub cleanings : (m j l due : ℕ) → IsVisit s.times m j l → made s.cell j ≤ l → due_of_cleaning (bare s.times) m (cleaning s.cell m) ≡ Some due → due * FINE ≤ w (node j l)
    pub routes : (j k : ℕ) → made s.cell j ≤ k → k < length (route_in s.times j) → w (node j k) + ((step_at (route_in s.times j) k).nominal * FINE + 1) ≤ w (node j (k + 1))
    pub machines : (m i k j l : ℕ) → i ≢ j → IsVisit s.times m i k → IsVisit s.times m j l → made s.cell i ≤ k → made s.cell j ≤ l → LeavesBefore w m i k j l ⊎ LeavesBefore w m j l i k
    -- a job enters a machine again when it has left it
    pub again : (m j k l : ℕ) → k < l → IsVisit s.times m j k → IsVisit s.times m j l → made s.cell j ≤ k → LeavesBefore w m j k j l
    -- a job that is on the machine leaves it before it is entered again
    pub holders : (m i k j l : ℕ) → IsVisit s.times m i k → IsVisit s.times m j l → made s.cell i ≡ k + 1 → made s.cell j ≤ l → LeavesBefore w m i k j l
    pub small : (j k : ℕ) → j < job_count s.times → made s.cell j ≤ k → k ≤ length (route_in s.times j) → w (node j k) < 2 ^ 64

  -- in whole time units, the leaving of each job that has a limit and isn't gone is at most the limit
  abbrev pub LeaveWithin : List (Option ℕ) → (Node → ℕ) → Type 0
  LeaveWithin limits w = (j n : ℕ) → j < job_count s.times → made s.cell j ≤ length (route_in s.times j) → limit_of limits j ≡ Some n → w (node j (length (route_in s.times j))) < n * FINE + FINE

-- a plan that goes on from a cell and keeps the limits gives such moments, whatever its orders
abbrev pub EveryPlanGivesMoments : Type 0
EveryPlanGivesMoments = (s : Stage) (p : PlannedShop) (limits : List (Option ℕ)) → HasSoundMoments s → GoesOnFrom s p → KeepsLimitsFrom s p limits → (w : Node → ℕ) × AreFineMoments s w × LeaveWithin s limits w

-- each budget is at most the limit that the job has
abbrev pub AreBudgetsWithin : PlannedShop → List (Option ℕ) → Type 0
AreBudgetsWithin p limits = (j n : ℕ) → j < jobs p → limit_of limits j ≡ Some n → budget p j ≤ n

-- a plan to be accepted keeps all limits that aren't below its budgets
abbrev pub AcceptablePlansKeepLimits : Type 0
AcceptablePlansKeepLimits = (p : PlannedShop) (limits : List (Option ℕ)) → AreBudgetsWithin p limits → IsAcceptable p → KeepsLimits p limits

-- so where no plan keeps the limits, none with such budgets is to be accepted, and none is verified
abbrev pub NeverIsNeverAccepted : Type 0
NeverIsNeverAccepted = (t : ShopTimes) (limits : List (Option ℕ)) → NoPlanKeeps t limits
    → ((p : PlannedShop) → IsWellShaped p → times_of p ≡ t → AreBudgetsWithin p limits → IsAcceptable p → ⊥)
    × ((v : VerifiedPlan) → IsVerified v → times_of v.planned ≡ t → AreBudgetsWithin v.planned limits → ⊥)

-- and none that goes on from a cell has a rest to be accepted
abbrev pub NeverIsNeverAcceptedFromThere : Type 0
NeverIsNeverAcceptedFromThere = (s : Stage) (limits : List (Option ℕ)) (p : PlannedShop) → NoPlanKeepsFrom s limits → GoesOnFrom s p → AreBudgetsWithin p limits → IsAcceptableAhead p s.cell s.present → ⊥

-- at the start all whole plans go on: where none that goes on keeps the limits no plan does
abbrev pub TheStartIsEveryPlan : Type 0
TheStartIsEveryPlan = (t : ShopTimes) (limits : List (Option ℕ)) → NoPlanKeepsFrom (stage_at_start t) limits → NoPlanKeeps t limits
