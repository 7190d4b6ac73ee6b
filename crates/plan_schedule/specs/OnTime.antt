-- Runs whose events come at just the moments of a schedule.
use Rattle.std.specs.Prelude.{◌≡◌, ℕ, ◌+◌, ◌<◌, List, [], ◌∷◌, length, Option}
use Rattle.shop_base.specs.{declared.node.Node.Node, Plan.PlannedShop, Plan.steps, Plan.release, Plan.clean, Plan.Stands}
use Rattle.shop_base.specs.Cell.{Cell, made, entries, IsOn}
use Rattle.shop_base.specs.{Activity.Activity, Activity.Arrival, Activity.Operation, Activity.Cleaning, Report.ended, Report.at}
use Rattle.shop_base.specs.Run.{Event, Reported, Moved, after}
use Rattle.plan_schedule.specs.Schedules.{visit_of}

-- the last visit of machine m so far is that of job j by its step k
abbrev pub IsLastVisit : PlannedShop → Cell → ℕ → ℕ → ℕ → Type 0
IsLastVisit p c j k m = (a : ℕ) × (length (entries c m) ≡ a + 1) × Stands p m a j k

module _ (p : PlannedShop) (moments : Node → ℕ) (due : Node → Option ℕ) where
  -- at moment t the activity ends as it is scheduled: an arrival at its job's release, an operation as its visit ends, a cleaning its time after the job of the machine's last visit leaves
  abbrev pub EndsOnTime : Cell → Activity → ℕ → Type 0
  EndsOnTime c (Arrival j) t = t ≡ release p j
  EndsOnTime c (Operation j m) t = (k : ℕ) × IsOn p c j k m × (t ≡ (visit_of p moments due j k).to)
  EndsOnTime c (Cleaning m) t = (j : ℕ) × (k : ℕ) × IsLastVisit p c j k m × (t ≡ (visit_of p moments due j k).leaves + clean p m)

  -- at moment t job j moves as it is scheduled: as it leaves the visit behind it, and as the next one begins
  pub record MovesOnTime (c : Cell) (j t : ℕ) : Type 0 where
    pub leaves : (k : ℕ) → made c j ≡ k + 1 → t ≡ (visit_of p moments due j k).leaves
    pub enters : made c j < steps p j → t ≡ (visit_of p moments due j (made c j)).from

  -- each report and each move among the events comes as it is scheduled
  abbrev pub AreOnTime : Cell → List Event → Type 0
  AreOnTime c [] = Unit {0}
  AreOnTime c (Reported r ∷ es) = EndsOnTime c (ended r) (at r) × AreOnTime (after p c (Reported r)) es
  AreOnTime c (Moved o ∷ es) = MovesOnTime c o.job o.at × AreOnTime (after p c (Moved o)) es
