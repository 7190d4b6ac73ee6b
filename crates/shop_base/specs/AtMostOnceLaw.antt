-- The law that an accepted report isn't accepted again.
use Rattle.std.specs.Prelude.{◌≡◌, ℕ, ◌<◌, ◌≤◌, List, [], ◌∷◌, ◌++◌, ◌⊎◌}
use Rattle.shop_base.specs.declared.move_order.Spot.TheVariants.{At}
use Rattle.shop_base.specs.declared.report.Report.{Report}
use Rattle.shop_base.specs.Plan.{PlannedShop, Visits, IsWellShaped}
use Rattle.shop_base.specs.Activity.{Activity, Arrival, Operation, Cleaning}
use Rattle.shop_base.specs.Report.{ended, at, CanReport}
use Rattle.shop_base.specs.Run.{Event, Reported, Moved, IsRun, ends_in}

-- among the events the job leaves the machine
abbrev pub HasLeft : ℕ → ℕ → List Event → Type 0
HasLeft j m [] = ⊥
HasLeft j m (Reported r ∷ es) = HasLeft j m es
HasLeft j m (Moved o ∷ es) = ((o.job ≡ j) × (o.source ≡ At m)) ⊎ HasLeft j m es

-- among the events is the end of an operation on the machine, and behind it the job of that operation leaves it
abbrev pub HasWorked : ℕ → List Event → Type 0
HasWorked m [] = ⊥
HasWorked m (Reported r ∷ es) = ((j : ℕ) × (ended r ≡ Operation j m) × HasLeft j m es) ⊎ HasWorked m es
HasWorked m (Moved o ∷ es) = HasWorked m es

-- none of the reports among the events is at a later moment
abbrev pub IsNoneLater : ℕ → List Event → Type 0
IsNoneLater t [] = Unit {0}
IsNoneLater t (Reported r ∷ es) = (at r ≤ t) × IsNoneLater t es
IsNoneLater t (Moved o ∷ es) = IsNoneLater t es

-- step l of the route is on the same machine as the earlier step k
pub record IsVisitedAgain (p : PlannedShop) (j k l m : ℕ) : Type 0 where
  pub first : Visits p j k m
  pub again : Visits p j l m
  pub later : k < l

-- the activity may go on once more: a cleaning once an operation on that machine has ended and its job has left, an operation once its job has left, where the route visits the machine again
abbrev pub MayRecur : PlannedShop → Activity → List Event → Type 0
MayRecur p (Arrival j) fs = ⊥
MayRecur p (Operation j m) fs = ((k : ℕ) × (l : ℕ) × IsVisitedAgain p j k l m) × HasLeft j m fs
MayRecur p (Cleaning m) fs = HasWorked m fs

-- in any run, once an end was reported it can be reported again only where its activity may go on once more, and at no moment before that of a report since
abbrev pub NoEndIsAcceptedTwice : Type 0
NoEndIsAcceptedTwice = (p : PlannedShop) (es fs : List Event) (r again : Report) → IsWellShaped p → IsRun p (es ++ Reported r ∷ fs)
    → ended again ≡ ended r → CanReport p (ends_in p (es ++ Reported r ∷ fs)) again → MayRecur p (ended r) fs × IsNoneLater (at again) fs
