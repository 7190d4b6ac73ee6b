-- The laws that a run which keeps another plan is one of that plan, and that a run of both plans keeps the other.
use Rattle.std.specs.Prelude.{◌≡◌, ℕ, ◌<◌, List}
use Rattle.shop_base.specs.{Plan.PlannedShop, Plan.machines, Plan.clean, Plan.IsWellShaped, Cell.Cell}
use Rattle.shop_base.specs.{Run.Event, Run.IsRun, Run.ends_in, ReportsLeft.departures}
use Rattle.cell_tables.specs.{Kept.KeepsSoFar, Carried.IsCarried}

-- a run of plan p that keeps plan q, as its last cell shows, is a run of plan q, which ends with that cell as one of plan q
abbrev pub AKeptRunIsOneOfTheOtherPlan : Type 0
AKeptRunIsOneOfTheOtherPlan = (p q : PlannedShop) (es : List Event) → IsWellShaped p → IsWellShaped q → IsRun p es → KeepsSoFar p (ends_in p es) q
    → IsRun q es × IsCarried p (ends_in p es) q (ends_in q es)

-- where plan q gives a machine a cleaning time and plan p doesn't, no job has left it
abbrev pub NoneHasLeftUncleaned : PlannedShop → Cell → PlannedShop → Type 0
NoneHasLeftUncleaned p c q = (m : ℕ) → m < machines p → clean p m ≡ 0 → 0 < clean q m → departures p c m ≡ 0

-- a run of both plans keeps plan q, as its last cell shows, unless a job has left a machine to which q alone gives a cleaning time: no cell of plan p shows when
abbrev pub ARunOfBothPlansIsKept : Type 0
ARunOfBothPlansIsKept = (p q : PlannedShop) (es : List Event) → IsWellShaped p → IsWellShaped q → IsRun p es → IsRun q es → NoneHasLeftUncleaned p (ends_in p es) q
    → KeepsSoFar p (ends_in p es) q
