-- The first reason for which a report isn't possible.
use Rattle.std.specs.Prelude.{◌≡◌, ◌≢◌, ℕ, ◌<◌, ◌≤◌, true, false, None, ◌⊎◌}
use Rattle.shop_base.specs.{declared.limits.TheConstants.MAX_MOMENT, declared.report.Report.Report}
use Rattle.shop_base.specs.{Plan.PlannedShop, Plan.jobs, Plan.machines, Report.ended, Report.at, Report.IsNextMoment}
use Rattle.shop_base.specs.Cell.{Cell, ready, cleaning, IsOutside, IsOn, IsGone}
use Rattle.shop_base.specs.Activity.{Activity, Arrival, Operation, Cleaning}
use Rattle.cell_tables.specs.Readings.{IsCleanedAfter}
use Rattle.cell_control.specs.declared.report_fault.ReportFault.{ReportFault}
use Rattle.cell_control.specs.declared.report_fault.ReportFault.TheVariants.{JobOutOfRange, MachineOutOfRange, StepOutOfRange, MomentTooLarge, Backwards, NotExpected, WrongKind, WrongMachine}

-- an activity of a job, or the cleaning of a machine, of the shop
abbrev pub IsOfShop : PlannedShop → Activity → Type 0
IsOfShop p (Arrival j) = j < jobs p
IsOfShop p (Operation j m) = j < jobs p
IsOfShop p (Cleaning m) = m < machines p

-- the job of the activity is ready or gone, so it has none, or the machine isn't being cleaned
abbrev pub IsUnexpected : PlannedShop → Cell → Activity → Type 0
IsUnexpected p c (Arrival j) = (ready c j ≡ true) ⊎ IsGone p c j
IsUnexpected p c (Operation j m) = (ready c j ≡ true) ⊎ IsGone p c j
IsUnexpected p c (Cleaning m) = cleaning c m ≡ None

-- a report that is of the shop, and at a moment that can be the next
pub record IsInTurn (p : PlannedShop) (c : Cell) (r : Report) : Type 0 where
  pub of_shop : IsOfShop p (ended r)
  pub moment : IsNextMoment c (at r)

-- job j has an activity: it is neither ready nor gone
pub record IsBusy (p : PlannedShop) (c : Cell) (j : ℕ) : Type 0 where
  pub not_ready : ready c j ≡ false
  pub not_gone : IsGone p c j → ⊥

-- the job of the activity has one, but of the other kind: it is on a machine and not to arrive, or outside and on no machine
abbrev pub IsOtherKind : PlannedShop → Cell → Activity → Type 0
IsOtherKind p c (Arrival j) = IsBusy p c j × (IsOutside c j → ⊥)
IsOtherKind p c (Operation j m) = IsBusy p c j × IsOutside c j
IsOtherKind p c (Cleaning m) = ⊥

-- the activity is an operation, and its job is on this machine, another, and busy there
abbrev pub IsElsewhere : PlannedShop → Cell → Activity → ℕ → Type 0
IsElsewhere p c (Arrival j) actual = ⊥
IsElsewhere p c (Operation j m) actual = IsBusy p c j × ((k : ℕ) × IsOn p c j k actual) × (actual ≢ m)
IsElsewhere p c (Cleaning m) actual = ⊥

-- the report is of a job that is none of the shop's
abbrev pub IsOfNoJob : PlannedShop → Activity → Type 0
IsOfNoJob p (Arrival j) = jobs p ≤ j
IsOfNoJob p (Operation j m) = jobs p ≤ j
IsOfNoJob p (Cleaning m) = ⊥

-- the report is of the cleaning of a machine that is none of the shop's
abbrev pub IsOfNoMachine : PlannedShop → Activity → Type 0
IsOfNoMachine p (Arrival j) = ⊥
IsOfNoMachine p (Operation j m) = ⊥
IsOfNoMachine p (Cleaning m) = machines p ≤ m

-- this is the first reason for which a report isn't possible
abbrev pub IsFirstReason : PlannedShop → Cell → Report → ReportFault → Type 0
IsFirstReason p c r JobOutOfRange = IsOfNoJob p (ended r)
IsFirstReason p c r MachineOutOfRange = IsOfNoMachine p (ended r)
IsFirstReason p c r StepOutOfRange = ⊥
IsFirstReason p c r MomentTooLarge = IsOfShop p (ended r) × (MAX_MOMENT < at r)
IsFirstReason p c r (Backwards last) = IsOfShop p (ended r) × (at r ≤ MAX_MOMENT) × (at r < c.last) × (last ≡ c.last)
IsFirstReason p c r NotExpected = IsInTurn p c r × IsUnexpected p c (ended r)
IsFirstReason p c r WrongKind = IsInTurn p c r × IsOtherKind p c (ended r)
IsFirstReason p c r (WrongMachine actual) = IsInTurn p c r × IsElsewhere p c (ended r) actual

-- no fault but this one is a first reason against the report, its fields included
abbrev pub IsOnlyReason : PlannedShop → Cell → Report → ReportFault → Type 0
IsOnlyReason p c r fault = (other : ReportFault) → IsFirstReason p c r other → other ≡ fault

-- the report that machine m was cleaned after job j, at moment t, is possible
pub record CanCleanAfter (p : PlannedShop) (c : Cell) (m j t : ℕ) : Type 0 where
  pub after : IsCleanedAfter p c m j
  pub moment : IsNextMoment c t

-- the machine and the job are of the shop
abbrev pub AreOfShop : PlannedShop → ℕ → ℕ → Type 0
AreOfShop p m j = (m < machines p) × (j < jobs p)

-- this is the first reason for which it isn't
abbrev pub IsFirstCleanReason : PlannedShop → Cell → ℕ → ℕ → ℕ → ReportFault → Type 0
IsFirstCleanReason p c m j t MachineOutOfRange = machines p ≤ m
IsFirstCleanReason p c m j t JobOutOfRange = (m < machines p) × (jobs p ≤ j)
IsFirstCleanReason p c m j t MomentTooLarge = AreOfShop p m j × (MAX_MOMENT < t)
IsFirstCleanReason p c m j t (Backwards last) = AreOfShop p m j × (t ≤ MAX_MOMENT) × (t < c.last) × (last ≡ c.last)
IsFirstCleanReason p c m j t NotExpected = AreOfShop p m j × IsNextMoment c t × (IsCleanedAfter p c m j → ⊥)
IsFirstCleanReason p c m j t _ = ⊥

-- this is the first reason against the moment of a report
abbrev pub IsMomentReason : Cell → ℕ → ReportFault → Type 0
IsMomentReason c t MomentTooLarge = MAX_MOMENT < t
IsMomentReason c t (Backwards last) = (t ≤ MAX_MOMENT) × (t < c.last) × (last ≡ c.last)
IsMomentReason c t _ = ⊥

-- this is the first reason against any report of the job at this moment
abbrev pub IsJobReason : PlannedShop → Cell → ℕ → ℕ → ReportFault → Type 0
IsJobReason p c j t JobOutOfRange = jobs p ≤ j
IsJobReason p c j t MomentTooLarge = (j < jobs p) × (MAX_MOMENT < t)
IsJobReason p c j t (Backwards last) = (j < jobs p) × (t ≤ MAX_MOMENT) × (t < c.last) × (last ≡ c.last)
IsJobReason p c j t NotExpected = (j < jobs p) × IsNextMoment c t × ((ready c j ≡ true) ⊎ IsGone p c j)
IsJobReason p c j t _ = ⊥

-- a job of the shop that has an activity, at a moment that can be the next
pub record IsBusyInTurn (p : PlannedShop) (c : Cell) (j t : ℕ) : Type 0 where
  pub of_shop : j < jobs p
  pub moment : IsNextMoment c t
  pub busy : IsBusy p c j
