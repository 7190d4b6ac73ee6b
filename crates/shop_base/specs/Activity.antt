-- The activities that go on in a cell, and when each of them is due.
use Rattle.std.specs.Prelude.{◌≡◌, ℕ, ◌+◌, Some, false}
use Rattle.shop_base.specs.Plan.{PlannedShop, release, nominal, clean}
use Rattle.shop_base.specs.Cell.{Cell, IsOutside, IsOn, ready, since, cleaning}

-- what goes on in a cell: a job's arrival, a job's operation on a machine, the cleaning of a machine
pub data Activity : Type 0 where
  Arrival : (job : ℕ) → Activity
  Operation : (job machine : ℕ) → Activity
  Cleaning : (machine : ℕ) → Activity

module _ (p : PlannedShop) (c : Cell) where
  -- job j is outside and hasn't arrived: its arrival is due at its release
  pub record IsAwaited (j due : ℕ) : Type 0 where
    pub outside : IsOutside c j
    pub not_ready : ready c j ≡ false
    pub is_due : due ≡ release p j

  -- job j is on machine m for its step k, and not ready: that operation is due its nominal time after the entry
  pub record IsWorked (j k m due : ℕ) : Type 0 where
    pub on : IsOn p c j k m
    pub not_ready : ready c j ≡ false
    pub is_due : due ≡ since c j + nominal p j k

  -- machine m is being cleaned since a moment: the cleaning is due its cleaning time after that
  pub record IsCleaned (m from due : ℕ) : Type 0 where
    pub is_cleaned : cleaning c m ≡ Some from
    pub is_due : due ≡ from + clean p m

  -- the activity is going on, and it is due at this moment
  abbrev pub GoesOn : Activity → ℕ → Type 0
  GoesOn (Arrival j) due = IsAwaited j due
  GoesOn (Operation j m) due = (k : ℕ) × IsWorked j k m due
  GoesOn (Cleaning m) due = (from : ℕ) × IsCleaned m from due

  -- no activity is going on
  abbrev pub IsIdle : Type 0
  IsIdle = (a : Activity) (due : ℕ) → GoesOn a due → ⊥
