-- Punctual and exact reports: no later than any activity is due, and exactly when their own is; and reports that aren't early.
use Rattle.std.specs.Prelude.{ℕ, ◌≤◌, ◌⊎◌, List, [], ◌∷◌}
use Rattle.shop_base.specs.declared.report.Report.{Report}
use Rattle.shop_base.specs.Plan.{PlannedShop}
use Rattle.shop_base.specs.Cell.{Cell}
use Rattle.shop_base.specs.Activity.{Activity, GoesOn}
use Rattle.shop_base.specs.Report.{ended, at}
use Rattle.shop_base.specs.Run.{Event, Reported, Moved, after}

module _ (p : PlannedShop) (c : Cell) where
  -- the report is no later than any activity going on is due, its own included
  abbrev pub IsPunctual : Report → Type 0
  IsPunctual r = (a : Activity) (due : ℕ) → GoesOn p c a due → at r ≤ due

  -- it is punctual, and its own activity goes on and is due at exactly its moment
  pub record IsExact (r : Report) : Type 0 where
    pub punctual : IsPunctual r
    pub due : GoesOn p c (ended r) (at r)

  -- it comes when its own activity is due, or later
  pub record IsNotEarly (r : Report) : Type 0 where
    pub due : ℕ
    pub going : GoesOn p c (ended r) due
    pub later : due ≤ at r

-- the report is no later than moment t, or than any activity going on is due: what was overdue at t ends at t
abbrev pub IsPunctualFrom : PlannedShop → ℕ → Cell → Report → Type 0
IsPunctualFrom p t c r = (a : Activity) (due : ℕ) → GoesOn p c a due → (at r ≤ t) ⊎ (at r ≤ due)

module _ (p : PlannedShop) where
  -- each report among the events is so, in the cell before it
  abbrev pub EachReport : (Cell → Report → Type 0) → Cell → List Event → Type 0
  EachReport P c [] = Unit {0}
  EachReport P c (Reported r ∷ es) = P c r × EachReport P (after p c (Reported r)) es
  EachReport P c (Moved o ∷ es) = EachReport P (after p c (Moved o)) es

  -- each is punctual
  abbrev pub ArePunctual : Cell → List Event → Type 0
  ArePunctual = EachReport (IsPunctual p)

  -- each is exact
  abbrev pub AreExact : Cell → List Event → Type 0
  AreExact = EachReport (IsExact p)

  -- none is early
  abbrev pub AreNotEarly : Cell → List Event → Type 0
  AreNotEarly = EachReport (IsNotEarly p)

  -- each is punctual, or no later than moment t
  abbrev pub ArePunctualFrom : ℕ → Cell → List Event → Type 0
  ArePunctualFrom t = EachReport (IsPunctualFrom p t)
