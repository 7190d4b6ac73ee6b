-- The activity that is reported first, of those whose turns were looked at.
use Rattle.std.specs.Prelude.{◌≡◌, ℕ, ◌<◌, ◌≤◌, ◌⊎◌, max}
use Rattle.shop_base.specs.declared.report.Report.{Report}
use Rattle.shop_base.specs.Plan.{PlannedShop}
use Rattle.shop_base.specs.Cell.{Cell}
use Rattle.shop_base.specs.Activity.{Activity, GoesOn}
use Rattle.shop_base.specs.Report.{ended, at}
use Rattle.cell_control.specs.Readings.{IsOnTime}
use Rattle.plan_moves.specs.NextReports.{report_turn}
use Rattle.plan_moves.specs.declared.next_report.Soonest.{Soonest}

module _ (p : PlannedShop) (c : Cell) where
  -- the activity of turn k goes on, and is due at a moment
  abbrev pub IsDueAt : ℕ → ℕ → Type 0
  IsDueAt k due = (a : Activity) × (report_turn p a ≡ k) × GoesOn p c a due

  -- it is, and at no other moment
  abbrev pub IsDueOnlyAt : ℕ → ℕ → Type 0
  IsDueOnlyAt k due = IsDueAt k due × ((other : ℕ) → IsDueAt k other → other ≡ due)

  -- of the first n turns nothing goes on
  abbrev pub IsIdleBelow : ℕ → Type 0
  IsIdleBelow n = (k due : ℕ) → k < n → IsDueAt k due → ⊥

  -- something of turn k goes on
  abbrev pub IsTurn : ℕ → Type 0
  IsTurn k = (due : ℕ) × IsDueAt k due

  -- the report says that what goes on of this turn has ended, at this moment
  pub record IsReportAt (s : Soonest) (r : Report) : Type 0 where
    pub turn_is : report_turn p (ended r) ≡ s.turn
    pub at_is : at r ≡ s.at
    pub due : ℕ
    pub going : GoesOn p c (ended r) due

module _ (p : PlannedShop) (t : ℕ) (c : Cell) where
  -- nothing is reported before what is due at this moment: it is no later than the present moment t, or nothing that goes on is due earlier
  abbrev pub ComesFirst : ℕ → Type 0
  ComesFirst due = (due ≤ t) ⊎ IsOnTime p c due

  -- what goes on of turn k, if anything does, doesn't come first
  abbrev pub IsPassedOver : ℕ → Type 0
  IsPassedOver k = (due : ℕ) → IsDueAt p c k due → ComesFirst due → ⊥

  -- what goes on of turn k does, at this moment
  pub record IsFirstAt (k : ℕ) (s : Soonest) : Type 0 where
    pub turn_is : s.turn ≡ k
    pub due : ℕ
    pub goes_on : IsDueOnlyAt p c k due
    pub when : s.at ≡ max due t
    pub first : ComesFirst due

  -- of the first n turns this one is reported first, at this moment
  pub record IsSoonest (n : ℕ) (s : Soonest) : Type 0 where
    pub within : s.turn < n
    pub due : ℕ
    pub goes_on : IsDueOnlyAt p c s.turn due
    pub when : s.at ≡ max due t
    pub soonest : (k other : ℕ) → k < n → IsDueAt p c k other → s.at ≤ max other t
    pub first : (k other : ℕ) → k < s.turn → IsDueAt p c k other → s.at < max other t
