-- Changes that hold a machine, and the events by which a job more enters it.
use Rattle.std.specs.Prelude.{◌≡◌, ℕ, Bool, true, false, List, [], ◌∷◌, ◌++◌, Option, None, Some}
use Rattle.shop_base.specs.declared.report.Report.TheVariants.{Clean}
use Rattle.plan_revise.specs.declared.change.Change.{Change}
use Rattle.plan_revise.specs.declared.change.Change.TheVariants.{Hold}
use Rattle.plan_revise.specs.Held.{entry_at_once}
use Rattle.shop_base.specs.Cell.{Cell, cleaning}
use Rattle.shop_base.specs.Run.{Event, Reported}

-- the report that a machine's cleaning ends at moment t, where it is being cleaned since a moment
abbrev pub end_of_cleaning : Option ℕ → ℕ → ℕ → List Event
end_of_cleaning None machine t = []
end_of_cleaning (Some from) machine t = Reported (Clean machine t) ∷ []

-- behind it the job comes, and goes onto the machine
abbrev pub hold_events : Cell → ℕ → ℕ → ℕ → List Event
hold_events c machine j t = end_of_cleaning (cleaning c machine) machine t ++ entry_at_once machine j t

-- the change holds a machine
abbrev pub is_hold : Change → Bool
is_hold (Hold machine to) = true
is_hold change = false

-- none of the changes does
abbrev pub HoldNone : List Change → Type 0
HoldNone [] = Unit {0}
HoldNone (change ∷ changes) = (is_hold change ≡ false) × HoldNone changes
