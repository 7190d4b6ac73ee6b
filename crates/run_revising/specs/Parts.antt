-- The parts of changes that are made at once: each up to one that holds a machine.
use Rattle.std.specs.Prelude.{◌≡◌, ◌⊎◌, ℕ, ◌+◌, ◌<◌, ◌≤◌, ◌^◌, List, [], ◌∷◌, ◌++◌, take, length, Option, None, Some}
use Rattle.shop_base.specs.Plan.{PlannedShop}
use Rattle.shop_base.specs.Run.{Event}
use Rattle.plan_revise.specs.declared.change.Change.{Change}
use Rattle.plan_revise.specs.declared.change.Change.TheVariants.{Hold}
use Rattle.plan_revise.specs.declared.change.NotRevised.{NotRevised}
use Rattle.plan_revise.specs.declared.change.NotRevised.TheVariants.{Refused, Memory}
use Rattle.run_revising.specs.Holding.{HoldNone}
use Rattle.run_revising.specs.RunChanges.{ChangingRun, unchanged, AreRunChanges}

-- the last of the changes holds this machine, and no other holds one
pub record HoldsLast (changes : List Change) (machine : ℕ) : Type 0 where
  pub front : List Change
  pub none : HoldNone front
  pub to : ℕ
  pub is : changes ≡ front ++ Hold machine to ∷ []

-- so, or none of them holds one
abbrev pub IsPart : List Change → Type 0
IsPart changes = HoldNone changes ⊎ ((machine : ℕ) × HoldsLast changes machine)

-- this machine is held by the last of them
abbrev pub IsHeldLast : List Change → Option ℕ → Type 0
IsHeldLast changes None = HoldNone changes
IsHeldLast changes (Some machine) = HoldsLast changes machine

-- the first n changes are those up to the first that holds a machine, or all where none does
pub record IsPartLength (changes : List Change) (n : ℕ) : Type 0 where
  pub within : n ≤ length changes
  pub ends : ((n ≡ length changes) × HoldNone changes) ⊎ ((machine : ℕ) × HoldsLast (take n changes) machine)

-- the place of a change that can't be, counted behind n changes, is one of a list
abbrev pub IsPlaceBehind : ℕ → NotRevised → Type 0
IsPlaceBehind n (Refused place fault) = n + place < 2 ^ 64
IsPlaceBehind n Memory = Unit {0}

-- the answer where n changes were made before
abbrev pub placed_behind : ℕ → NotRevised → NotRevised
placed_behind n (Refused place fault) = Refused (n + place) fault
placed_behind n Memory = Memory

module _ (plant t : ℕ) (start : ChangingRun) (changes : List Change) (q : PlannedShop) (events : List Event) where
  -- the changes make a plan and events of the run
  pub record AreAllMade : Type 0 where
    pub last : ChangingRun
    pub made : AreRunChanges plant t start changes last
    pub reached : q ≡ last.reached
    pub all_events : events ≡ last.events

  -- they change the plan alone, or the run behind them is one of this plan
  abbrev pub IsPartMade : Type 0
  IsPartMade = (HoldNone changes × AreRunChanges plant t start changes (record start { reached = q }) × (events ≡ start.events)) ⊎ AreRunChanges plant t start changes (unchanged q events)
