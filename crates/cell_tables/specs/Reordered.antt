-- A plan with other orders, and the rest of a run by it.
use Rattle.std.specs.Prelude.{◌≡◌, ℕ, ◌<◌, ◌≤◌, ◌↔◌, List, [], length, slice_index_or}
use Rattle.shop_base.specs.{Plan.ShopPlan, Plan.PlannedShop, Plan.order, Plan.IsWellShaped, Vectors.lists_of}
use Rattle.shop_base.specs.{Cell.Cell, Cell.entries, Move.IsPrefix}
use Rattle.cell_tables.specs.declared.reordering.Replaced.{Replaced}
use Rattle.cell_tables.specs.declared.reordering.Replaced.TheVariants.{Fits, Stays}
use Rattle.cell_tables.specs.declared.rest_reordering.RestReordered.{RestReordered}
use Rattle.cell_tables.specs.declared.rest_reordering.RestReordered.TheVariants.{Fits as FitsRest, Stays as StaysRest}
use Rattle.cell_tables.specs.{Kept.KeepsSoFar, Rests.RestOfRun, Rests.IsReached}

-- the numbers of the plan, and these orders
abbrev pub with_orders : ShopPlan → List (List ℕ) → ShopPlan
with_orders plan order = record { release = plan.release; budget = plan.budget; order = order; clean = plan.clean }

-- the plan with these orders: all else is the same
abbrev pub reordered : PlannedShop → List (List ℕ) → PlannedShop
reordered p order = record { shop = p.shop; plan = with_orders p.plan order }

-- the plans differ in their orders alone
abbrev pub IsReordered : PlannedShop → PlannedShop → Type 0
IsReordered p q = q ≡ reordered p q.plan.order

-- what comes of the orders of a plan that are replaced: the plan with the new ones and the old ones, or the plan again
abbrev pub IsReplaced : PlannedShop → List (List ℕ) → Replaced → Type 0
IsReplaced p order (Fits shaped old) = (shaped ≡ reordered p order) × (p ≡ reordered shaped (lists_of old.items)) × IsWellShaped p × IsWellShaped shaped
IsReplaced p order (Stays back) = (back ≡ p) × (IsWellShaped (reordered p order) → ⊥)

-- the entries of the cell begin the plan's orders
abbrev pub BeginsWithEntries : Cell → PlannedShop → Type 0
BeginsWithEntries c q = (m : ℕ) → IsPrefix (entries c m) (order q m)

-- what comes of the orders of a rest's plan that are replaced: the rest by the plan with the new ones, and the old ones; or the rest again, where the new ones don't fit the shop, or don't begin with the entries so far
abbrev pub IsRestReordered : RestOfRun PlannedShop → List (List ℕ) → RestReordered → Type 0
IsRestReordered r order (FitsRest y old) =
    (y.plan ≡ reordered r.plan order) × (y.cell ≡ r.cell) × (y.present ≡ r.present) × (r.plan ≡ reordered y.plan (lists_of old.items)) × IsWellShaped y.plan × BeginsWithEntries r.cell y.plan
IsRestReordered r order (StaysRest y) =
    (y.plan ≡ r.plan) × (y.cell ≡ r.cell) × (y.present ≡ r.present) × (IsWellShaped (reordered r.plan order) → BeginsWithEntries r.cell (reordered r.plan order) → ⊥)

-- there is an order for each of so many machines, and it begins with the entries of the cell
abbrev pub Begin : ℕ → Cell → List (List ℕ) → Type 0
Begin n c orders = (n ≤ length orders) × ((m : ℕ) → m < n → IsPrefix (entries c m) (slice_index_or orders m []))

-- what was done in a cell that a run has led to keeps another plan that differs in its orders alone exactly where the entries begin the other's orders
abbrev pub TheEntriesTellWhatIsKept : Type 0
TheEntriesTellWhatIsKept = (p q : PlannedShop) (c : Cell) → IsWellShaped p → IsWellShaped q → IsReordered p q → IsReached p c → KeepsSoFar p c q ↔ BeginsWithEntries c q
