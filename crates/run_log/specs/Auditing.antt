-- How far a log has been audited.
use Rattle.std.specs.Prelude.{◌≡◌, ℕ, ◌*◌, ◌<◌, List, ◌++◌}
use Rattle.shop_base.specs.Plan.{PlannedShop}
use Rattle.shop_base.specs.Ends.{stated_number}
use Rattle.cell_tables.specs.declared.entry.Entry.{Entry}
use Rattle.event_lines.specs.LogLines.{LineParses}

-- the entries that a line records were put behind those before
abbrev pub IsLineReplayed : PlannedShop → List ℕ → List Entry → List Entry → Type 0
IsLineReplayed p line before after = (own : List Entry) × LineParses p line own × (after ≡ before ++ own)

-- while a run can have more entries than were recorded, there is room for one more
abbrev pub HasRoomForNext : PlannedShop → ℕ → ℕ → Type 0
HasRoomForNext p recorded capacity = recorded < 2 * stated_number p → recorded < capacity
