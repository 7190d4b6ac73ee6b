-- Which events are reports that are late.
use Rattle.std.specs.Prelude.{◌≡◌, List, [], ◌∷◌, Bool, false, ◌↔◌}
use Rattle.shop_base.specs.{Plan.PlannedShop, Cell.Cell, Run.after, Punctual.IsPunctual}
use Rattle.cell_tables.specs.{declared.entry.Entry.Entry, Events.event_of}
use Rattle.cell_tables.specs.declared.entry.Entry.TheVariants.{Report as ReportEntry, Order as OrderEntry}

-- whether the event is a late report
abbrev pub IsLateEvent : PlannedShop → Cell → Entry → Bool → Type 0
IsLateEvent p c (ReportEntry report) late = (late ≡ false) ↔ IsPunctual p c report
IsLateEvent p c (OrderEntry order) late = late ≡ false

-- whether each of these events is, one after another
abbrev pub AreLate : PlannedShop → Cell → List Entry → List Bool → Type 0
AreLate p c [] late = late ≡ []
AreLate p c (entry ∷ entries) [] = ⊥
AreLate p c (entry ∷ entries) (was_late ∷ late) = IsLateEvent p c entry was_late × AreLate p (after p c (event_of entry)) entries late
