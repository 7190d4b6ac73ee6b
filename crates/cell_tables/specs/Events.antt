-- The entries of a log as events of a run.
use Rattle.std.specs.Prelude.{List, [], ◌∷◌}
use Rattle.shop_base.specs.Run.{Event, Reported, Moved}
use Rattle.cell_tables.specs.declared.entry.Entry.{Entry}
use Rattle.cell_tables.specs.declared.entry.Entry.TheVariants.{Report as ReportEntry, Order as OrderEntry}

-- a report, or a move that was ordered
abbrev pub event_of : Entry → Event
event_of (ReportEntry report) = Reported report
event_of (OrderEntry order) = Moved order

-- the events of the entries, in order
abbrev pub events_of : List Entry → List Event
events_of [] = []
events_of (entry ∷ entries) = event_of entry ∷ events_of entries
