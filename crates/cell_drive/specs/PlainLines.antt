-- The lines of events that are written once more.
use Rattle.std.specs.Prelude.{ℕ, List, [], ◌∷◌, ◌++◌, Bool, if◌then◌else◌}
use Rattle.shop_base.specs.Report.{at}
use Rattle.cell_tables.specs.declared.entry.Entry.{Entry}
use Rattle.cell_tables.specs.declared.entry.Entry.TheVariants.{Report as ReportEntry, Order as OrderEntry}
use Rattle.event_lines.specs.{EventLines.report_line, EventLines.order_line, AnswerLines.late_line}

-- the line of an event, and behind that of a late report the line that it is late
abbrev pub plain_line : Entry → Bool → List ℕ
plain_line (ReportEntry report) late = report_line report ++ (if late then late_line (at report) else [])
plain_line (OrderEntry order) late = order_line order

-- these lines of the events, one after another
abbrev pub plain_lines : List Entry → List Bool → List ℕ
plain_lines [] late = []
plain_lines (entry ∷ entries) [] = []
plain_lines (entry ∷ entries) (was_late ∷ late) = plain_line entry was_late ++ plain_lines entries late
