-- The lines of the events of a run: of reports that were accepted, and of moves that were ordered.
use Rattle.std.specs.Prelude.{ℕ, List, [], ◌∷◌, codes}
use Rattle.std.specs.List.{flat_map}
use Rattle.shop_base.specs.declared.move_order.Spot.{Spot}
use Rattle.shop_base.specs.declared.move_order.Spot.TheVariants.{Out, At}
use Rattle.shop_base.specs.declared.move_order.MoveOrder.{MoveOrder}
use Rattle.shop_base.specs.declared.report.Report.{Report}
use Rattle.shop_base.specs.Report.{at}
use Rattle.shop_base.specs.declared.report.Report.TheVariants.{Arrive, Finish, Clean}
use Rattle.cell_tables.specs.declared.entry.Entry.{Entry}
use Rattle.cell_tables.specs.declared.entry.Entry.TheVariants.{Report as ReportEntry, Order as OrderEntry}
use Rattle.event_lines.specs.Words.{Word, Text, short, moment, line_of, IsReadAs}

-- what has ended, as a word
abbrev pub end_name : Report → List ℕ
end_name (Arrive job at) = codes "arrive"
end_name (Finish job machine at) = codes "finish"
end_name (Clean machine at) = codes "clean"

-- the numbers of its job and of its machine
abbrev pub end_numbers : Report → List Word
end_numbers (Arrive job at) = short job ∷ []
end_numbers (Finish job machine at) = short job ∷ short machine ∷ []
end_numbers (Clean machine at) = short machine ∷ []

-- `arrive J`, `finish J M` or `clean M`
abbrev pub end_words : Report → List Word
end_words report = Text (end_name report) ∷ end_numbers report

-- `report T arrive J`, `report T finish J M` or `report T clean M`
abbrev pub logged_words : Report → List Word
logged_words report = Text (codes "report") ∷ moment (at report) ∷ end_words report

-- a machine's number, or `out` for outside the cell
abbrev pub spot_word : Spot → Word
spot_word Out = Text (codes "out")
spot_word (At machine) = short machine

-- `J FROM TO`
abbrev pub move_numbers : MoveOrder → List Word
move_numbers o = short o.job ∷ spot_word o.source ∷ spot_word o.target ∷ []

-- behind `order`: `T J FROM TO`
abbrev pub move_words : MoveOrder → List Word
move_words o = moment o.at ∷ move_numbers o

-- `order T J FROM TO`
abbrev pub order_words : MoveOrder → List Word
order_words o = Text (codes "order") ∷ move_words o

abbrev pub entry_words : Entry → List Word
entry_words (ReportEntry report) = logged_words report
entry_words (OrderEntry order) = order_words order

-- the line of a report, of an order, and of either
abbrev pub report_line : Report → List ℕ
report_line report = line_of (logged_words report)

abbrev pub order_line : MoveOrder → List ℕ
order_line order = line_of (order_words order)

abbrev pub entry_line : Entry → List ℕ
entry_line entry = line_of (entry_words entry)

-- the lines of the entries, in order, and those of orders
abbrev pub entry_lines : List Entry → List ℕ
entry_lines entries = flat_map entry_line entries

abbrev pub order_lines : List MoveOrder → List ℕ
order_lines orders = flat_map order_line orders

-- the line is read as that of a report or of an order
abbrev pub IsEntryLine : List ℕ → Entry → Type 0
IsEntryLine line entry = IsReadAs line (entry_words entry)
