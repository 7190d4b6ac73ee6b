-- The entries that a log text records.
use Rattle.std.specs.Prelude.{◌≡◌, ℕ, ◌<◌, ◌≤◌, true, false, List, [], ◌∷◌, ◌++◌}
use Rattle.shop_base.specs.declared.limits.TheConstants.{MAX_MOMENT}
use Rattle.shop_base.specs.declared.report.Report.{Report}
use Rattle.shop_base.specs.Plan.{PlannedShop, jobs, machines}
use Rattle.shop_base.specs.Report.{at}
use Rattle.shop_base.specs.declared.report.Report.TheVariants.{Arrive, Finish, Clean}
use Rattle.cell_tables.specs.Moving.{IsSpotOf}
use Rattle.cell_tables.specs.declared.entry.Entry.{Entry}
use Rattle.cell_tables.specs.declared.entry.Entry.TheVariants.{Report as ReportEntry, Order as OrderEntry}
use Rattle.event_lines.specs.EventLines.{IsEntryLine}
use Rattle.event_lines.specs.AnswerLines.{is_passed_over}

-- its jobs and machines are of the shop
abbrev pub AreEndsOf : PlannedShop → Report → Type 0
AreEndsOf p (Arrive job at) = job < jobs p
AreEndsOf p (Finish job machine at) = (job < jobs p) × (machine < machines p)
AreEndsOf p (Clean machine at) = machine < machines p

-- so are its moment and, of an order, both spots
abbrev pub IsEntryOf : PlannedShop → Entry → Type 0
IsEntryOf p (ReportEntry report) = AreEndsOf p report × (at report ≤ MAX_MOMENT)
IsEntryOf p (OrderEntry order) = (order.job < jobs p) × IsSpotOf p order.source × IsSpotOf p order.target × (order.at ≤ MAX_MOMENT)

-- the line is that of no entry of the shop
abbrev pub ParsesNoEntry : PlannedShop → List ℕ → Type 0
ParsesNoEntry p line = (entry : Entry) → IsEntryLine line entry → IsEntryOf p entry → ⊥

-- these are the entries that a line records: none where it is passed over, else one, of the shop
abbrev pub LineParses : PlannedShop → List ℕ → List Entry → Type 0
LineParses p line [] = is_passed_over line ≡ true
LineParses p line (entry ∷ []) = (is_passed_over line ≡ false) × IsEntryLine line entry × IsEntryOf p entry
LineParses p line (entry ∷ next ∷ entries) = ⊥

-- and these the entries that lines record, in order
abbrev pub LinesParse : PlannedShop → List (List ℕ) → List Entry → Type 0
LinesParse p [] entries = entries ≡ []
LinesParse p (line ∷ lines) entries = (own : List Entry) × (rest : List Entry) × LineParses p line own × LinesParse p lines rest × (entries ≡ own ++ rest)
