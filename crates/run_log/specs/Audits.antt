-- Which logs an audit accepts, and what it finds first in the others.
use Rattle.std.specs.Prelude.{◌≡◌, ℕ, ◌+◌, ◌*◌, ◌<◌, ◌≤◌, ◌↔◌, true, false, None, Some, List, [], ◌∷◌, ◌++◌, length, min}
use Rattle.shop_base.specs.declared.move_order.Spot.{Spot}
use Rattle.shop_base.specs.declared.move_order.Spot.TheVariants.{Out, At}
use Rattle.shop_base.specs.declared.move_order.MoveOrder.{MoveOrder}
use Rattle.shop_base.specs.Plan.{PlannedShop, order}
use Rattle.shop_base.specs.Cell.{Cell, ready, entries, cleaning, IsFree}
use Rattle.shop_base.specs.Activity.{Activity, GoesOn}
use Rattle.shop_base.specs.Move.{IsPrefix, source, target}
use Rattle.shop_base.specs.Run.{IsRun, ends_in}
use Rattle.shop_base.specs.Ends.{HasEnded, stated_number, reports_in, moves_in}
use Rattle.shop_base.specs.Report.{ended, at}
use Rattle.cell_tables.specs.declared.entry.Entry.{Entry}
use Rattle.cell_tables.specs.declared.entry.Entry.TheVariants.{Report as ReportEntry, Order as OrderEntry}
use Rattle.run_log.specs.declared.audit_fault.AuditFault.{AuditFault}
use Rattle.run_log.specs.declared.audit_fault.AuditFault.TheVariants.{BadLine, NotExpected, Backwards, NotReady, Occupied, OutOfOrder, WrongPlace, NotClean, Memory}
use Rattle.run_log.specs.declared.audit_result.Audit.{Audit}
use Rattle.cell_tables.specs.Events.{events_of}
use Rattle.event_lines.specs.AnswerLines.{is_passed_over}
use Rattle.event_lines.specs.LogLines.{ParsesNoEntry, LineParses, LinesParse}

-- the activity is going on
abbrev pub IsGoingOn : PlannedShop → Cell → Activity → Type 0
IsGoingOn p c a = (due : ℕ) × GoesOn p c a due

-- a job is on the machine
abbrev pub IsOccupied : PlannedShop → Cell → Spot → Type 0
IsOccupied p c Out = ⊥
IsOccupied p c (At m) = IsFree p c m → ⊥

-- the machine is being cleaned, and no job is on it
abbrev pub IsUnclean : PlannedShop → Cell → Spot → Type 0
IsUnclean p c Out = ⊥
IsUnclean p c (At m) = IsFree p c m × ((s : ℕ) × (cleaning c m ≡ Some s))

-- the machine can be entered, but job j isn't the next in its order
abbrev pub IsOutOfTurn : PlannedShop → Cell → Spot → ℕ → Type 0
IsOutOfTurn p c Out j = ⊥
IsOutOfTurn p c (At m) j = IsFree p c m × (cleaning c m ≡ None) × (IsPrefix (entries c m ++ j ∷ []) (order p m) → ⊥)

-- the machine can be entered, and job j is the next in its order; or it is no machine
abbrev pub IsOpen : PlannedShop → Cell → Spot → ℕ → Type 0
IsOpen p c Out j = Unit {0}
IsOpen p c (At m) j = IsFree p c m × (cleaning c m ≡ None) × IsPrefix (entries c m ++ j ∷ []) (order p m)

-- the first fault of a target for job j
abbrev pub IsTargetFault : PlannedShop → Cell → Spot → ℕ → AuditFault → Type 0
IsTargetFault p c spot j (Occupied line) = IsOccupied p c spot
IsTargetFault p c spot j (NotClean line) = IsUnclean p c spot
IsTargetFault p c spot j (OutOfOrder line) = IsOutOfTurn p c spot j
IsTargetFault p c spot j fault = ⊥

-- the order goes from where its job is to where that goes next
abbrev pub IsItsWay : PlannedShop → Cell → MoveOrder → Type 0
IsItsWay p c o = (o.source ≡ source p c o.job) × (o.target ≡ target p c o.job)

-- it goes from another spot, or to another
abbrev pub IsWayFault : PlannedShop → Cell → MoveOrder → AuditFault → Type 0
IsWayFault p c o (WrongPlace line) = IsItsWay p c o → ⊥
IsWayFault p c o fault = ⊥

-- an order that isn't before the last moment, of a job that is ready
pub record IsTimely (c : Cell) (o : MoveOrder) : Type 0 where
  pub in_order : c.last ≤ o.at
  pub is_ready : ready c o.job ≡ true

-- the first fault of an entry in a cell
abbrev pub IsFaultOf : PlannedShop → Cell → Entry → AuditFault → Type 0
IsFaultOf p c (ReportEntry report) (NotExpected line) = IsGoingOn p c (ended report) → ⊥
IsFaultOf p c (ReportEntry report) (Backwards line) = IsGoingOn p c (ended report) × (at report < c.last)
IsFaultOf p c (OrderEntry o) (Backwards line) = o.at < c.last
IsFaultOf p c (OrderEntry o) (NotReady line) = (c.last ≤ o.at) × (ready c o.job ≡ false)
IsFaultOf p c (OrderEntry o) (Occupied line) = IsTimely c o × IsOccupied p c o.target
IsFaultOf p c (OrderEntry o) (NotClean line) = IsTimely c o × IsUnclean p c o.target
IsFaultOf p c (OrderEntry o) (OutOfOrder line) = IsTimely c o × IsOutOfTurn p c o.target o.job
IsFaultOf p c (OrderEntry o) (WrongPlace line) = IsTimely c o × IsOpen p c o.target o.job × (IsItsWay p c o → ⊥)
IsFaultOf p c entry fault = ⊥

-- the line isn't passed over, and records no event of the shop
pub record IsBadLine (p : PlannedShop) (line : List ℕ) : Type 0 where
  pub considered : is_passed_over line ≡ false
  pub unparsed : ParsesNoEntry p line

-- the first fault of a line in a cell
abbrev pub IsLineFault : PlannedShop → Cell → List ℕ → AuditFault → Type 0
IsLineFault p c line (BadLine number) = IsBadLine p line
IsLineFault p c line Memory = ⊥
IsLineFault p c line fault = (entry : Entry) × LineParses p line (entry ∷ []) × IsFaultOf p c entry fault

-- the line of a fault
abbrev pub fault_line : AuditFault → ℕ
fault_line (BadLine line) = line
fault_line (NotExpected line) = line
fault_line (Backwards line) = line
fault_line (NotReady line) = line
fault_line (Occupied line) = line
fault_line (OutOfOrder line) = line
fault_line (WrongPlace line) = line
fault_line (NotClean line) = line
fault_line Memory = 0

-- the fault is the first of these lines: those before its line record a run
pub record IsFirstBad (p : PlannedShop) (lines : List (List ℕ)) (fault : AuditFault) : Type 0 where
  pub before : List (List ℕ)
  pub line : List ℕ
  pub after : List (List ℕ)
  pub split : lines ≡ before ++ line ∷ after
  pub number : fault_line fault ≡ length before + 1
  pub recorded : List Entry
  pub parses : LinesParse p before recorded
  pub run : IsRun p (events_of recorded)
  pub is_fault : IsLineFault p (ends_in p (events_of recorded)) line fault

-- these entries are a run, and this is the cell at its end
pub record IsReplayed (p : PlannedShop) (c : Cell) (recorded : List Entry) : Type 0 where
  pub run : IsRun p (events_of recorded)
  pub cell : c ≡ ends_in p (events_of recorded)

-- what an audit found of lines that record a run
pub record IsAudit (p : PlannedShop) (lines : List (List ℕ)) (audit : Audit) : Type 0 where
  pub parses : LinesParse p lines audit.entries.items
  pub run : IsRun p (events_of audit.entries.items)
  pub reports : audit.reports ≡ reports_in (events_of audit.entries.items)
  pub orders : audit.orders ≡ moves_in (events_of audit.entries.items)
  pub last : audit.last ≡ (ends_in p (events_of audit.entries.items)).last
  pub complete : (audit.complete ≡ true) ↔ HasEnded p (ends_in p (events_of audit.entries.items))

-- out of memory, or the first fault of the lines
abbrev pub IsAuditFault : PlannedShop → List (List ℕ) → AuditFault → Type 0
IsAuditFault p lines Memory = Unit {0}
IsAuditFault p lines fault = IsFirstBad p lines fault

-- the lines record a run
abbrev pub ParseAsRun : PlannedShop → List (List ℕ) → Type 0
ParseAsRun p lines = (recorded : List Entry) × LinesParse p lines recorded × IsRun p (events_of recorded)

-- for how many entries an audit of these lines has room: one for each line, but no more than a run can have, which are two for each report of the stated number
abbrev pub room_for : PlannedShop → List (List ℕ) → ℕ
room_for p lines = min (length lines) (2 * stated_number p)
