-- The visits of a log, as a picture draws them.
use Rattle.std.specs.Prelude.{ℕ, ◌==◌, nat_lt, if◌then◌else◌, List, [], ◌∷◌, ◌++◌, Option, None, Some}
use Rattle.shop_base.specs.declared.move_order.Spot.{Spot}
use Rattle.shop_base.specs.declared.move_order.Spot.TheVariants.{Out, At}
use Rattle.shop_base.specs.declared.move_order.MoveOrder.{MoveOrder}
use Rattle.shop_base.specs.Plan.{PlannedShop, machines, clean}
use Rattle.shop_base.specs.declared.report.Report.TheVariants.{Arrive, Finish, Clean}
use Rattle.cell_tables.specs.declared.entry.Entry.{Entry}
use Rattle.cell_tables.specs.declared.entry.Entry.TheVariants.{Report as ReportEntry, Order as OrderEntry}
use Rattle.run_picture.specs.declared.visit.Cleaned.{Cleaned}
use Rattle.run_picture.specs.declared.visit.Cleaned.TheVariants.{Never, NotYet, By}
use Rattle.run_picture.specs.declared.visit.DrawnVisit.{DrawnVisit}
use Rattle.run_gantt.specs.Visits.{first_of, finish_in, leave_in}

-- the moment of the entry, if it reports the end of a cleaning of machine m
abbrev pub cleaning_in : ℕ → Entry → Option ℕ
cleaning_in m (ReportEntry (Arrive job at)) = None
cleaning_in m (ReportEntry (Finish job machine at)) = None
cleaning_in m (ReportEntry (Clean machine at)) = if machine == m then Some at else None
cleaning_in m (OrderEntry order) = None

-- the end of a cleaning as it is recorded, if it is
abbrev pub cleaned_at : Option ℕ → Cleaned
cleaned_at None = NotYet
cleaned_at (Some end) = By end

-- what is recorded of a cleaning of machine m, by the moment of its report
abbrev pub recorded_cleaning : PlannedShop → ℕ → Option ℕ → Cleaned
recorded_cleaning p m end = if clean p m == 0 then Never else cleaned_at end

-- a visit to machine m that an order begins; what becomes of it is recorded by the later entries
abbrev pub drawn_logged_visit : PlannedShop → MoveOrder → ℕ → List Entry → DrawnVisit
drawn_logged_visit p order m later = record {
  job = order.job;
  machine = m;
  enter = order.at;
  finish = first_of (finish_in order.job m) later;
  leave = first_of (leave_in order.job m) later;
  cleaned = recorded_cleaning p m (first_of (cleaning_in m) later);
}

-- the visit that a move to a spot begins: to a machine of the shop
abbrev pub begun_at : PlannedShop → MoveOrder → Spot → List Entry → Option DrawnVisit
begun_at p order Out later = None
begun_at p order (At m) later = if nat_lt m (machines p) then Some (drawn_logged_visit p order m later) else None

-- the visit that an entry begins, if it begins one
abbrev pub begun_visit : PlannedShop → Entry → List Entry → Option DrawnVisit
begun_visit p (ReportEntry report) later = None
begun_visit p (OrderEntry order) later = begun_at p order order.target later

-- a visit, if there is one
abbrev pub if_any : Option DrawnVisit → List DrawnVisit
if_any None = []
if_any (Some visit) = visit ∷ []

-- the visits that the entries begin, the last begun first
abbrev pub drawn_visits : PlannedShop → List Entry → List DrawnVisit
drawn_visits p [] = []
drawn_visits p (entry ∷ later) = drawn_visits p later ++ if_any (begun_visit p entry later)
