-- The visits of jobs to machines, as a list of entries records them.
use Rattle.std.specs.Prelude.{ℕ, Bool, false, ◌==◌, ◌&&◌, if◌then◌else◌, max, List, [], ◌∷◌, map, Option, None, Some}
use Rattle.std.specs.Option.{option_or}
use Rattle.std.specs.List.{range_with_len}
use Rattle.shop_base.specs.declared.move_order.Spot.{Spot}
use Rattle.shop_base.specs.declared.move_order.Spot.TheVariants.{Out, At}
use Rattle.shop_base.specs.declared.move_order.MoveOrder.{MoveOrder}
use Rattle.shop_base.specs.Report.{at}
use Rattle.shop_base.specs.declared.report.Report.TheVariants.{Arrive, Finish, Clean}
use Rattle.cell_tables.specs.declared.entry.Entry.{Entry}
use Rattle.cell_tables.specs.declared.entry.Entry.TheVariants.{Report as ReportEntry, Order as OrderEntry}
use Rattle.run_gantt.specs.declared.visits.LoggedVisit.{LoggedVisit}
use Rattle.run_gantt.specs.declared.visit_ends.VisitEnd.{VisitEnd}

-- what is given for the first item for which something is given
abbrev pub first_of : {S T : Type 0} → (S → Option T) → List S → Option T
first_of f [] = None
first_of f (x ∷ xs) = option_or (f x) (first_of f xs)

-- the moment of an entry
abbrev pub entry_moment : Entry → ℕ
entry_moment (ReportEntry report) = at report
entry_moment (OrderEntry order) = order.at

-- the greatest moment of an entry, 0 where there is none
abbrev pub last_entry_moment : List Entry → ℕ
last_entry_moment [] = 0
last_entry_moment (entry ∷ entries) = max (entry_moment entry) (last_entry_moment entries)

-- whether the spot is machine m
abbrev pub is_at : ℕ → Spot → Bool
is_at m Out = false
is_at m (At machine) = machine == m

-- the moment of the entry, if it ends the operation of job j on machine m
abbrev pub finish_in : ℕ → ℕ → Entry → Option ℕ
finish_in j m (ReportEntry (Arrive job at)) = None
finish_in j m (ReportEntry (Finish job machine at)) = if (job == j) && (machine == m) then Some at else None
finish_in j m (ReportEntry (Clean machine at)) = None
finish_in j m (OrderEntry order) = None

-- the moment of the entry, if it moves job j away from machine m
abbrev pub leave_in : ℕ → ℕ → Entry → Option ℕ
leave_in j m (ReportEntry report) = None
leave_in j m (OrderEntry order) = if (order.job == j) && is_at m order.source then Some order.at else None

-- when the operation of job j on machine m first ends, and when j first leaves m
abbrev pub visit_end : ℕ → ℕ → List Entry → VisitEnd
visit_end j m entries = record { finish = first_of (finish_in j m) entries; leave = first_of (leave_in j m) entries }

-- a visit to machine m that an order begins; what becomes of it is recorded by the later entries
abbrev pub logged_visit_of : MoveOrder → ℕ → List Entry → LoggedVisit
logged_visit_of order m later = record {
  job = order.job;
  enter = order.at;
  finish = first_of (finish_in order.job m) later;
  leave = first_of (leave_in order.job m) later;
}

-- the visits to machine m, in the order of the entries that begin them
abbrev pub visits_to : ℕ → List Entry → List LoggedVisit
visits_to m [] = []
visits_to m (ReportEntry report ∷ later) = visits_to m later
visits_to m (OrderEntry order ∷ later) = if is_at m order.target then logged_visit_of order m later ∷ visits_to m later else visits_to m later

-- those to each of so many machines
abbrev pub machine_visits : ℕ → List Entry → List (List LoggedVisit)
machine_visits machines entries = map (λ m. visits_to m entries) (range_with_len 0 machines)
