-- The jobs' leavings, as a list of entries records them.
use Rattle.std.specs.Prelude.{ℕ, Bool, true, false, ◌==◌, ◌&&◌, if◌then◌else◌, List, map, Option, None, Some}
use Rattle.std.specs.List.{range_with_len}
use Rattle.shop_base.specs.declared.move_order.Spot.{Spot}
use Rattle.shop_base.specs.declared.move_order.Spot.TheVariants.{Out, At}
use Rattle.cell_tables.specs.declared.entry.Entry.{Entry}
use Rattle.cell_tables.specs.declared.entry.Entry.TheVariants.{Report as ReportEntry, Order as OrderEntry}
use Rattle.run_gantt.specs.Visits.{first_of}

-- whether the spot is outside the cell
abbrev pub is_out : Spot → Bool
is_out Out = true
is_out (At machine) = false

-- the moment of the entry, if it moves job j out of the cell
abbrev pub leaving_in : ℕ → Entry → Option ℕ
leaving_in j (ReportEntry report) = None
leaving_in j (OrderEntry order) = if (order.job == j) && is_out order.target then Some order.at else None

-- when each of the first n jobs has left, by the first entry that moves it out; none where there is no such entry
abbrev pub leavings_so_far : ℕ → List Entry → List (Option ℕ)
leavings_so_far n entries = map (λ j. first_of (leaving_in j) entries) (range_with_len 0 n)
