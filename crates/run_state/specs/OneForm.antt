-- The law of one form: what the lines of a state have in common with those of a driven cell.
use Rattle.std.specs.Prelude.{◌≡◌, ℕ}
use Rattle.shop_base.specs.declared.move_order.Spot.{Spot}
use Rattle.shop_base.specs.declared.move_order.Spot.TheVariants.{Out, At}
use Rattle.cell_tables.specs.declared.standing.Standing.{Standing}
use Rattle.cell_tables.specs.declared.standing.Standing.TheVariants.{Awaited, Outside, Worked, Done, Gone, Cleaned, Clean}
use Rattle.cell_tables.specs.Standings.{is_overdue}
use Rattle.people_names.specs.NameBooks.{no_names}
use Rattle.event_lines.specs.Words.{words_before}
use Rattle.event_lines.specs.StandingLines.{standing_words}
use Rattle.run_state.specs.StateLines.{standing_line, overdue_end}

-- it is a machine
abbrev pub IsMachine : Spot → Type 0
IsMachine Out = ⊥
IsMachine (At m) = Unit {0}

-- something is under way, and no job waits to leave
abbrev pub IsUnderWay : Standing → Type 0
IsUnderWay (Awaited job due) = Unit {0}
IsUnderWay (Outside job to) = IsMachine to
IsUnderWay (Worked visit machine since due) = Unit {0}
IsUnderWay (Done visit machine to) = IsMachine to
IsUnderWay (Gone job at) = ⊥
IsUnderWay (Cleaned machine visit since due) = Unit {0}
IsUnderWay (Clean machine) = ⊥

-- without names a line has the words of version 2 of a driven cell's lines, and behind them whether it is overdue
abbrev pub LinesAreOfVersion2 : Type 0
LinesAreOfVersion2 = (t : ℕ) (standing : Standing) → IsUnderWay standing → standing_line no_names t standing ≡ words_before (standing_words standing) (overdue_end (is_overdue standing t))
