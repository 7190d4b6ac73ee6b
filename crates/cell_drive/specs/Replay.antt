-- What is written again of the events of a log, by a protocol.
use Rattle.std.specs.Prelude.{◌≡◌, ℕ, List, [], ◌∷◌, ◌++◌, Bool, true, Result, Ok, Err}
use Rattle.std.specs.Io.KnownBytes.{Appends}
use Rattle.shop_base.specs.{Plan.PlannedShop, Cell.Cell, Cell.start, Run.after, Report.at}
use Rattle.cell_tables.specs.{declared.entry.Entry.Entry, Events.event_of}
use Rattle.cell_tables.specs.declared.entry.Entry.TheVariants.{Report as ReportEntry, Order as OrderEntry}
use Rattle.byte_streams.specs.{Sinks.TookPart, Lent.SinkState, declared.drive_fault.DriveFault.DriveFault}
use Rattle.byte_streams.specs.declared.drive_fault.DriveFault.TheVariants.{Read, Write, InputTooLong, Memory}
use Rattle.event_lines.specs.EventLines.{report_line, order_line}
use Rattle.cell_drive.specs.declared.protocol.Protocol.{Protocol}
use Rattle.cell_drive.specs.ProtocolText.{lateness_part, printed_overdue}
use Rattle.cell_drive.specs.Recovered.{Recovered, plan_of, replayed_events}

-- the line of an event of this cell, and behind that of a late report the line that it was late, with what was overdue as it came
abbrev pub replay_line : PlannedShop → Protocol → Cell → Entry → Bool → List ℕ
replay_line p protocol c (ReportEntry report) late = report_line report ++ lateness_part [] (at report) late (printed_overdue protocol p c report)
replay_line p protocol c (OrderEntry order) late = order_line order

-- these lines of events that happen from this cell on, one after another
abbrev pub replay_lines : PlannedShop → Protocol → Cell → List Entry → List Bool → List ℕ
replay_lines p protocol c [] late = []
replay_lines p protocol c (entry ∷ entries) [] = []
replay_lines p protocol c (entry ∷ entries) (was_late ∷ late) = replay_line p protocol c entry was_late ++ replay_lines p protocol (after p c (event_of entry)) entries late

-- the events of a run that was recovered which its log recorded, once more
abbrev pub replay_text : Protocol → Recovered → List ℕ
replay_text protocol recovered = replay_lines (plan_of recovered) protocol (start (plan_of recovered)) (replayed_events recovered) recovered.late

-- this text was written, or a write failed before all of it was
abbrev pub IsReplayWritten : {T : Type 0} → List ℕ → SinkState → SinkState → Result T DriveFault → Type 0
IsReplayWritten text before after (Ok done) = Appends before.written after.written text × (after.failed ≡ before.failed)
IsReplayWritten text before after (Err Write) = (after.failed ≡ true) × TookPart before.written after.written text
IsReplayWritten text before after (Err Read) = ⊥
IsReplayWritten text before after (Err InputTooLong) = ⊥
IsReplayWritten text before after (Err Memory) = ⊥
