-- The reports of a run have lines in which they are sent.
use Rattle.std.proofs.Common.{ℕ, List, [], ◌∷◌, ◌++◌, Option, Some, refl}
use Rattle.shop_base.specs.{declared.report.Report.{Report, TheVariants.{Arrive, Finish, Clean}}, Cell.{Cell, start}}
use Rattle.shop_base.specs.{Sound.IsSound, Plan.{PlannedShop, IsWellShaped}, Run.{Reported, Moved, AreEvents, after}}
use Rattle.shop_base.proofs.Keeping.{start-sound, after_report-sound, after_move-sound}
use Rattle.cell_tables.specs.declared.entry.Entry.{Entry, TheVariants.{Report as ReportEntry, Order as OrderEntry}}
use Rattle.cell_tables.specs.Events.{events_of}
use Rattle.event_lines.specs.{Words.{Text, words_before}, EventLines.end_name, LogLines.IsEntryOf, ReadBack.AreFitting}
use Rattle.event_lines.specs.SentLines.{sent_numbers, sent_words, IsReportLine}
use Rattle.event_lines.proofs.{EntryParses.{job_fits, machine_fits, moment_fits}, WrittenWords.read_back}
use Rattle.cell_drive.proofs.ShopEntries.{report_of_shop}
use Rattle.drive_laws.specs.{AnswerLaw.AreReportLines, SameReportsLaw.EachReportHasALine}

module _ (p : PlannedShop) (shaped : IsWellShaped p) where
  sent_fits : (report : Report) → IsEntryOf p (ReportEntry report) → AreFitting (sent_words report)
  sent_fits (Arrive job at) of_shop = (refl, (job_fits p shaped job of_shop.0, (moment_fits p shaped at of_shop.1, tt)))
  sent_fits (Finish job machine at) of_shop = (refl, (job_fits p shaped job of_shop.0.0, (machine_fits p shaped machine of_shop.0.1, (moment_fits p shaped at of_shop.1, tt))))
  sent_fits (Clean machine at) of_shop = (refl, (machine_fits p shaped machine of_shop.0, (moment_fits p shaped at of_shop.1, tt)))

  sent_line : (report : Report) → IsEntryOf p (ReportEntry report) → IsReportLine (words_before (sent_words report) []) report
  sent_line report of_shop = read_back (Text (end_name report)) (sent_numbers report) (sent_fits report of_shop)

  lines_there : (c : Cell) (entries : List Entry) → IsSound p c → AreEvents p c (events_of entries) → (reports : List (Option (List ℕ))) × AreReportLines reports entries
  lines_there c [] sound events = ([], refl)
  lines_there c (ReportEntry r ∷ entries) sound events =
      let line : List ℕ = words_before (sent_words r) [] in
      let rest = lines_there (after p c (Reported r)) entries (after_report-sound p c r shaped sound events.0) events.1 in
      (Some line ∷ rest.0, (line, rest.0, sent_line r (report_of_shop p c r shaped sound events.0), rest.1, refl))
  lines_there c (OrderEntry o ∷ entries) sound events = lines_there (after p c (Moved o)) entries (after_move-sound p c o.job o.at shaped sound events.0.0.can events.0.1) events.1

  lines_behind : (c : Cell) (before more : List Entry) → IsSound p c → AreEvents p c (events_of (before ++ more)) → (reports : List (Option (List ℕ))) × AreReportLines reports more
  lines_behind c [] more sound events = lines_there c more sound events
  lines_behind c (ReportEntry r ∷ before) more sound events = lines_behind (after p c (Reported r)) before more (after_report-sound p c r shaped sound events.0) events.1
  lines_behind c (OrderEntry o ∷ before) more sound events = lines_behind (after p c (Moved o)) before more (after_move-sound p c o.job o.at shaped sound events.0.0.can events.0.1) events.1

pub each_report_has_a_line : EachReportHasALine
each_report_has_a_line p before more shaped run = lines_behind p shaped (start p) before more (start-sound p shaped) run
