-- What a run that was recovered writes in version 2 of the lines only adds to what it writes in version 1.
use Rattle.std.proofs.Common.{◌≡◌, ℕ, List, [], ◌∷◌, ◌++◌, Bool, true, false, cond, Option, None, length, take, drop, refl, sym, ap, ◌∙◌, subst, append_assoc, append-nil}
use Rattle.shop_base.specs.{declared.report.Report.Report, Plan.PlannedShop, Cell.{Cell, start}, Run.after, Report.at}
use Rattle.cell_tables.specs.declared.entry.Entry.{Entry, TheVariants.{Report as ReportEntry, Order as OrderEntry}}
use Rattle.cell_tables.specs.Events.{event_of}
use Rattle.event_lines.specs.{declared.details.Overdue.Overdue, EventLines.{report_line, order_line, entry_lines}}
use Rattle.event_lines.specs.AnswerLines.{late_line}
use Rattle.cell_drive.specs.{ProtocolText.{lateness_part, acceptance_lines, printed_overdue}, PlainLines.plain_lines}
use Rattle.cell_drive.specs.{Replay.replay_lines, Resuming.{again_text, driven_so_far}}
use Rattle.cell_drive.proofs.ReplayLines.{plain_replay}
use Rattle.drive_laws.specs.ResumedLaw.{ResumingOnlyAdds}
use Rattle.drive_laws.specs.VersionsLaw.{IsPlainText, accepted, ordered, empty_line, in_version}
use Rattle.drive_laws.proofs.Versions.{version_2_only_adds}

-- the line of a report and that it was late, and what stands behind them, as the lines of an accepted report without orders
as_accepted : (report : Report) (late : Bool) (overdue : Option Overdue) (rest more : List ℕ)
    → ((report_line report ++ lateness_part [] (at report) late overdue) ++ rest) ++ more ≡ acceptance_lines [] report late overdue [] false ++ (rest ++ more)
as_accepted report late overdue rest more =
    let lateness = lateness_part [] (at report) late overdue in
    append_assoc (report_line report ++ lateness) rest more ∙ ap (λ (t : List ℕ). (report_line report ++ t) ++ (rest ++ more)) (sym (append-nil lateness))

plain_report : (report : Report) (late : Bool) (overdue : Option Overdue) (rest more other others : List ℕ) → IsPlainText (rest ++ more) (other ++ others)
    → IsPlainText (((report_line report ++ lateness_part [] (at report) late overdue) ++ rest) ++ more) (((report_line report ++ cond late (late_line (at report)) []) ++ other) ++ others)
plain_report report late overdue rest more other others plain =
    subst (λ (t : List ℕ). IsPlainText t (((report_line report ++ cond late (late_line (at report)) []) ++ other) ++ others)) (sym (as_accepted report late overdue rest more))
    (subst (λ (t : List ℕ). IsPlainText (acceptance_lines [] report late overdue [] false ++ (rest ++ more)) t) (sym (as_accepted report late None other others))
    (accepted report late overdue [] false (rest ++ more) (other ++ others) plain))

-- the lines of events, and what stands behind them
plain_entries : (entries : List Entry) (more others : List ℕ) → IsPlainText more others → IsPlainText (entry_lines entries ++ more) (entry_lines entries ++ others)
plain_entries [] more others plain = plain
plain_entries (ReportEntry report ∷ entries) more others plain =
    let rest = entry_lines entries in
    subst (λ (line : List ℕ). IsPlainText ((line ++ rest) ++ more) ((line ++ rest) ++ others)) (append-nil (report_line report))
    (plain_report report false None rest more rest others (plain_entries entries more others plain))
plain_entries (OrderEntry order ∷ entries) more others plain =
    let rest = entry_lines entries in
    subst (λ (t : List ℕ). IsPlainText t ((order_line order ++ rest) ++ others)) (sym (append_assoc (order_line order) rest more))
    (subst (λ (t : List ℕ). IsPlainText (order_line order ++ (rest ++ more)) t) (sym (append_assoc (order_line order) rest others))
    (ordered order (rest ++ more) (rest ++ others) (plain_entries entries more others plain)))

module _ (p : PlannedShop) (max_gap : Option ℕ) (from : ℕ) where
  -- those that are written again, and what stands behind them
  plain_again : (c : Cell) (entries : List Entry) (late : List Bool) (more others : List ℕ) → IsPlainText more others
      → IsPlainText (replay_lines p (in_version true max_gap from) c entries late ++ more) (plain_lines entries late ++ others)
  plain_again c [] late more others plain = plain
  plain_again c (entry ∷ entries) [] more others plain = plain
  plain_again c (ReportEntry report ∷ entries) (was_late ∷ late) more others plain =
      let next = after p c (event_of (ReportEntry report)) in
      plain_report report was_late (printed_overdue (in_version true max_gap from) p c report) (replay_lines p (in_version true max_gap from) next entries late) more (plain_lines entries late) others
      (plain_again next entries late more others plain)
  plain_again c (OrderEntry order ∷ entries) (was_late ∷ late) more others plain =
      let next = after p c (event_of (OrderEntry order)) in
      let rest = replay_lines p (in_version true max_gap from) next entries late in
      subst (λ (t : List ℕ). IsPlainText t ((order_line order ++ plain_lines entries late) ++ others)) (sym (append_assoc (order_line order) rest more))
      (subst (λ (t : List ℕ). IsPlainText (order_line order ++ (rest ++ more)) t) (sym (append_assoc (order_line order) (plain_lines entries late) others))
      (ordered order (rest ++ more) (plain_lines entries late ++ others) (plain_again next entries late more others plain)))

  plain_text : (entries : List Entry) (late : List Bool) (text other : List ℕ) → IsPlainText text other
      → IsPlainText (again_text p (in_version true max_gap from) entries late ++ text) (again_text p (in_version false max_gap from) entries late ++ other)
  plain_text entries late text other plain =
      let recorded = take (length late) entries in
      let due = entry_lines (drop (length late) entries) in
      subst (λ (t : List ℕ). IsPlainText (again_text p (in_version true max_gap from) entries late ++ text) ((t ++ (10 ∷ due)) ++ other)) (sym (plain_replay p (in_version false max_gap from) (start p) recorded late refl))
      (subst (λ (t : List ℕ). IsPlainText t ((plain_lines recorded late ++ (10 ∷ due)) ++ other)) (sym (append_assoc (replay_lines p (in_version true max_gap from) (start p) recorded late) (10 ∷ due) text))
      (subst (λ (t : List ℕ). IsPlainText (replay_lines p (in_version true max_gap from) (start p) recorded late ++ (10 ∷ (due ++ text))) t) (sym (append_assoc (plain_lines recorded late) (10 ∷ due) other))
      (plain_again (start p) recorded late (10 ∷ (due ++ text)) (10 ∷ (due ++ other)) (empty_line (due ++ text) (due ++ other) (plain_entries (drop (length late) entries) text other plain)))))

pub resuming_only_adds : ResumingOnlyAdds
resuming_only_adds p max_gap from entries late lines text end of all =
    let one = version_2_only_adds p max_gap from 1 lines text (driven_so_far p entries) end of all in
    (one.0, one.1, plain_text p max_gap from entries late text one.0 one.2)
