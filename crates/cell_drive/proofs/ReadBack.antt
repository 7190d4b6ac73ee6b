-- What a driven cell wrote, as a log is read.
use Rattle.std.proofs.Common.{◌≡◌, ℕ, ◌+◌, List, [], ◌∷◌, ◌++◌, Option, map, refl, sym, ap, ◌∙◌, subst, inl, inr, append_assoc, append-nil}
use Rattle.shop_base.specs.{declared.report.Report.Report, Plan.{PlannedShop, IsWellShaped}, Cell.Cell, Sound.IsSound}
use Rattle.shop_base.specs.{Report.{at, after_report}, Move.{order_for, after_move}}
use Rattle.shop_base.specs.Run.{AreEvents, after_all, IsRun, ends_in}
use Rattle.shop_base.specs.Controlled.{moved, AreMoves, IsStep, after_step, orders_for, step_orders}
use Rattle.shop_base.proofs.Keeping.{after_report-sound, after_move-sound}
use Rattle.shop_base.proofs.ControlledRuns.{events_join, after_all_join, moves-events, after_all-moves}
use Rattle.text_lines.specs.Lines.{lines_of}
use Rattle.cell_control.specs.declared.report_fault.ReportFault.{ReportFault, TheVariants.{JobOutOfRange, MachineOutOfRange, StepOutOfRange, MomentTooLarge, Backwards, NotExpected, WrongKind, WrongMachine}}
use Rattle.cell_control.specs.ReasonNames.{reason_name}
use Rattle.cell_tables.specs.declared.entry.Entry.{Entry, TheVariants.{Report as ReportEntry, Order as OrderEntry}}
use Rattle.cell_tables.specs.Events.{events_of}
use Rattle.event_lines.specs.{EventLines.{report_line, order_line, order_lines}, LogLines.LinesParse}
use Rattle.event_lines.specs.ReadBack.{IsSpaceless, ParsesFirst}
use Rattle.event_lines.proofs.EntryParses.{parses_none, parses_both, parses_entry, others_parse_none}
use Rattle.run_log.proofs.Audits.{events-join}
use Rattle.byte_streams.specs.Answering.{AnswerAll}
use Rattle.cell_drive.specs.{AnswerText.{DrivenCell, undriven, CellCloses}, AuditLaw.IsLogOf}
use Rattle.cell_drive.proofs.{Parts.events-orders, OneText.IsOnCourse, ShopEntries.{report_of_shop, order_of_shop}}

pub name_spaceless : (reason : ReportFault) → IsSpaceless (reason_name reason)
name_spaceless JobOutOfRange = refl
name_spaceless MachineOutOfRange = refl
name_spaceless StepOutOfRange = refl
name_spaceless MomentTooLarge = refl
name_spaceless (Backwards last) = refl
name_spaceless NotExpected = refl
name_spaceless WrongKind = refl
name_spaceless (WrongMachine actual) = refl

module _ (p : PlannedShop) where
  pub closing_parses : (end : DrivenCell) (text : List ℕ) → CellCloses p end text → ParsesFirst p text []
  closing_parses end text (inl (ended, line)) = subst (λ (t : List ℕ). ParsesFirst p t []) (sym line) ((others_parse_none p).done end.cell.last)
  closing_parses end text (inr (unfinished, line)) = subst (λ (t : List ℕ). ParsesFirst p t []) (sym line) ((others_parse_none p).unfinished _)

  module _ (shaped : IsWellShaped p) where
    pub parses_moves : (c : Cell) (t : ℕ) (js : List ℕ) → IsSound p c → AreMoves p c t js → ParsesFirst p (order_lines (orders_for p c t js)) (map OrderEntry (orders_for p c t js))
    parses_moves c t [] sound moves = (parses_none p)
    parses_moves c t (j ∷ js) sound moves =
        let o = order_for p c j t in
        let os = orders_for p (after_move p c j t) t js in
        parses_both p (order_line o) (order_lines os) (OrderEntry o ∷ []) (map OrderEntry os) (parses_entry p shaped (OrderEntry o) (order_of_shop p c j t shaped sound moves.0))
        (parses_moves (after_move p c j t) t js (after_move-sound p c j t shaped sound moves.0 moves.1) moves.2)

    -- ---- answers

    -- what was answered records what came between the cells before and behind it
    pub record AreParsed (before : DrivenCell) (text : List ℕ) (end : DrivenCell) : Type 0 where
      pub more : List Entry
      pub parses : ParsesFirst p text more
      pub entries : end.entries ≡ before.entries ++ more
      pub events : AreEvents p before.cell (events_of more)
      pub cell : end.cell ≡ after_all p before.cell (events_of more)

    pub nothing_parsed : (before : DrivenCell) (text line : List ℕ) (end : DrivenCell) → end ≡ before → text ≡ line → ParsesFirst p line [] → AreParsed before text end
    nothing_parsed before text line end same text_is parses = record {
      more = [];
      parses = subst (λ (t : List ℕ). ParsesFirst p t []) (sym text_is) parses;
      entries = ap (λ (d : DrivenCell). d.entries) same ∙ sym (append-nil before.entries);
      events = tt;
      cell = ap (λ (d : DrivenCell). d.cell) same;
    }

    pub step_parses : (before : DrivenCell) (report : Report) (text : List ℕ) (end : DrivenCell) (movers : List ℕ) → IsSound p before.cell → IsStep p before.cell report movers
        → ParsesFirst p text (ReportEntry report ∷ map OrderEntry (step_orders p before.cell report movers))
        → end.entries ≡ before.entries ++ ReportEntry report ∷ map OrderEntry (step_orders p before.cell report movers) → end.cell ≡ after_step p before.cell report movers → AreParsed before text end
    step_parses before report text end movers sound step parses entries next_is =
        let c = before.cell in
        let next = after_report c report in
        let moves : events_of (map OrderEntry (step_orders p c report movers)) ≡ moved (step_orders p c report movers) = events-orders (step_orders p c report movers) in
        record {
          more = ReportEntry report ∷ map OrderEntry (step_orders p c report movers);
          parses = parses;
          entries = entries;
          events = (step.can, subst (AreEvents p next) (sym moves) (moves-events p next (at report) movers step.moves));
          cell = next_is ∙ sym (ap (after_all p next) moves ∙ after_all-moves p next (at report) movers);
        }

    -- the lines of a step's moves
    pub step_moves : (c : Cell) (report : Report) (movers : List ℕ) → IsSound p c → IsStep p c report movers
        → ParsesFirst p (order_lines (step_orders p c report movers)) (map OrderEntry (step_orders p c report movers))
    step_moves c report movers sound step = parses_moves (after_report c report) (at report) movers (after_report-sound p c report shaped sound step.can) step.moves

    -- and that of its report
    pub step_report : (c : Cell) (report : Report) (movers : List ℕ) → IsSound p c → IsStep p c report movers → ParsesFirst p (report_line report) (ReportEntry report ∷ [])
    step_report c report movers sound step = parses_entry p shaped (ReportEntry report) (report_of_shop p c report shaped sound step.can)

    -- lines, whatever is answered to each
    module _ (answers : DrivenCell → ℕ → Option (List ℕ) → List ℕ → DrivenCell → Type 0)
        (keeps : (before : DrivenCell) (number : ℕ) (line : Option (List ℕ)) (text : List ℕ) (end : DrivenCell) → IsOnCourse p before.cell → answers before number line text end → IsOnCourse p end.cell)
        (parsed : (before : DrivenCell) (number : ℕ) (line : Option (List ℕ)) (text : List ℕ) (end : DrivenCell) → IsSound p before.cell → answers before number line text end → AreParsed before text end) where
      pub all_parsed : (lines : List (Option (List ℕ))) (before end : DrivenCell) (number : ℕ) (text : List ℕ) → IsOnCourse p before.cell
          → AnswerAll answers before number lines text end → AreParsed before text end
      all_parsed [] before end number text on all = nothing_parsed before text [] end all.1 all.0 (parses_none p)
      all_parsed (line ∷ lines) before end number text on all =
          let first = parsed before number line all.0 all.2 on.sound all.3 in
          let others = all_parsed lines all.2 end (number + 1) all.1 (keeps before number line all.0 all.2 on all.3) all.4 in
          let joined = events-join first.more others.more in
          record {
            more = first.more ++ others.more;
            parses = subst (λ (t : List ℕ). ParsesFirst p t (first.more ++ others.more)) (sym all.5) (parses_both p all.0 all.1 first.more others.more first.parses others.parses);
            entries = others.entries ∙ ap (λ (es : List Entry). es ++ others.more) first.entries ∙ append_assoc before.entries first.more others.more;
            events = subst (AreEvents p before.cell) (sym joined)
                (events_join p before.cell (events_of first.more) (events_of others.more) first.events (subst (λ (x : Cell). AreEvents p x (events_of others.more)) first.cell others.events));
            cell = others.cell ∙ ap (λ (x : Cell). after_all p x (events_of others.more)) first.cell
                ∙ sym (after_all_join p before.cell (events_of first.more) (events_of others.more)) ∙ ap (after_all p before.cell) (sym joined);
          }

-- answers from the start of a run on, and the closing line, are a log
pub log_of_parsed : (p : PlannedShop) (shaped : IsWellShaped p) (answers closing text : List ℕ) (end : DrivenCell) → AreParsed p shaped (undriven p) answers end → CellCloses p end closing
    → text ≡ answers ++ closing → IsLogOf p text end
log_of_parsed p shaped answers closing text end parsed closes whole =
    let parses : LinesParse p (lines_of ((answers ++ closing) ++ [])) ((parsed.more ++ []) ++ []) =
    parses_both p answers closing parsed.more [] parsed.parses (closing_parses p end closing closes) [] [] refl in
    let same_text : (answers ++ closing) ++ [] ≡ text = append-nil (answers ++ closing) ∙ sym whole in
    let same_entries : (parsed.more ++ []) ++ [] ≡ end.entries = append-nil (parsed.more ++ []) ∙ append-nil parsed.more ∙ sym parsed.entries in
    record {
      parses = subst (λ (t : List ℕ). LinesParse p (lines_of t) end.entries) same_text (subst (λ (es : List Entry). LinesParse p (lines_of ((answers ++ closing) ++ [])) es) same_entries parses);
      run = subst (λ (es : List Entry). IsRun p (events_of es)) (sym parsed.entries) parsed.events;
      cell = parsed.cell ∙ ap (λ (es : List Entry). ends_in p (events_of es)) (sym parsed.entries);
    }
