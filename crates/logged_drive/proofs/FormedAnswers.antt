-- What a driven cell answers, as a log gets it.
use Rattle.std.proofs.Common.{◌≡◌, ℕ, ◌+◌, ◌<◌, ◌≤◌, List, [], ◌∷◌, Option, ◌⊎◌, inl, inr, refl, sym, subst, arith}
use Rattle.shop_base.specs.declared.{limits.TheConstants.MAX_MOMENT, move_order.Spot.{Spot, TheVariants.{Out, At}}}
use Rattle.shop_base.specs.{declared.report.Report.{Report, TheVariants.{Arrive, Finish, Clean}}, Cell.Cell}
use Rattle.shop_base.specs.{Plan.{PlannedShop, IsWellShaped, jobs, machines}, Report.{at, after_report}, Sound.IsSound}
use Rattle.shop_base.specs.{Move.{order_for, after_move}, Controlled.{AreMoves, IsStep, orders_for, step_orders}}
use Rattle.shop_base.proofs.Keeping.{after_report-sound, after_move-sound}
use Rattle.cell_tables.specs.declared.entry.Entry.{Entry, TheVariants.{Report as ReportEntry, Order as OrderEntry}}
use Rattle.cell_tables.specs.Moving.{IsSpotOf}
use Rattle.byte_streams.specs.Answering.{AnswerAll}
use Rattle.event_lines.specs.{Words.{short, moment}, AnswerLines.late_words, LogLines.IsEntryOf}
use Rattle.event_lines.specs.EventLines.{spot_word, logged_words, entry_words, report_line, order_line, order_lines}
use Rattle.run_journal.specs.TornEnds.{IsNarrow, AreNarrow}
use Rattle.run_journal.proofs.Formed.{IsFormed, formed-none, formed-both}
use Rattle.run_journal.proofs.FormedLines.{formed-entry, formed-done, formed-unfinished}
use Rattle.cell_drive.specs.AnswerText.{DrivenCell, CellCloses}
use Rattle.cell_drive.proofs.{OneText.IsOnCourse, ShopEntries.{report_of_shop, order_of_shop}}

pub moment_fits : (at : ℕ) → at ≤ MAX_MOMENT → IsNarrow (moment at)
moment_fits at in_range = ((omega arith, omega (arith, in_range), omega (arith, in_range)), inl refl)

pub late_fits : (at : ℕ) → at ≤ MAX_MOMENT → AreNarrow (late_words at)
late_fits at in_range = (refl, (moment_fits at in_range, tt))

module _ (p : PlannedShop) (shaped : IsWellShaped p) where
  pub job_fits : (j : ℕ) → j < jobs p → IsNarrow (short j)
  job_fits j inside = let few = shaped.shop.counts.few_jobs in ((omega arith, omega (arith, inside, few), omega (arith, inside, few)), inr (omega (arith, inside, few)))

  pub machine_fits : (m : ℕ) → m < machines p → IsNarrow (short m)
  machine_fits m inside = let few = shaped.shop.counts.few_machines in ((omega arith, omega (arith, inside, few), omega (arith, inside, few)), inr (omega (arith, inside, few)))

  spot_fits : (spot : Spot) → IsSpotOf p spot → IsNarrow (spot_word spot)
  spot_fits Out of_shop = refl
  spot_fits (At m) of_shop = machine_fits m of_shop

  report_fits : (report : Report) → IsEntryOf p (ReportEntry report) → AreNarrow (logged_words report)
  report_fits (Arrive job at) of_shop = (refl, (moment_fits at of_shop.1, (refl, (job_fits job of_shop.0, tt))))
  report_fits (Finish job machine at) of_shop = (refl, (moment_fits at of_shop.1, (refl, (job_fits job of_shop.0.0, (machine_fits machine of_shop.0.1, tt)))))
  report_fits (Clean machine at) of_shop = (refl, (moment_fits at of_shop.1, (refl, (machine_fits machine of_shop.0, tt))))

  entry_fits : (entry : Entry) → IsEntryOf p entry → AreNarrow (entry_words entry)
  entry_fits (ReportEntry report) of_shop = report_fits report of_shop
  entry_fits (OrderEntry o) of_shop = (refl, (moment_fits o.at of_shop.3, (job_fits o.job of_shop.0, (spot_fits o.source of_shop.1, (spot_fits o.target of_shop.2, tt)))))

  -- ---- the lines of a step

  pub formed_moves : (c : Cell) (t : ℕ) (js : List ℕ) → IsSound p c → AreMoves p c t js → IsFormed (order_lines (orders_for p c t js))
  formed_moves c t [] sound moves = formed-none
  formed_moves c t (j ∷ js) sound moves =
      let o = order_for p c j t in
      formed-both (order_line o) (order_lines (orders_for p (after_move p c j t) t js)) (formed-entry (OrderEntry o) (entry_fits (OrderEntry o) (order_of_shop p c j t shaped sound moves.0)))
      (formed_moves (after_move p c j t) t js (after_move-sound p c j t shaped sound moves.0 moves.1) moves.2)

  pub step_formed : (c : Cell) (report : Report) (movers : List ℕ) → IsSound p c → IsStep p c report movers → IsFormed (order_lines (step_orders p c report movers))
  step_formed c report movers sound step = formed_moves (after_report c report) (at report) movers (after_report-sound p c report shaped sound step.can) step.moves

  pub report_formed : (c : Cell) (report : Report) (movers : List ℕ) → IsSound p c → IsStep p c report movers → IsFormed (report_line report)
  report_formed c report movers sound step = formed-entry (ReportEntry report) (entry_fits (ReportEntry report) (report_of_shop p c report shaped sound step.can))

  -- lines, whatever is answered to each
  module _ (answers : DrivenCell → ℕ → Option (List ℕ) → List ℕ → DrivenCell → Type 0)
      (keeps : (before : DrivenCell) (number : ℕ) (line : Option (List ℕ)) (text : List ℕ) (end : DrivenCell) → IsOnCourse p before.cell → answers before number line text end → IsOnCourse p end.cell)
      (formed : (before : DrivenCell) (number : ℕ) (line : Option (List ℕ)) (text : List ℕ) (end : DrivenCell) → IsSound p before.cell → answers before number line text end → IsFormed text) where
    pub all_formed : (lines : List (Option (List ℕ))) (before end : DrivenCell) (number : ℕ) (text : List ℕ) → IsOnCourse p before.cell → AnswerAll answers before number lines text end → IsFormed text
    all_formed [] before end number text on all = subst IsFormed (sym all.0) formed-none
    all_formed (line ∷ lines) before end number text on all =
        subst IsFormed (sym all.5) (formed-both all.0 all.1 (formed before number line all.0 all.2 on.sound all.3)
        (all_formed lines all.2 end (number + 1) all.1 (keeps before number line all.0 all.2 on all.3) all.4))

  closing_formed : (end : DrivenCell) (text : List ℕ) → CellCloses p end text → IsFormed text
  closing_formed end text (inl ended) = subst IsFormed (sym ended.1) (formed-done end.cell.last)
  closing_formed end text (inr unfinished) = subst IsFormed (sym unfinished.1) (formed-unfinished _)

  -- the closing line, where it stands behind the answers
  pub last_formed : (end : DrivenCell) (closing : List ℕ) → (closing ≡ []) ⊎ CellCloses p end closing → IsFormed closing
  last_formed end closing (inl none) = subst IsFormed (sym none) formed-none
  last_formed end closing (inr closes) = closing_formed end closing closes
