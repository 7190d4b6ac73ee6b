-- The answer to a report has at most 16,384 bytes.
use Rattle.std.proofs.Common.{◌≡◌, ℕ, ◌*◌, ◌<◌, ◌≤◌, Bool, true, false, cond, List, [], ◌∷◌, ◌++◌, codes, decimal}
use Rattle.std.proofs.{Common.{length, Option, None, Some, refl, ap, arith}, lemmas.List.length-append}
use Rattle.std.specs.List.{flat_map}
use Rattle.shop_base.specs.declared.{limits.TheConstants.MAX_MOMENT, move_order.{MoveOrder.MoveOrder, Spot.Spot}}
use Rattle.shop_base.specs.{declared.{move_order.Spot.TheVariants.{Out, At}, report.Report.Report}, Cell.Cell}
use Rattle.shop_base.specs.{declared.report.Report.TheVariants.{Arrive, Finish, Clean}, Move.{after_move, order_for}}
use Rattle.shop_base.specs.{Plan.{PlannedShop, IsWellShaped, jobs, machines}, Report.{at, after_report}, Sound.IsSound}
use Rattle.shop_base.specs.Controlled.{AreMoves, orders_for, step_orders}
use Rattle.shop_base.proofs.{CellFacts.ready_count-le, Keeping.{after_move-sound, after_report-sound, run-sound}}
use Rattle.shop_base.proofs.ReadyCount.{after_moves-ready_count}
use Rattle.cell_tables.specs.declared.entry.Entry.TheVariants.{Report as ReportEntry, Order as OrderEntry}
use Rattle.cell_tables.specs.{Claims.claimed, Events.events_of, Moving.IsSpotOf}
use Rattle.event_lines.specs.{declared.details.Overdue.Overdue, Words.{written, line_of}, LogLines.IsEntryOf}
use Rattle.event_lines.specs.EventLines.{logged_words, order_line, order_words, report_line, spot_word}
use Rattle.event_lines.specs.AnswerLines.{done_words, late_words}
use Rattle.cell_drive.specs.{OneRun.cell_after, ProtocolText.{end_part, lateness_part, printed_overdue, prints_end}}
use Rattle.cell_drive.specs.{Refusals.standing_of, States.overdue_in}
use Rattle.cell_drive.proofs.ShopEntries.{order_of_shop, report_of_shop}
use Rattle.drive_laws.proofs.ShortLines.{late_lines_are_short, moment_fits, short_fits, words_fit}
use Rattle.drive_laws.proofs.ShortNumbers.{overdue_is_short}
use Rattle.drive_laws.specs.ShortLinesLaw.{AnswersAreShort, IsShort, IsShortStanding}

late_fits : (t : ℕ) → t ≤ MAX_MOMENT → length (line_of (late_words t)) ≤ 128
late_fits t in_range = let late_is : length (codes "late") ≡ 4 = refl in omega (arith, words_fit (late_words t) (10 ∷ []), late_is, moment_fits t (omega (arith, in_range)))

done_fits : (t : ℕ) → t ≤ MAX_MOMENT → length (line_of (done_words t)) ≤ 128
done_fits t in_range = let done_is : length (codes "done") ≡ 4 = refl in omega (arith, words_fit (done_words t) (10 ∷ []), done_is, moment_fits t (omega (arith, in_range)))

lateness_fits : (t : ℕ) (late : Bool) (overdue : Option Overdue) → t ≤ MAX_MOMENT → ((o : Overdue) → overdue ≡ Some o → IsShortStanding o.first × IsShort o.others) → length (lateness_part [] t late overdue) ≤ 128
lateness_fits t false overdue in_range short = omega arith
lateness_fits t true None in_range short = late_fits t in_range
lateness_fits t true (Some o) in_range short = let (first, others) = short o refl in late_lines_are_short [] t o (omega arith) (omega (arith, in_range)) first others

end_fits : (t : ℕ) (ended : Bool) → t ≤ MAX_MOMENT → length (end_part [] t ended) ≤ 128
end_fits t false in_range = omega arith
end_fits t true in_range = done_fits t in_range

module _ (p : PlannedShop) (shaped : IsWellShaped p) where
  job_fits : (j : ℕ) → j < jobs p → length (decimal j) ≤ 3
  job_fits j within = short_fits j (omega (arith, within, shaped.shop.counts.few_jobs))

  machine_fits : (m : ℕ) → m < machines p → length (decimal m) ≤ 3
  machine_fits m within = short_fits m (omega (arith, within, shaped.shop.counts.few_machines))

  spot_fits : (spot : Spot) → IsSpotOf p spot → length (written (spot_word spot)) ≤ 3
  spot_fits Out of_shop = omega arith
  spot_fits (At m) of_shop = machine_fits m of_shop

  order_fits : (o : MoveOrder) → IsEntryOf p (OrderEntry o) → length (order_line o) ≤ 64
  order_fits o of_shop =
      let order_is : length (codes "order") ≡ 5 = refl in
      omega (arith, words_fit (order_words o) (10 ∷ []), order_is, moment_fits o.at (omega (arith, of_shop.3)), job_fits o.job of_shop.0, spot_fits o.source of_shop.1, spot_fits o.target of_shop.2)

  report_fits : (report : Report) → IsEntryOf p (ReportEntry report) → length (report_line report) ≤ 64
  report_fits (Arrive job t) of_shop =
      let report_is : length (codes "report") ≡ 6 = refl in
      let arrive_is : length (codes "arrive") ≡ 6 = refl in
      omega (arith, words_fit (logged_words (Arrive job t)) (10 ∷ []), report_is, arrive_is, moment_fits t (omega (arith, of_shop.1)), job_fits job of_shop.0)
  report_fits (Finish job machine t) of_shop =
      let report_is : length (codes "report") ≡ 6 = refl in
      let finish_is : length (codes "finish") ≡ 6 = refl in
      omega (arith, words_fit (logged_words (Finish job machine t)) (10 ∷ []), report_is, finish_is, moment_fits t (omega (arith, of_shop.1)), job_fits job of_shop.0.0, machine_fits machine of_shop.0.1)
  report_fits (Clean machine t) of_shop =
      let report_is : length (codes "report") ≡ 6 = refl in
      let clean_is : length (codes "clean") ≡ 5 = refl in
      omega (arith, words_fit (logged_words (Clean machine t)) (10 ∷ []), report_is, clean_is, moment_fits t (omega (arith, of_shop.1)), machine_fits machine of_shop.0)

  moves_fit : (c : Cell) (t : ℕ) (js : List ℕ) → IsSound p c → AreMoves p c t js → length (flat_map order_line (orders_for p c t js)) ≤ 64 * length js
  moves_fit c t [] sound moves = omega arith
  moves_fit c t (j ∷ js) sound moves =
      let o = order_for p c j t in
      let next = after_move p c j t in
      omega (
        arith,
        length-append (order_line o) (flat_map order_line (orders_for p next t js)),
        order_fits o (order_of_shop p c j t shaped sound moves.0),
        moves_fit next t js (after_move-sound p c j t shaped sound moves.0 moves.1) moves.2,
      )

pub answers_are_short : AnswersAreShort
answers_are_short p protocol entries claim text more next shaped run is =
    let c = cell_after p entries in
    let report = claimed p claim in
    let sound = run-sound p (events_of entries) shaped run in
    let can = is.step.can in
    let reported = after_report-sound p c report shaped sound can in
    let in_range = can.moment.in_range in
    let overdue = printed_overdue protocol p c report in
    let lateness = lateness_part [] (at report) is.late overdue in
    let orders = flat_map order_line (step_orders p c report is.movers) in
    let ending = end_part [] (at report) (prints_end protocol p next) in
    omega (
      arith,
      ap length is.text_is,
      length-append (report_line report) (lateness ++ (orders ++ ending)),
      length-append lateness (orders ++ ending),
      length-append orders ending,
      report_fits p shaped report (report_of_shop p c report shaped sound can),
      lateness_fits (at report) is.late overdue in_range (λ o same. let short = overdue_is_short p entries report o shaped run can (found protocol.version_2 o same) in (short.1, short.2)),
      moves_fit p shaped (after_report c report) (at report) is.movers reported is.step.moves,
      end_fits (at report) (prints_end protocol p next) in_range,
      after_moves-ready_count p (after_report c report) (at report) is.movers shaped reported is.step.moves,
      ready_count-le p (after_report c report),
      shaped.shop.counts.few_jobs,
    )
  where
    found : (version_2 : Bool) (o : Overdue) → cond version_2 (overdue_in p (cell_after p entries) (standing_of p (cell_after p entries) (claimed p claim)) (at (claimed p claim))) None ≡ Some o
        → overdue_in p (cell_after p entries) (standing_of p (cell_after p entries) (claimed p claim)) (at (claimed p claim)) ≡ Some o
    found true o same = same
    found false o same = absurd (cc same)
