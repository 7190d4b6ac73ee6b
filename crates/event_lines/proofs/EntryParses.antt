-- What a text records whose lines were written.
use Rattle.std.proofs.Common.{◌≡◌, true, ℕ, zero, suc, Option, None, Some, ◌<◌, ◌≤◌, List, [], ◌∷◌, ◌++◌, codes, refl, sym, arith, subst, append_assoc}
use Rattle.shop_base.specs.declared.limits.TheConstants.{MAX_MOMENT}
use Rattle.shop_base.specs.declared.move_order.Spot.{Spot}
use Rattle.shop_base.specs.declared.move_order.Spot.TheVariants.{Out, At}
use Rattle.shop_base.specs.declared.report.Report.{Report}
use Rattle.shop_base.specs.Plan.{PlannedShop, jobs, machines, IsWellShaped}
use Rattle.shop_base.specs.Report.{at}
use Rattle.shop_base.specs.declared.report.Report.TheVariants.{Arrive, Finish, Clean}
use Rattle.text_lines.specs.Lines.{lines_of}
use Rattle.cell_tables.specs.Moving.{IsSpotOf}
use Rattle.cell_tables.specs.declared.entry.Entry.{Entry}
use Rattle.cell_tables.specs.declared.entry.Entry.TheVariants.{Report as ReportEntry, Order as OrderEntry}
use Rattle.event_lines.specs.Words.{Word, Text, short, moment, written, words_before, line_of}
use Rattle.event_lines.specs.EventLines.{end_words, spot_word, logged_words, move_words, order_words, entry_words}
use Rattle.cell_tables.specs.declared.standing.Standing.{Standing}
use Rattle.cell_tables.specs.declared.standing.Standing.TheVariants.{Awaited, Outside, Worked, Done, Gone, Cleaned, Clean as CleanMachine}
use Rattle.event_lines.specs.declared.details.Detail.{Detail}
use Rattle.event_lines.specs.declared.details.Detail.TheVariants.{Nothing, Last, Stands}
use Rattle.event_lines.specs.AnswerLines.{late_words, refused_words, done_words, unfinished_words, is_passed_over}
use Rattle.event_lines.specs.StandingLines.{shown_word, standing_words, detail_words, others_words, unfinished_standing_words, refused_detail_words, late_overdue_words}
use Rattle.event_lines.specs.LogLines.{IsEntryOf, LineParses, LinesParse}
use Rattle.event_lines.specs.ReadBack.{IsSpaceless, IsFitting, AreFitting, ParsesFirst, WrittenEntriesParse, OtherAnswersParseNone}
use Rattle.event_lines.proofs.WrittenWords.{AreSpaceless, decimal_spaceless, step_spaceless, all_spaceless, line_first, read_back}

-- ---- words of how it stands

spot_spaceless : (spot : Spot) → IsSpaceless (written (spot_word spot))
spot_spaceless Out = refl
spot_spaceless (At m) = decimal_spaceless m

visit_spaceless : (job : ℕ) (step : Option ℕ) → IsSpaceless (written (shown_word job step))
visit_spaceless job None = decimal_spaceless job
visit_spaceless job (Some step) = step_spaceless job step

pub standing_spaceless : (standing : Standing) → AreSpaceless (standing_words standing)
standing_spaceless (Awaited job due) = (refl, (decimal_spaceless job, (refl, (decimal_spaceless due, tt))))
standing_spaceless (Outside job to) = (refl, (decimal_spaceless job, (refl, (refl, (refl, (refl, (spot_spaceless to, tt)))))))
standing_spaceless (Worked visit machine since due) =
    (refl, (visit_spaceless visit.job visit.step, (refl, (refl, (decimal_spaceless machine, (refl, (decimal_spaceless since, (refl, (decimal_spaceless due, tt)))))))))
standing_spaceless (Done visit machine to) =
    (refl, (visit_spaceless visit.job visit.step, (refl, (refl, (refl, (decimal_spaceless machine, (refl, (refl, (spot_spaceless to, tt)))))))))
standing_spaceless (Gone job at) = (refl, (decimal_spaceless job, (refl, (refl, (refl, (decimal_spaceless at, tt))))))
standing_spaceless (Cleaned machine visit since due) =
    (refl, (decimal_spaceless machine, (refl, (refl, (refl, (visit_spaceless visit.job visit.step, (refl, (decimal_spaceless since, (refl, (decimal_spaceless due, tt))))))))))
standing_spaceless (CleanMachine machine) = (refl, (decimal_spaceless machine, (refl, (refl, tt))))

passed : (standing : Standing) → is_passed_over (words_before (unfinished_standing_words standing) []) ≡ true
passed (Awaited job due) = refl
passed (Outside job to) = refl
passed (Worked visit machine since due) = refl
passed (Done visit machine to) = refl
passed (Gone job at) = refl
passed (Cleaned machine visit since due) = refl
passed (CleanMachine machine) = refl

pub detail_spaceless : (detail : Detail) → AreSpaceless (detail_words detail)
detail_spaceless Nothing = tt
detail_spaceless (Last at) = (refl, (decimal_spaceless at, tt))
detail_spaceless (Stands standing) = standing_spaceless standing

others_spaceless : (others : ℕ) → AreSpaceless (others_words others)
others_spaceless zero = tt
others_spaceless (suc k) = (refl, (decimal_spaceless (suc k), (refl, tt)))

both_spaceless : (one other : List Word) → AreSpaceless one → AreSpaceless other → AreSpaceless (one ++ other)
both_spaceless [] other first second = second
both_spaceless (word ∷ one) other first second = (first.0, both_spaceless one other first.1 second)

module _ (p : PlannedShop) where
  pub parses_none : ParsesFirst p [] []
  parses_none rest later parses = parses

  pub parses_both : (first second : List ℕ) (own more : List Entry) → ParsesFirst p first own → ParsesFirst p second more → ParsesFirst p (first ++ second) (own ++ more)
  parses_both first second own more one other rest later parses =
      subst (λ (text : List ℕ). LinesParse p (lines_of text) ((own ++ more) ++ later)) (sym (append_assoc first second rest))
      (subst (λ (entries : List Entry). LinesParse p (lines_of (first ++ (second ++ rest))) entries) (sym (append_assoc own more later))
      (one (second ++ rest) (more ++ later) (other rest later parses)))

  parses_line : (words : List Word) (own : List Entry) → AreSpaceless words → LineParses p (words_before words []) own → ParsesFirst p (line_of words) own
  parses_line words own are parses rest later after =
      subst (λ (lines : List (List ℕ)). LinesParse p lines (own ++ later)) (sym (line_first words rest are)) (own, later, parses, after, refl)

  pub others_parse_none : OtherAnswersParseNone p
  others_parse_none = record {
    late = λ at. parses_line (late_words at) [] (refl, (decimal_spaceless at, tt)) refl;
    refused = λ number name is. parses_line (refused_words number name) [] (refl, (decimal_spaceless number, (is, tt))) refl;
    done = λ at. parses_line (done_words at) [] (refl, (decimal_spaceless at, tt)) refl;
    unfinished = λ left. parses_line (unfinished_words left) [] (refl, (decimal_spaceless left, tt)) refl;
    stands = λ standing. parses_line (unfinished_standing_words standing) [] (refl, standing_spaceless standing) (passed standing);
    refused_for = λ number name detail is. parses_line (refused_detail_words number name detail) [] (refl, (decimal_spaceless number, (is, detail_spaceless detail))) refl;
    late_for = λ at overdue.
        parses_line (late_overdue_words at overdue) []
        (refl, (decimal_spaceless at, both_spaceless (standing_words overdue.first) (others_words overdue.others) (standing_spaceless overdue.first) (others_spaceless overdue.others)))
        refl;
  }

  -- ---- the words of an entry of the shop

  module _ (shaped : IsWellShaped p) where
    pub job_fits : (j : ℕ) → j < jobs p → IsFitting (short j)
    job_fits j inside = let few = shaped.shop.counts.few_jobs in (omega arith, omega (arith, inside, few), omega (arith, inside, few))

    pub machine_fits : (m : ℕ) → m < machines p → IsFitting (short m)
    machine_fits m inside = let few = shaped.shop.counts.few_machines in (omega arith, omega (arith, inside, few), omega (arith, inside, few))

    pub moment_fits : (at : ℕ) → at ≤ MAX_MOMENT → IsFitting (moment at)
    moment_fits at in_range = (omega arith, omega (arith, in_range), omega (arith, in_range))

    spot_fits : (spot : Spot) → IsSpotOf p spot → IsFitting (spot_word spot)
    spot_fits Out of_shop = refl
    spot_fits (At m) of_shop = machine_fits m of_shop

    report_fits : (report : Report) → IsEntryOf p (ReportEntry report) → AreFitting (logged_words report)
    report_fits (Arrive job at) of_shop = (refl, (moment_fits at of_shop.1, (refl, (job_fits job of_shop.0, tt))))
    report_fits (Finish job machine at) of_shop = (refl, (moment_fits at of_shop.1, (refl, (job_fits job of_shop.0.0, (machine_fits machine of_shop.0.1, tt)))))
    report_fits (Clean machine at) of_shop = (refl, (moment_fits at of_shop.1, (refl, (machine_fits machine of_shop.0, tt))))

    parses_fitting : (entry : Entry) → AreFitting (entry_words entry) → IsEntryOf p entry → ParsesFirst p (line_of (entry_words entry)) (entry ∷ [])
    parses_fitting (ReportEntry report) fit of_shop = parses_line (logged_words report) (ReportEntry report ∷ []) (all_spaceless (logged_words report) fit) (refl, read_back (Text (codes "report")) (moment (at report) ∷ end_words report) fit, of_shop)
    parses_fitting (OrderEntry o) fit of_shop = parses_line (order_words o) (OrderEntry o ∷ []) (all_spaceless (order_words o) fit) (refl, read_back (Text (codes "order")) (move_words o) fit, of_shop)

    pub parses_entry : (entry : Entry) → IsEntryOf p entry → ParsesFirst p (line_of (entry_words entry)) (entry ∷ [])
    parses_entry (ReportEntry report) of_shop = parses_fitting (ReportEntry report) (report_fits report of_shop) of_shop
    parses_entry (OrderEntry o) of_shop = parses_fitting (OrderEntry o)
        (refl, (moment_fits o.at of_shop.3, (job_fits o.job of_shop.0, (spot_fits o.source of_shop.1, (spot_fits o.target of_shop.2, tt))))) of_shop

pub written_entries_parse : WrittenEntriesParse
written_entries_parse p entry shaped of_shop = parses_entry p shaped entry of_shop
