-- What a cell that is driven by a protocol wrote, as a log is read.
use Rattle.std.proofs.Common.{◌≡◌, ◌==◌, ℕ, zero, suc, List, [], ◌∷◌, ◌++◌, map, codes, Bool, true, false, cond, Option, Some, None, refl, sym, ap, ◌∙◌, subst, inl, inr, append-nil}
use Rattle.shop_base.specs.{Plan.{PlannedShop, IsWellShaped, jobs, machines}, Cell.Cell, Controlled.step_orders}
use Rattle.shop_base.specs.{ReportsLeft.reports_left, Sound.IsSound, Report.at}
use Rattle.cell_tables.specs.declared.entry.Entry.{Entry, TheVariants.{Report as ReportEntry, Order as OrderEntry}}
use Rattle.cell_tables.specs.{Claims.claimed, declared.standing.Standing.Standing, Standings.{job_standing, machine_standing}}
use Rattle.byte_streams.specs.Lines.{input_lines}
use Rattle.event_lines.specs.{EventLines.{report_line, order_lines}, AnswerLines.{done_line, unfinished_line}}
use Rattle.event_lines.specs.{ReadBack.{IsSpaceless, ParsesFirst}, declared.details.Overdue.Overdue}
use Rattle.event_lines.specs.StandingLines.{unfinished_standing_line, refused_detail_line}
use Rattle.event_lines.specs.declared.requests.Request.{Request, TheVariants.{Claim as ClaimRequest, Status}}
use Rattle.event_lines.proofs.EntryParses.{parses_none, parses_both, others_parse_none}
use Rattle.cell_drive.specs.{declared.protocol.Protocol.Protocol, Refusals.{refusal_word, refusal_detail}}
use Rattle.cell_drive.specs.{declared.refusals.Refusal.{Refusal, TheVariants.{Reason, Leap}}, LineAnswers.closing_line}
use Rattle.cell_drive.specs.States.{is_over, standing_part, texts_from, jobs_text, machines_text, state_text}
use Rattle.cell_drive.specs.{AnswerText.{DrivenCell, undriven}, AuditLaw.AnAnswerTextIsALog}
use Rattle.cell_drive.specs.ProtocolText.{RequestAnswer, ProtocolAnswers, lateness_part, end_part, printed_overdue, prints_end}
use Rattle.cell_drive.proofs.{OneText.{start_on_course, protocol_lines_keep}, Replied.no_prefix}
use Rattle.cell_drive.proofs.ReadBack.{AreParsed, all_parsed, log_of_parsed, name_spaceless, nothing_parsed, step_moves, step_report, step_parses}

pub word_spaceless : (refusal : Refusal) → IsSpaceless (refusal_word refusal)
word_spaceless (Reason reason) = name_spaceless reason
word_spaceless Leap = refl

module _ (p : PlannedShop) where
  -- ---- the state

  texts_parse : (text : ℕ → List ℕ) (k n : ℕ) → ((i : ℕ) → ParsesFirst p (text i) []) → ParsesFirst p (texts_from text k n) []
  texts_parse text k zero each = parses_none p
  texts_parse text k (suc n) each = parses_both p (text k) (texts_from text (suc k) n) [] [] (each k) (texts_parse text (suc k) n each)

  standing_parses : (standing : Standing) → ParsesFirst p (standing_part [] standing) []
  standing_parses standing = chosen (is_over standing)
    where
      chosen : (over : Bool) → ParsesFirst p (cond over [] (unfinished_standing_line standing)) []
      chosen true = parses_none p
      chosen false = (others_parse_none p).stands standing

  closing_line_parses : (c : Cell) → ParsesFirst p (closing_line p c) []
  closing_line_parses c = chosen (reports_left p c == 0)
    where
      chosen : (ended : Bool) → ParsesFirst p (cond ended (done_line c.last) (unfinished_line (reports_left p c))) []
      chosen true = (others_parse_none p).done c.last
      chosen false = (others_parse_none p).unfinished (reports_left p c)

  state_parses : (c : Cell) → ParsesFirst p (state_text [] p c) []
  state_parses c =
      parses_both p (jobs_text [] p c ++ machines_text [] p c) (closing_line p c) [] []
      (parses_both p (jobs_text [] p c) (machines_text [] p c) [] [] (texts_parse (λ j. standing_part [] (job_standing p c j)) 0 (jobs p) (λ j. standing_parses (job_standing p c j)))
      (texts_parse (λ m. standing_part [] (machine_standing p c m)) 0 (machines p) (λ m. standing_parses (machine_standing p c m))))
      (closing_line_parses c)

  -- ---- what is accepted

  pub lateness_parses : (at : ℕ) (late : Bool) (overdue : Option Overdue) → ParsesFirst p (lateness_part [] at late overdue) []
  lateness_parses at true None = (others_parse_none p).late at
  lateness_parses at true (Some overdue) = (others_parse_none p).late_for at overdue
  lateness_parses at false overdue = parses_none p

  end_behind_log : (at : ℕ) (ended : Bool) → ParsesFirst p (end_part [] at ended) []
  end_behind_log at true = (others_parse_none p).done at
  end_behind_log at false = parses_none p

  module _ (shaped : IsWellShaped p) (protocol : Protocol) where
    request_parses : (before : DrivenCell) (number : ℕ) (request : Request) (text : List ℕ) (end : DrivenCell) (more : List Entry) → IsSound p before.cell → end.entries ≡ before.entries ++ more
        → RequestAnswer p protocol [] before.cell number request text more end.cell → AreParsed p shaped before text end
    request_parses before number (ClaimRequest claim) text end more sound entries (inl is) = record {
      more = [];
      parses = subst (λ (t : List ℕ). ParsesFirst p t []) (sym (is.text_is ∙ ap (λ (prefix : List ℕ). prefix ++ refused_detail_line number (refusal_word is.refusal) (refusal_detail protocol p before.cell (claimed p claim) is.refusal)) (no_prefix protocol)))
          ((others_parse_none p).refused_for number (refusal_word is.refusal) (refusal_detail protocol p before.cell (claimed p claim) is.refusal) (word_spaceless is.refusal));
      entries = entries ∙ ap (λ (es : List Entry). before.entries ++ es) is.events_are;
      events = tt;
      cell = is.next_is;
    }
    request_parses before number (ClaimRequest claim) text end more sound entries (inr is) =
        let report = claimed p claim in
        let c = before.cell in
        let orders = step_orders p c report is.movers in
        let lateness = lateness_part [] (at report) is.late (printed_overdue protocol p c report) in
        let ending = end_part [] (at report) (prints_end protocol p end.cell) in
        let moves : ParsesFirst p (order_lines orders ++ ending) (map OrderEntry orders) =
        subst (λ (es : List Entry). ParsesFirst p (order_lines orders ++ ending) es) (append-nil (map OrderEntry orders))
        (parses_both p (order_lines orders) ending (map OrderEntry orders) [] (step_moves p shaped c report is.movers sound is.step) (end_behind_log (at report) (prints_end protocol p end.cell))) in
        step_parses p shaped before report text end is.movers sound is.step
        (subst (λ (t : List ℕ). ParsesFirst p t (ReportEntry report ∷ map OrderEntry orders)) (sym is.text_is)
        (parses_both p (report_line report) (lateness ++ (order_lines orders ++ ending)) (ReportEntry report ∷ []) (map OrderEntry orders) (step_report p shaped c report is.movers sound is.step)
        (parses_both p lateness (order_lines orders ++ ending) [] (map OrderEntry orders) (lateness_parses (at report) is.late (printed_overdue protocol p c report)) moves)))
        (entries ∙ ap (λ (es : List Entry). before.entries ++ es) is.events_are) is.next_is
    request_parses before number Status text end more sound entries is = record {
      more = [];
      parses = subst (λ (t : List ℕ). ParsesFirst p t []) (sym is.text_is) (state_parses before.cell);
      entries = entries ∙ ap (λ (es : List Entry). before.entries ++ es) is.events_are;
      events = tt;
      cell = is.next_is;
    }

    pub protocol_line_parses : (before : DrivenCell) (number : ℕ) (line : Option (List ℕ)) (text : List ℕ) (end : DrivenCell) → IsSound p before.cell → ProtocolAnswers p protocol before number line text end
        → AreParsed p shaped before text end
    protocol_line_parses before number None text end sound is = nothing_parsed p shaped before text _ end is.end_is is.text_is ((others_parse_none p).refused number (codes "LongLine") refl)
    protocol_line_parses before number (Some []) text end sound is = nothing_parsed p shaped before text [] end is.end_is is.text_is (parses_none p)
    protocol_line_parses before number (Some (b ∷ line)) text end sound (inl is) = nothing_parsed p shaped before text _ end is.1.end_is is.1.text_is ((others_parse_none p).refused number (codes "BadLine") refl)
    protocol_line_parses before number (Some (b ∷ line)) text end sound (inr is) = request_parses before number is.what text end is.answer.more sound is.answer.entries is.answer.answer

pub an_answer_text_is_a_log : AnAnswerTextIsALog
an_answer_text_is_a_log p protocol input text end shaped is =
    log_of_parsed p shaped is.answers is.closing text end
    (all_parsed p shaped (ProtocolAnswers p protocol) (protocol_lines_keep p protocol) (protocol_line_parses p shaped protocol) (input_lines input) (undriven p) end 1 is.answers (start_on_course p shaped) is.are_answers)
    is.is_closing is.whole
