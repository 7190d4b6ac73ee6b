-- The reports that are accepted by a protocol are answered as version 1 of the lines answers them.
use Rattle.std.proofs.Common.{◌≡◌, ℕ, ◌+◌, List, [], ◌∷◌, ◌++◌, map, codes, Option, Some, None, refl, sym, ap, ap₂, ◌∙◌, subst, inl, inr, append_assoc, append-nil}
use Rattle.std.proofs.lemmas.List.{append_cancel_left}
use Rattle.shop_base.specs.{declared.move_order.MoveOrder.MoveOrder, Plan.PlannedShop, Cell.{Cell, start}}
use Rattle.shop_base.specs.Controlled.{step_orders}
use Rattle.byte_streams.specs.Answering.{AnswerAll}
use Rattle.cell_tables.specs.{declared.claim.Claim.Claim, Claims.claimed, declared.entry.Entry.{Entry, TheVariants.Order as OrderEntry}}
use Rattle.event_lines.specs.declared.{details.Detail.TheVariants.Nothing, requests.Request.{Request, TheVariants.{Claim as ClaimRequest, Status}}}
use Rattle.event_lines.specs.{AnswerLines.refused_line, ReadBack.IsSpaceless, StandingLines.refused_detail_line}
use Rattle.event_lines.specs.SentLines.{IsReportLine, cell_prefix}
use Rattle.event_lines.proofs.Readings.{some_line}
use Rattle.cell_drive.specs.{declared.protocol.Protocol.Protocol, LineAnswers.accepted_lines}
use Rattle.cell_drive.specs.{AnswerText.{DrivenCell, CellReports, CellAnswers}, Refusals.{refusal_word, refusal_detail}}
use Rattle.cell_drive.specs.ProtocolText.{IsClaimAccepted, RequestAnswer, ProtocolAnswers, printed_overdue, prints_end}
use Rattle.cell_drive.specs.ProtocolCellsLaw.{SeesLines, none_left, asked, passed_over}
use Rattle.cell_drive.proofs.{ProtocolParses.word_spaceless, LineAnswers.asked_line, Replied.no_prefix}
use Rattle.drive_laws.specs.AnswerLaw.{AreReportLines}
use Rattle.drive_laws.specs.SameReportsLaw.{KeepsReports, nothing_more, refused, state, accepted, TheSameReportsAreAnsweredSo, TheSameReportsOfACell}

-- the lines that are the reports among these events, behind some orders
reports_behind : (orders : List MoveOrder) (later : List Entry) (reports : List (Option (List ℕ))) → AreReportLines reports (map OrderEntry orders ++ later) → AreReportLines reports later
reports_behind [] later reports are = are
reports_behind (o ∷ orders) later reports are = reports_behind orders later reports are

module _ (p : PlannedShop) (protocol : Protocol) where
  -- version 1 answers the lines by a text that is so
  abbrev AnswersBy : (List ℕ → Type 0) → DrivenCell → ℕ → List (Option (List ℕ)) → DrivenCell → Type 0
  AnswersBy is_so before number reports end = (other : List ℕ) × AnswerAll (CellAnswers p) before number reports other end × is_so other

  abbrev driven_to : Cell → List Entry → DrivenCell
  driven_to c entries = record { cell = c; entries = entries }

  -- ---- a claim that is accepted

  module _ (prefix : List ℕ) (before next : DrivenCell) (claim : Claim) (text : List ℕ) (events : List Entry) (is : IsClaimAccepted p protocol prefix before.cell claim text events next.cell) (entries : next.entries ≡ before.entries ++ events) where
    abbrev orders_then : List MoveOrder
    orders_then = step_orders p before.cell (claimed p claim) is.movers

    abbrev own_text : List ℕ
    own_text = accepted_lines [] (claimed p claim) is.late orders_then

    -- version 1 takes the report
    report_answered : (number : ℕ) (line : List ℕ) → IsReportLine line (claimed p claim) → CellAnswers p before number (Some line) own_text next
    report_answered number line is_line =
        asked_line IsReportLine (CellReports p) before number line own_text (claimed p claim) next (some_line line (claimed p claim) is_line) is_line (record {
          more = events;
          answer = inr (record { movers = is.movers; step = is.step; late = is.late; late_is = is.late_is; text_is = refl; events_are = is.events_are; next_is = is.next_is });
          entries = entries;
        })

    -- and then the others
    report_first : (end : DrivenCell) (later : List Entry) (number : ℕ) (reports : List (Option (List ℕ))) (is_so was_so : List ℕ → Type 0) → AreReportLines reports (events ++ later)
        → ((rest : List (Option (List ℕ))) → AreReportLines rest later → AnswersBy was_so next (number + 1) rest end) → ((others : List ℕ) → was_so others → is_so (own_text ++ others))
        → AnswersBy is_so before number reports end
    report_first end later number reports is_so was_so are behind with_own =
        let says : (line : List ℕ) × (rest : List (Option (List ℕ))) × IsReportLine line (claimed p claim) × AreReportLines rest (map OrderEntry orders_then ++ later) × (reports ≡ Some line ∷ rest) =
        subst (λ (es : List Entry). AreReportLines reports (es ++ later)) is.events_are are in
        let others = behind says.1 (reports_behind orders_then later says.1 says.3) in
        subst (λ (ls : List (Option (List ℕ))). AnswersBy is_so before number ls end) (sym says.4)
        (own_text ++ others.0, (own_text, others.0, next, report_answered number says.0 says.2, others.1, refl), with_own others.0 others.2)

  -- ---- a driven cell

  -- what is answered from a cell to another, and what version 1 answers to the reports of that
  record HasTheSame (before end : DrivenCell) (text : List ℕ) : Type 0 where
    more : List Entry
    entries : end.entries ≡ before.entries ++ more
    same : (number : ℕ) (reports : List (Option (List ℕ))) → AreReportLines reports more → AnswersBy (KeepsReports p text) before number reports end

  -- nothing is accepted
  passed : (before next end : DrivenCell) (text rest : List ℕ) → next ≡ before → ((other : List ℕ) → KeepsReports p rest other → KeepsReports p (text ++ rest) other) → HasTheSame next end rest → HasTheSame before end (text ++ rest)
  passed before next end text rest unmoved keeps on =
      let here : HasTheSame before end rest = subst (λ (d : DrivenCell). HasTheSame d end rest) unmoved on in
      record {
        more = here.more;
        entries = here.entries;
        same = λ number reports are. let plain = here.same number reports are in (plain.0, plain.1, keeps plain.0 plain.2);
      }

  no_events : (before next : DrivenCell) (events : List Entry) → events ≡ [] → next.cell ≡ before.cell → next.entries ≡ before.entries ++ events → next ≡ before
  no_events before next events none cell entries =
      ap₂ (λ (c : Cell) (es : List Entry). let d : DrivenCell = record { cell = c; entries = es } in d) cell (entries ∙ ap (λ (es : List Entry). before.entries ++ es) none ∙ append-nil before.entries)

  request_passed : (before next end : DrivenCell) (number : ℕ) (request : Request) (text : List ℕ) (events : List Entry) (rest : List ℕ) → RequestAnswer p protocol [] before.cell number request text events next.cell
      → next.entries ≡ before.entries ++ events → HasTheSame next end rest → HasTheSame before end (text ++ rest)
  request_passed before next end number (ClaimRequest claim) text events rest (inl is) entries on =
      let name = refusal_word is.refusal in
      let detail = refusal_detail protocol p before.cell (claimed p claim) is.refusal in
      let text_is : text ≡ refused_detail_line number name detail = is.text_is ∙ ap (λ (prefix : List ℕ). prefix ++ refused_detail_line number name detail) (no_prefix protocol) in
      passed before next end text rest (no_events before next events is.events_are is.next_is entries)
      (λ other keeps. subst (λ (t : List ℕ). KeepsReports p (t ++ rest) other) (sym text_is) (refused number name detail rest other (word_spaceless is.refusal) keeps)) on
  request_passed before next end number (ClaimRequest claim) text events rest (inr is) entries on = record {
    more = events ++ on.more;
    entries = on.entries ∙ ap (λ (es : List Entry). es ++ on.more) entries ∙ append_assoc before.entries events on.more;
    same = λ first reports are. report_first [] before next claim text events is entries end on.more first reports (KeepsReports p (text ++ rest)) (KeepsReports p rest) are (on.same (first + 1))
        (λ others keeps. subst (λ (t : List ℕ). KeepsReports p (t ++ rest) (own_text [] before next claim text events is entries ++ others)) (sym is.text_is)
        (accepted (claimed p claim) is.late (printed_overdue protocol p before.cell (claimed p claim)) (step_orders p before.cell (claimed p claim) is.movers) (prints_end protocol p next.cell) rest others keeps));
  }
  request_passed before next end number Status text events rest is entries on =
      passed before next end text rest (no_events before next events is.events_are is.next_is entries)
      (λ other keeps. subst (λ (t : List ℕ). KeepsReports p (t ++ rest) other) (sym is.text_is) (state before.cell rest other keeps)) on

  refusal_passed : (before next end : DrivenCell) (number : ℕ) (name text rest : List ℕ) → IsSpaceless name → next ≡ before → text ≡ refused_line number name → HasTheSame next end rest → HasTheSame before end (text ++ rest)
  refusal_passed before next end number name text rest spaceless unmoved text_is on =
      passed before next end text rest unmoved (λ other keeps. subst (λ (t : List ℕ). KeepsReports p (t ++ rest) other) (sym text_is) (refused number name Nothing rest other spaceless keeps)) on

  line_passed : (before next end : DrivenCell) (number : ℕ) (line : Option (List ℕ)) (text rest : List ℕ) → ProtocolAnswers p protocol before number line text next → HasTheSame next end rest → HasTheSame before end (text ++ rest)
  line_passed before next end number None text rest is on = refusal_passed before next end number (codes "LongLine") text rest refl is.end_is is.text_is on
  line_passed before next end number (Some []) text rest is on =
      passed before next end text rest is.end_is (λ other keeps. subst (λ (t : List ℕ). KeepsReports p (t ++ rest) other) (sym is.text_is) keeps) on
  line_passed before next end number (Some (b ∷ line)) text rest (inl is) on = refusal_passed before next end number (codes "BadLine") text rest refl is.1.end_is is.1.text_is on
  line_passed before next end number (Some (b ∷ line)) text rest (inr is) on = request_passed before next end number is.what text is.answer.more rest is.answer.answer is.answer.entries on

  lines_passed : (lines : List (Option (List ℕ))) (before end : DrivenCell) (number : ℕ) (text : List ℕ) → AnswerAll (ProtocolAnswers p protocol) before number lines text end → HasTheSame before end text
  lines_passed [] before end number text all = record {
    more = [];
    entries = ap (λ (d : DrivenCell). d.entries) all.1 ∙ sym (append-nil before.entries);
    same = λ first reports are. subst (λ (ls : List (Option (List ℕ))). AnswersBy (KeepsReports p text) before first ls end) (sym are)
        ([], (refl, all.1), subst (λ (t : List ℕ). KeepsReports p t []) (sym all.0) nothing_more);
  }
  lines_passed (line ∷ lines) before end number text all =
      subst (HasTheSame before end) (sym all.5) (line_passed before all.2 end number line all.0 all.1 all.3 (lines_passed lines all.2 end (number + 1) all.1 all.4))

  -- ---- a cell of several

  module _ (k : ℕ) where
    abbrev any_text : List ℕ → Type 0
    any_text other = Unit {0}

    -- what version 1 answers to the reports among these events, behind whatever stands before
    abbrev GoesTheSame : Cell → List Entry → Cell → Type 0
    GoesTheSame c events end = (before : List Entry) (number : ℕ) (reports : List (Option (List ℕ))) → AreReportLines reports events → AnswersBy any_text (driven_to c before) number reports (driven_to end (before ++ events))

    none_accepted : (c next end : Cell) (events more : List Entry) → events ≡ [] → next ≡ c → GoesTheSame next more end → GoesTheSame c (events ++ more) end
    none_accepted c next end events more none unmoved on =
        subst (λ (es : List Entry). GoesTheSame c (es ++ more) end) (sym none) (subst (λ (x : Cell). GoesTheSame x more end) unmoved on)

    request_goes : (c next end : Cell) (number : ℕ) (request : Request) (text : List ℕ) (events more : List Entry) → RequestAnswer p protocol (cell_prefix k) c number request text events next → GoesTheSame next more end
        → GoesTheSame c (events ++ more) end
    request_goes c next end number (ClaimRequest claim) text events more (inl is) on = none_accepted c next end events more is.events_are is.next_is on
    request_goes c next end number (ClaimRequest claim) text events more (inr is) on = λ before first reports are.
        report_first (cell_prefix k) (driven_to c before) (driven_to next (before ++ events)) claim text events is refl (driven_to end (before ++ (events ++ more))) more first reports any_text any_text are
        (λ rest says. subst (λ (es : List Entry). AnswersBy any_text (driven_to next (before ++ events)) (first + 1) rest (driven_to end es)) (append_assoc before events more) (on (before ++ events) (first + 1) rest says))
        (λ others so. tt)
    request_goes c next end number Status text events more is on = none_accepted c next end events more is.events_are is.next_is on

    sees_goes : (number : ℕ) (c : Cell) (lines : List (Option (List ℕ))) (events : List Entry) (end : Cell) → SeesLines p protocol k number c lines events end → GoesTheSame c events end
    sees_goes _ c _ _ _ (none_left number same) = λ before first reports are.
        subst (λ (ls : List (Option (List ℕ))). AnswersBy any_text (driven_to c before) first ls (driven_to c (before ++ []))) (sym are) ([], (refl, ap (driven_to c) (append-nil before)), tt)
    sees_goes _ _ _ _ end (asked number words lines c next last request text events more asks answer rest) =
        request_goes c next end number request text events more answer (sees_goes (number + 1) next lines more end rest)
    sees_goes _ _ _ events end (passed_over number line lines c last more not_of rest) = sees_goes (number + 1) c lines events end rest

pub the_same_reports_are_answered_so : TheSameReportsAreAnsweredSo
the_same_reports_are_answered_so p protocol number first lines reports text start end more all entries are =
    let on = lines_passed p protocol lines start end number text all in
    let events : on.more ≡ more = append_cancel_left start.entries on.more more (sym on.entries ∙ entries) in
    on.same first reports (subst (AreReportLines reports) (sym events) are)

pub the_same_reports_of_a_cell : TheSameReportsOfACell
the_same_reports_of_a_cell p protocol cell number lines reports events end sees are =
    let on = sees_goes p protocol cell number (start p) lines events end sees [] 1 reports are in
    (on.0, on.1)
