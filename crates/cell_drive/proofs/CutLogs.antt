-- A log that was cut is recovered.
use Rattle.std.proofs.Common.{◌≡◌, ℕ, ◌+◌, List, [], ◌∷◌, ◌++◌, map, Option, Some, None, length, ◌⊎◌, inl, inr, sym, ap, ◌∙◌, subst, arith, append_assoc, append-nil}
use Rattle.shop_base.specs.{declared.report.Report.Report, Plan.{PlannedShop, IsWellShaped}, Cell.{Cell, start}}
use Rattle.shop_base.specs.Run.{Event, Reported, IsRun}
use Rattle.shop_base.specs.Controlled.{Leads, accepted, done, refused, moved, step_orders, after_step, IsControlledRun}
use Rattle.shop_base.proofs.ControlledRuns.{controlled_to_run}
use Rattle.text_lines.specs.Lines.{lines_of, ended_lines}
use Rattle.cell_tables.specs.declared.entry.Entry.{Entry, TheVariants.{Report as ReportEntry, Order as OrderEntry}}
use Rattle.cell_tables.specs.{Claims.claimed, Events.events_of}
use Rattle.event_lines.specs.{LogLines.LinesParse, ReadBack.ParsesFirst}
use Rattle.event_lines.specs.declared.requests.Request.{Request, TheVariants.{Claim as ClaimRequest, Status}}
use Rattle.event_lines.proofs.{Readings.parse-parts, EntryParses.parses_none}
use Rattle.run_log.proofs.Audits.{events-join}
use Rattle.byte_streams.specs.Answering.{AnswerAll}
use Rattle.cell_drive.specs.{declared.protocol.Protocol.Protocol, AnswerText.{DrivenCell, undriven, CellCloses}}
use Rattle.cell_drive.specs.{ProtocolText.{RequestAnswer, ProtocolAnswers}, OneRun.{cell_after, IsRunOf}}
use Rattle.cell_drive.specs.CutLaw.{IsCutFrom, ACutLogIsRecovered, ACutLogHasItsOrders}
use Rattle.cell_drive.proofs.{ReadBack.closing_parses, Parts.{events-orders, entries_moved}, CutRuns.cut_of_run}
use Rattle.cell_drive.proofs.OwnRuns.{own_run, due_events, front_events}
use Rattle.text_lines.proofs.EndedLines.{ended-more}

-- the events of a controlled run, with the cell to which they lead
pub run_of_leads : (p : PlannedShop) (reports : List Report) (entries : List Entry) (end : Cell) → IsWellShaped p → IsControlledRun p reports (events_of entries) end → IsRunOf p entries
run_of_leads p reports entries end shaped run =
    (reports, subst (IsControlledRun p reports (events_of entries)) (controlled_to_run p reports (events_of entries) end shaped run).1 run)

pub a_cut_log_is_recovered : ACutLogIsRecovered
a_cut_log_is_recovered p cut lost entries parses run =
    let (more, lines) = ended-more cut lost in
    let (a, b, first, second, parts) = parse-parts p (ended_lines cut) more entries (subst (λ (ls : List (List ℕ)). LinesParse p ls entries) lines parses) in
    let events : events_of entries ≡ events_of a ++ events_of b = ap events_of parts ∙ events-join a b in
    record { recorded = a; parses = first; run = front_events p (start p) (events_of a) (events_of b) (subst (IsRun p) events run); later = b; whole = parts }

pub a_cut_log_has_its_orders : ACutLogHasItsOrders
a_cut_log_has_its_orders p cut lost entries shaped parses run =
    let (more, lines) = ended-more cut lost in
    let (a, b, first, second, parts) = parse-parts p (ended_lines cut) more entries (subst (λ (ls : List (List ℕ)). LinesParse p ls entries) lines parses) in
    let events : events_of entries ≡ events_of a ++ events_of b = ap events_of parts ∙ events-join a b in
    let leads : Leads p (start p) run.0 (events_of a ++ events_of b) (cell_after p entries) = subst (λ es. Leads p (start p) run.0 es (cell_after p entries)) events run.1 in
    let cut_run = cut_of_run (length (events_of a)) p (start p) (cell_after p entries) run.0 (events_of a) (events_of b) (omega arith) leads in
    let (later, split, rest) = entries_moved b cut_run.due cut_run.rest cut_run.split in
    record {
      recorded = a;
      due = cut_run.due;
      log = record {
        parses = first;
        run = own_run p (a ++ map OrderEntry cut_run.due) (run_of_leads p cut_run.reports (a ++ map OrderEntry cut_run.due) cut_run.end shaped
            (subst (λ es. Leads p (start p) cut_run.reports es cut_run.end) (sym (due_events a cut_run.due)) cut_run.leads));
      };
      later = later;
      whole = parts ∙ ap (λ (es : List Entry). a ++ es) split ∙ sym (append_assoc a (map OrderEntry cut_run.due) later);
    }

-- ---- answers are steps of the controlled run

-- one controlled run behind another
pub leads_join : (p : PlannedShop) (c mid end : Cell) (rs qs : List Report) (es fs : List Event) → Leads p c rs es mid → Leads p mid qs fs end → Leads p c (rs ++ qs) (es ++ fs) end
leads_join p c mid end rs qs es fs (done same) later = later
leads_join p c mid end rs qs es fs (accepted same r js us gs last step leads) later =
    subst (λ hs. Leads p c (r ∷ us ++ qs) hs end) (ap (λ hs. Reported r ∷ hs) (sym (append_assoc (moved (step_orders p c r js)) gs fs)))
    (accepted c r js (us ++ qs) (gs ++ fs) end step (leads_join p (after_step p c r js) mid end us qs gs fs leads later))
leads_join p c mid end rs qs es fs (refused same r us gs last cannot leads) later =
    refused c r (us ++ qs) (es ++ fs) end cannot (leads_join p c mid end us qs es fs leads later)

pub record AreLed (p : PlannedShop) (before end : DrivenCell) : Type 0 where
  pub more : List Entry
  pub entries : end.entries ≡ before.entries ++ more
  pub reports : List Report
  pub leads : Leads p before.cell reports (events_of more) end.cell

pub nothing_led : (p : PlannedShop) (before end : DrivenCell) → end ≡ before → AreLed p before end
nothing_led p before end same = record {
  more = [];
  entries = ap (λ (d : DrivenCell). d.entries) same ∙ sym (append-nil before.entries);
  reports = [];
  leads = subst (λ (d : DrivenCell). Leads p before.cell [] [] d.cell) (sym same) (done before.cell);
}

module _ (p : PlannedShop) (protocol : Protocol) where
  abbrev pub LeadsOn : Cell → List Entry → Cell → Type 0
  LeadsOn c events end = (reports : List Report) × Leads p c reports (events_of events) end

  no_events : (c next end : Cell) (events more : List Entry) → events ≡ [] → next ≡ c → LeadsOn next more end → LeadsOn c (events ++ more) end
  no_events c next end events more none same on =
      subst (λ (es : List Entry). LeadsOn c (es ++ more) end) (sym none) (subst (λ (x : Cell). LeadsOn x more end) same on)

  -- a request, and what comes behind it
  pub answer_leads : (prefix : List ℕ) (c next end : Cell) (number : ℕ) (request : Request) (text : List ℕ) (events more : List Entry) → RequestAnswer p protocol prefix c number request text events next → LeadsOn next more end
      → LeadsOn c (events ++ more) end
  answer_leads prefix c next end number (ClaimRequest claim) text events more (inl is) on = no_events c next end events more is.events_are is.next_is on
  answer_leads prefix c next end number (ClaimRequest claim) text events more (inr is) on =
      let r = claimed p claim in
      let orders = step_orders p c r is.movers in
      let own = ReportEntry (claimed p claim) ∷ map OrderEntry orders in
      let es = events_of more in
      let whole : events_of (events ++ more) ≡ Reported r ∷ (moved orders ++ es) =
      ap (λ (first : List Entry). events_of (first ++ more)) is.events_are ∙ events-join own more ∙ ap (λ (first : List Event). Reported r ∷ (first ++ es)) (events-orders orders) in
      (r ∷ on.0, subst (λ (all : List Event). Leads p c (r ∷ on.0) all end) (sym whole) (accepted c r is.movers on.0 es end is.step (subst (λ (x : Cell). Leads p x on.0 es end) is.next_is on.1)))
  answer_leads prefix c next end number Status text events more is on = no_events c next end events more is.events_are is.next_is on

  -- a line, and those behind it
  line_leads : (before next end : DrivenCell) (number : ℕ) (line : Option (List ℕ)) (text : List ℕ) → ProtocolAnswers p protocol before number line text next → AreLed p next end → AreLed p before end
  line_leads before next end number None text is on = subst (λ (d : DrivenCell). AreLed p d end) is.end_is on
  line_leads before next end number (Some []) text is on = subst (λ (d : DrivenCell). AreLed p d end) is.end_is on
  line_leads before next end number (Some (b ∷ line)) text (inl is) on = subst (λ (d : DrivenCell). AreLed p d end) is.1.end_is on
  line_leads before next end number (Some (b ∷ line)) text (inr is) on =
      let more = is.answer.more in
      let led = answer_leads [] before.cell next.cell end.cell number is.what text more on.more is.answer.answer (on.reports, on.leads) in
      record {
        more = more ++ on.more;
        entries = on.entries ∙ ap (λ (es : List Entry). es ++ on.more) is.answer.entries ∙ append_assoc before.entries more on.more;
        reports = led.0;
        leads = led.1;
      }

  pub protocol_answers_lead : (lines : List (Option (List ℕ))) (before end : DrivenCell) (number : ℕ) (text : List ℕ) → AnswerAll (ProtocolAnswers p protocol) before number lines text end → AreLed p before end
  protocol_answers_lead [] before end number text all = nothing_led p before end all.1
  protocol_answers_lead (line ∷ lines) before end number text all =
      line_leads before all.2 end number line all.0 all.3 (protocol_answers_lead lines all.2 end (number + 1) all.1 all.4)

pub closing_part : (p : PlannedShop) (end : DrivenCell) (closing : List ℕ) → (closing ≡ []) ⊎ CellCloses p end closing → ParsesFirst p closing []
closing_part p end closing (inl none) = subst (λ (t : List ℕ). ParsesFirst p t []) (sym none) (parses_none p)
closing_part p end closing (inr closes) = closing_parses p end closing closes

-- the log of a cell that was led so is cut at any byte
pub cut_of_led : (p : PlannedShop) (cut lost : List ℕ) (end : DrivenCell) → IsWellShaped p → LinesParse p (lines_of (cut ++ lost)) end.entries → AreLed p (undriven p) end → IsCutFrom p cut end.entries
cut_of_led p cut lost end shaped parses led =
    a_cut_log_has_its_orders p cut lost end.entries shaped parses
    (run_of_leads p led.reports end.entries end.cell shaped (subst (λ (es : List Entry). IsControlledRun p led.reports (events_of es) end.cell) (sym led.entries) led.leads))
