-- What a session answers, and what it comes to.
use Rattle.std.proofs.Common.{◌≡◌, ℕ, ◌+◌, List, [], ◌∷◌, ◌++◌, Option, Ok, Err, Result, refl, sym, ap, ◌∙◌, subst}
use Rattle.std.specs.Prelude.{◌↔◌, IsTrue}
use Rattle.shop_base.specs.{Plan.PlannedShop, declared.report.Report.Report, Run.IsRun, Controlled.IsControlledRun}
use Rattle.shop_base.specs.Ends.{HasEnded}
use Rattle.plan_verifier.specs.Accepted.{VerifiedPlan, IsVerified}
use Rattle.cell_tables.specs.{declared.entry.Entry.Entry, Events.events_of}
use Rattle.cell_control.specs.Control.{Control, verified_in}
use Rattle.run_log.specs.Log.{Noted, Notes}
use Rattle.byte_streams.specs.{declared.drive_fault.DriveFault.{DriveFault, TheVariants.Memory}, Lent.Streams}
use Rattle.byte_streams.specs.{Lines.input_lines, Answering.AnswerAll}
use Rattle.event_lines.specs.declared.requests.Request.{Request}
use Rattle.cell_drive.specs.{declared.protocol.Protocol.Protocol, declared.begin.DriveEnd.DriveEnd}
use Rattle.cell_drive.specs.{declared.resume.RestEnd.RestEnd, LineAnswers.{LineAnswer, closing_line}}
use Rattle.cell_drive.specs.{AnswerText.{CellCloses, undriven}, Replies.{RepliesBy, HasAccepted, accepted_events}}
use Rattle.cell_drive.specs.{OneRun.{IsNeverFull, IsRunOf, IsSoFar, NeverWentWrong, cell_after}, InProtocol.IsDriveIn}
use Rattle.cell_drive.specs.ProtocolText.{AsksFor, CellRequests, IsProtocolText, ProtocolAnswers}
use Rattle.cell_drive.specs.Session.{AnsweredBy, IsEndOf, HoldsRun, IsRestEndOf, SessionAnswer, SessionCloses, SessionState, seen, session_by, session_start}
use Rattle.cell_drive.specs.ProtocolLaw.{ASessionAnswersSo}
use Rattle.cell_drive.proofs.{Closing.closing_line_is, CutLogs.{run_of_leads, protocol_answers_lead}}
use Rattle.cell_drive.proofs.{LineAnswers.asked_line, PromisesKept.stays_as_promised, Replied.plan_after}
use Rattle.cell_drive.proofs.Rooms.{never_full, so_far}

-- ---- lines

-- a line by which nothing changes
pub unchanged : (s : SessionState) (number : ℕ) (line : Option (List ℕ)) (text : List ℕ)
    → LineAnswer (AsksFor s.protocol.version_2) (CellRequests s.control.planned s.protocol) (seen s) number line text (seen s) → SessionAnswer s number line text s
unchanged s number line text answer = record { answer = answer; plan = refl; reserved = refl; protocol = refl }

-- one that asks for something
pub replied : (protocol : Protocol) (v new : Control) (log longer : Noted) (number : ℕ) (line text : List ℕ) (request : Request) (accepted : Option Report) → (line ≡ [] → ⊥) → AsksFor protocol.version_2 line request
    → HasAccepted v accepted new → Notes log longer (accepted_events new accepted) → RepliesBy protocol [] v number request accepted new text → AnsweredBy protocol v log number line new longer text
replied protocol v new log longer number line text request accepted some asked is notes answer = record {
  answer = asked_line (AsksFor protocol.version_2) (CellRequests v.planned protocol) (seen (session_by protocol v log)) number line text request (seen (session_by protocol new longer)) some asked
      (record { more = accepted_events new accepted; answer = answer; entries = notes.entries });
  plan = plan_after v accepted new is;
  reserved = notes.reserved;
  protocol = refl;
}

session_answers : (p : PlannedShop) (protocol : Protocol) (lines : List (Option (List ℕ))) (s e : SessionState) (number : ℕ) (text : List ℕ) → s.control.planned ≡ p → s.protocol ≡ protocol
    → AnswerAll SessionAnswer s number lines text e → AnswerAll (ProtocolAnswers p protocol) (seen s) number lines text (seen e) × (verified_in e.control ≡ verified_in s.control)
session_answers p protocol [] s e number text of_plan of_protocol all = ((all.0, ap seen all.1), ap (λ (d : SessionState). verified_in d.control) all.1)
session_answers p protocol (line ∷ lines) s e number text of_plan of_protocol all =
    let next = all.2 in
    let plan_is = all.3.plan in
    let rest = session_answers p protocol lines next e (number + 1) all.1 (ap (λ (v : VerifiedPlan). v.planned) plan_is ∙ of_plan) (all.3.protocol ∙ of_protocol) all.4 in
    let answer : ProtocolAnswers p protocol (seen s) number line all.0 (seen next) =
    subst (λ (m : Protocol). ProtocolAnswers p m (seen s) number line all.0 (seen next)) of_protocol
    (subst (λ (q : PlannedShop). ProtocolAnswers q s.protocol (seen s) number line all.0 (seen next)) of_plan all.3.answer) in
    ((all.0, all.1, seen next, answer, rest.0, all.5), rest.1 ∙ plan_is)

pub a_session_answers_so : ASessionAnswersSo
a_session_answers_so s e number lines text all = session_answers s.control.planned s.protocol lines s e number text refl refl all

pub closes : (v : Control) (log : Noted) (protocol : Protocol) → HoldsRun v log → SessionCloses (session_by protocol v log) (closing_line v.planned v.cell)
closes v log protocol kept = closing_line_is v.planned v.cell kept.shaped kept.control.sound kept.control.at_rest

pub seen_closes : (p : PlannedShop) (s : SessionState) (text : List ℕ) → s.control.planned ≡ p → SessionCloses s text → CellCloses p (seen s) text
seen_closes p s text of_plan closes = subst (λ q. CellCloses q (seen s) text) of_plan closes

-- ---- the start

-- where memory ran out before the first byte was read
pub undriven_drive : (v : VerifiedPlan) (protocol : Protocol) (streams : Streams) (outcome : Result DriveEnd DriveFault) → outcome ≡ Err Memory → IsDriveIn protocol v streams streams outcome
undriven_drive v protocol streams outcome is = subst (IsDriveIn protocol v streams streams) (sym is) (record { end = session_start protocol v; streamed = refl; came_to = tt })

-- ---- the end

module _ (v : VerifiedPlan) (protocol : Protocol) (e : SessionState) (lines : List (Option (List ℕ))) (text : List ℕ) (end : DriveEnd) (kept : HoldsRun e.control e.log)
    (all : AnswerAll SessionAnswer (session_start protocol v) 1 lines text e) where
  abbrev p : PlannedShop
  p = v.planned

  abbrev entries : List Entry
  entries = e.log.entries

  -- what is printed of it at its end
  pub end_of : end.log ≡ e.log → end.verified ≡ verified_in e.control → IsVerified (verified_in e.control) → IsTrue end.done ↔ HasEnded e.control.planned e.control.cell
      → end.last ≡ e.control.cell.last → end.left ≡ e.control.left → IsEndOf v e end
  end_of log plan verified ended moment count =
      let so = a_session_answers_so (session_start protocol v) e 1 lines text all in
      let same : verified_in e.control ≡ v = so.1 in
      let same_plan : e.control.planned ≡ p = ap (λ (w : VerifiedPlan). w.planned) same in
      let is_verified : IsVerified v = subst IsVerified same verified in
      let led = protocol_answers_lead p protocol lines (undriven p) (seen e) 1 text so.0 in
      let run : IsControlledRun p led.reports (events_of entries) e.control.cell = subst (λ (es : List Entry). IsControlledRun p led.reports (events_of es) e.control.cell) (sym led.entries) led.leads in
      let left : end.left ≡ _ = count ∙ kept.control.counted in
      record {
        log = log;
        plan = plan ∙ same;
        run = subst (λ (l : Noted). IsRunOf p l.entries) (sym log) (run_of_leads p led.reports entries e.control.cell is_verified.schedule.shaped run);
        cell = subst (λ (l : Noted). e.control.cell ≡ cell_after p l.entries) (sym log) (subst (λ (q : PlannedShop). e.control.cell ≡ cell_after q entries) same_plan kept.replayed.cell);
        so_far = subst (λ (l : Noted). IsSoFar p l.entries end.done end.last end.left) (sym log)
            (subst (λ (q : PlannedShop). IsSoFar q entries end.done end.last end.left) same_plan (so_far e.control e.log kept end.done end.last end.left ended moment left));
        never_full = subst (IsNeverFull p) (sym log) (subst (λ (q : PlannedShop). IsNeverFull q e.log) same_plan (never_full e.control e.log kept));
        promised = subst (λ (l : Noted). NeverWentWrong v l.entries) (sym log) (stays_as_promised v led.reports (events_of entries) e.control.cell is_verified run);
      }

-- what was written is the answer text of what was read
pub driven_text : (v : VerifiedPlan) (protocol : Protocol) (end : DriveEnd) (before after : Streams) (is : IsDriveIn protocol v before after (Ok end))
    → IsProtocolText v.planned protocol is.streamed.input (is.streamed.comes_to.text ++ is.streamed.comes_to.closing) (seen is.end)
driven_text v protocol end before after is =
    let all = is.streamed.comes_to in
    let answers = a_session_answers_so (session_start protocol v) is.end 1 (input_lines is.streamed.input) all.text all.are_answers in
    record {
      answers = all.text;
      are_answers = answers.0;
      closing = all.closing;
      is_closing = seen_closes v.planned is.end all.closing (ap (λ (w : VerifiedPlan). w.planned) answers.1) all.is_closing;
      whole = refl;
    }

-- the end of one that was recovered
pub rest_end_of : (protocol : Protocol) (v : Control) (log : Noted) → HoldsRun v log → (end : RestEnd) → end.log ≡ log → IsTrue end.done ↔ HasEnded v.planned v.cell → end.last ≡ v.cell.last → end.left ≡ v.left
    → IsRestEndOf v.planned (session_by protocol v log) end
rest_end_of protocol v log kept end same ended moment count =
    let is_so_far = so_far v log kept end.done end.last end.left ended moment (count ∙ kept.control.counted) in
    record {
      log = same;
      run = subst (λ (l : Noted). IsRun v.planned (events_of l.entries)) (sym same) kept.replayed.run;
      cell = subst (λ (l : Noted). v.cell ≡ cell_after v.planned l.entries) (sym same) kept.replayed.cell;
      so_far = subst (λ (l : Noted). IsSoFar v.planned l.entries end.done end.last end.left) (sym same) is_so_far;
      never_full = subst (IsNeverFull v.planned) (sym same) (never_full v log kept);
    }

-- by the plan with which it began
pub rest_end_from : (s e : SessionState) (lines : List (Option (List ℕ))) (number : ℕ) (text : List ℕ) (end : RestEnd) → AnswerAll SessionAnswer s number lines text e
    → IsRestEndOf e.control.planned e end → IsRestEndOf s.control.planned e end
rest_end_from s e lines number text end all is =
    subst (λ (w : VerifiedPlan). IsRestEndOf w.planned e end) (a_session_answers_so s e number lines text all).1 is
