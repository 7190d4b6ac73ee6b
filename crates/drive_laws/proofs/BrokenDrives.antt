-- A driven cell stays as promised where driving it is broken off.
use Rattle.std.proofs.Common.{ℕ, ◌+◌, List, [], ◌∷◌, ◌++◌, take, length, Option, Ok, Err, inl, inr, sym, subst, refl}
use Rattle.shop_base.specs.{Plan.PlannedShop, Controlled.IsControlledRun}
use Rattle.text_lines.specs.declared.limits.TheConstants.{MAX_INPUT}
use Rattle.cell_tables.specs.{declared.entry.Entry.Entry, Events.events_of}
use Rattle.plan_verifier.specs.Accepted.{VerifiedPlan, IsVerified}
use Rattle.byte_streams.specs.{Lent.Streams, Answering.{AnswerAll, AreCutOff}}
use Rattle.byte_streams.specs.declared.drive_fault.DriveFault.TheVariants.{Read, Write, InputTooLong, Memory}
use Rattle.byte_streams.specs.{Lines.{complete_lines, input_lines}, Streams.IsCutOff}
use Rattle.byte_streams.proofs.AnsweredLines.{AnswerAll-append, AnswerAll-one}
use Rattle.cell_drive.specs.{declared.protocol.Protocol.Protocol, AnswerText.undriven}
use Rattle.cell_drive.specs.Session.{SessionAnswer, SessionCloses, SessionState, seen, session_start}
use Rattle.cell_drive.proofs.{CutLogs.{protocol_answers_lead, run_of_leads}, PromisesKept.stays_as_promised}
use Rattle.cell_drive.proofs.Sessions.{a_session_answers_so}
use Rattle.drive_laws.specs.BrokenLaw.{ABrokenDriveStaysAsPromised, StayedAsPromised}

module _ (v : VerifiedPlan) (protocol : Protocol) (verified : IsVerified v) where
  -- lines were answered from the start
  stayed : (end : SessionState) (lines : List (Option (List ℕ))) (text : List ℕ) → AnswerAll SessionAnswer (session_start protocol v) 1 lines text end → StayedAsPromised v end
  stayed end lines text all =
      let p : PlannedShop = v.planned in
      let entries : List Entry = end.log.entries in
      let so = a_session_answers_so (session_start protocol v) end 1 lines text all in
      let led = protocol_answers_lead p protocol lines (undriven p) (seen end) 1 text so.0 in
      let run : IsControlledRun p led.reports (events_of entries) end.control.cell = subst (λ (es : List Entry). IsControlledRun p led.reports (events_of es) end.control.cell) (sym led.entries) led.leads in
      record {
        run = run_of_leads p led.reports entries end.control.cell verified.schedule.shaped run;
        promised = stays_as_promised v led.reports (events_of entries) end.control.cell verified run;
      }

  -- the last answer was cut off
  stayed_cut : (end : SessionState) (lines : List (Option (List ℕ))) (before after : Option (List ℕ)) → AreCutOff SessionAnswer (session_start protocol v) 1 lines end before after → StayedAsPromised v end
  stayed_cut end lines before after cut =
      stayed end (cut.answered ++ cut.line ∷ []) (cut.text ++ cut.cut)
      (AnswerAll-append SessionAnswer cut.answered (cut.line ∷ []) (session_start protocol v) cut.state end 1 (1 + length cut.answered) cut.text cut.cut cut.are_answers refl
      (AnswerAll-one SessionAnswer cut.state end (1 + length cut.answered) cut.line cut.cut cut.is_answer))

  -- so was one of all lines, the closing line, or what was to be shown
  stayed_off : (end : SessionState) (input : List ℕ) (before after : Streams) → IsCutOff SessionAnswer SessionCloses (session_start protocol v) input end before after → StayedAsPromised v end
  stayed_off end input before after (inl (inl cut)) = stayed_cut end (complete_lines (take MAX_INPUT input)) before.output.written after.output.written cut
  stayed_off end input before after (inl (inr unshown)) = stayed end (complete_lines (take MAX_INPUT input)) unshown.text unshown.are_answers
  stayed_off end input before after (inr (_, _, inl cut)) = stayed_cut end (input_lines input) before.output.written after.output.written cut
  stayed_off end input before after (inr (_, _, inr closing)) = stayed end (input_lines input) closing.text closing.are_answers

pub a_broken_drive_stays_as_promised : ABrokenDriveStaysAsPromised
a_broken_drive_stays_as_promised v protocol before after (Ok end) verified some is =
    stayed v protocol verified is.end (input_lines is.streamed.input) is.streamed.comes_to.text is.streamed.comes_to.are_answers
a_broken_drive_stays_as_promised v protocol before after (Err Read) verified some is =
    let answered = is.streamed.comes_to.2 in stayed v protocol verified is.end (complete_lines is.streamed.input) answered.text answered.are_answers
a_broken_drive_stays_as_promised v protocol before after (Err Write) verified some is = stayed_off v protocol verified is.end is.streamed.input before after is.streamed.comes_to.1
a_broken_drive_stays_as_promised v protocol before after (Err InputTooLong) verified some is =
    let answered = is.streamed.comes_to.2 in stayed v protocol verified is.end (complete_lines (take MAX_INPUT is.streamed.input)) answered.text answered.are_answers
a_broken_drive_stays_as_promised v protocol before after (Err Memory) verified some is = absurd (some refl)
