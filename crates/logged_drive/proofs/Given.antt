-- What a run has written, whatever has come of it, are the first of some answers: so it is recovered from whatever a crash leaves of its log.
use Rattle.std.proofs.Common.{◌≡◌, ℕ, ◌+◌, List, [], ◌∷◌, ◌++◌, length, Option, Result, Ok, Err, inl, inr, ◌⊎◌, refl, sym, ap, ◌∙◌, subst, arith, append_assoc, append-nil, drop, None, Some, IfSome}
use Rattle.std.proofs.{KnownBytes.Appends-nil, lemmas.List.append_cancel_left, Math.Seq.drop-append_seam}
use Rattle.std.specs.Io.KnownBytes.{Appends, append_known}
use Rattle.shop_base.specs.{Plan.PlannedShop, Cell.Cell}
use Rattle.text_lines.specs.Lines.{ended_lines}
use Rattle.byte_streams.specs.declared.{drive_fault.DriveFault.DriveFault, rooms.TheConstants.MAX_PIECE}
use Rattle.byte_streams.specs.declared.drive_fault.DriveFault.TheVariants.{Read, Write, InputTooLong, Memory}
use Rattle.byte_streams.specs.{Lent.{Streams, Input}, Lines.input_lines, Answering.{AnswerAll, AreCutOff}}
use Rattle.byte_streams.specs.{Streams.{ComesTo, IsCutOff, IsStreamed}, Sinks.TookPart}
use Rattle.plan_verifier.{specs.Accepted.{VerifiedPlan, IsVerified}, proofs.Reasons.acceptable}
use Rattle.cell_tables.specs.declared.entry.Entry.{Entry}
use Rattle.event_lines.specs.LogLines.{LinesParse}
use Rattle.cell_drive.specs.declared.{protocol.Protocol.Protocol, begin.DriveEnd.DriveEnd, resume.RestEnd.RestEnd}
use Rattle.cell_drive.specs.{OneRun.IsStreamedFrom, AnswerText.{DrivenCell, undriven, CellCloses}}
use Rattle.cell_drive.specs.{InProtocol.{IsDriveIn, IsContinuedIn}, Resuming.{due_text, driven_so_far, session_from}}
use Rattle.cell_drive.specs.Session.{SessionAnswer, SessionCloses, seen, session_start, SessionState}
use Rattle.cell_drive.specs.{Recovered.{Recovered, IsRecovered, plan_of, replayed_events}, ProtocolText.ProtocolAnswers}
use Rattle.cell_drive.proofs.{CellTexts.took_second, Sessions.{a_session_answers_so, seen_closes}}
use Rattle.run_journal.specs.{WholeLines.whole_lines, Logged.{Held, StayInStep, AreInStep}, LogFiles.IsLeft}
use Rattle.run_journal.specs.LoggedLines.{logged}
use Rattle.logged_drive.{specs.LoggedRuns.{nothing_held, output_held}, proofs.Crashes.{recovered_again_run, driven_run}}
use Rattle.logged_drive.specs.CrashLaw as law

-- some lines were answered, and perhaps a closing line stands behind the answers; of that, behind some text, the first bytes were written
record IsFirstOf {S : Type 0} (answers : S → ℕ → Option (List ℕ) → List ℕ → S → Type 0) (closes : S → List ℕ → Type 0) (front : List ℕ) (start : S) (before after : Option (List ℕ)) : Type 0 where
  lines : List (Option (List ℕ))
  text : List ℕ
  end : S
  are : AnswerAll answers start 1 lines text end
  closing : List ℕ
  is_closing : (closing ≡ []) ⊎ closes end closing
  took : TookPart before after ((front ++ text) ++ closing)

module _ {S : Type 0} (answers : S → ℕ → Option (List ℕ) → List ℕ → S → Type 0) (closes : S → List ℕ → Type 0) where
  -- one line more
  one_more : (lines : List (Option (List ℕ))) (start state end : S) (number : ℕ) (text cut : List ℕ) (line : Option (List ℕ)) → AnswerAll answers start number lines text state
      → answers state (number + length lines) line cut end → AnswerAll answers start number (lines ++ line ∷ []) (text ++ cut) end
  one_more [] start state end number text cut line all answer =
      let same : number + 0 ≡ number = omega arith in
      let first = subst (λ (s : S). answers s number line cut end) all.1 (subst (λ (n : ℕ). answers state n line cut end) same answer) in
      (cut, [], end, first, (refl, refl), ap (λ (t : List ℕ). t ++ cut) all.0 ∙ sym (append-nil cut))
  one_more (first ∷ lines) start state end number text cut line all answer =
      let same : number + length (first ∷ lines) ≡ (number + 1) + length lines = omega arith in
      let others = one_more lines all.2 state end (number + 1) all.1 cut line all.4 (subst (λ (n : ℕ). answers state n line cut end) same answer) in
      (all.0, all.1 ++ cut, all.2, all.3, others, ap (λ (t : List ℕ). t ++ cut) all.5 ∙ append_assoc all.0 all.1 cut)

  -- all of the answers
  all_of : (start end : S) (before after : Option (List ℕ)) (lines : List (Option (List ℕ))) (text : List ℕ) → AnswerAll answers start 1 lines text end → Appends before after text → IsFirstOf answers closes [] start before after
  all_of start end before after lines text are written =
      record { lines = lines; text = text; end = end; are = are; closing = []; is_closing = inl refl; took = ([], record { out = text; took = written; whole = refl }) }

  cut_of : (start end : S) (before after : Option (List ℕ)) (lines : List (Option (List ℕ))) → AreCutOff answers start 1 lines end before after → IsFirstOf answers closes [] start before after
  cut_of start end before after lines is = record {
    lines = is.answered ++ is.line ∷ [];
    text = is.text ++ is.cut;
    end = end;
    are = one_more is.answered start is.state end 1 is.text is.cut is.line is.are_answers is.is_answer;
    closing = [];
    is_closing = inl refl;
    took = subst (TookPart before after) (sym (append-nil (is.text ++ is.cut))) (took_second before is.between after is.text is.cut is.written is.part);
  }

  cut_stream : (start : S) (input : List ℕ) (end : S) (before after : Streams) → IsCutOff answers closes start input end before after → IsFirstOf answers closes [] start before.output.written after.output.written
  cut_stream start input end before after (inl (inl is)) = cut_of start end before.output.written after.output.written _ is
  cut_stream start input end before after (inl (inr is)) = all_of start end before.output.written after.output.written _ is.text is.are_answers is.written
  cut_stream start input end before after (inr (ended, within, inl is)) = cut_of start end before.output.written after.output.written _ is
  cut_stream start input end before after (inr (ended, within, inr is)) =
      let took = took_second before.output.written is.between after.output.written is.text is.closing is.written is.part in
      record { lines = input_lines input; text = is.text; end = end; are = is.are_answers; closing = is.closing; is_closing = inr is.is_closing; took = took }

  stream_of : {T : Type 0} (outcome : Result T DriveFault) (room : ℕ) (start : S) (input : List ℕ) (end : S) (before after : Streams) → ComesTo outcome room answers closes start input end before after
      → IsFirstOf answers closes [] start before.output.written after.output.written
  stream_of (Ok x) room start input end before after is =
      let took : TookPart before.output.written after.output.written (is.text ++ is.closing) = ([], record { out = is.text ++ is.closing; took = is.written; whole = append-nil (is.text ++ is.closing) }) in
      record { lines = input_lines input; text = is.text; end = end; are = is.are_answers; closing = is.closing; is_closing = inr is.is_closing; took = took }
  stream_of (Err Read) room start input end before after is = let all = is.2 in all_of start end before.output.written after.output.written _ all.text all.are_answers all.written
  stream_of (Err Write) room start input end before after is = cut_stream start input end before after is.1
  stream_of (Err InputTooLong) room start input end before after is = let all = is.2 in all_of start end before.output.written after.output.written _ all.text all.are_answers all.written
  stream_of (Err Memory) room start input end before after is = absurd is

  streamed_first : {T : Type 0} (outcome : Result T DriveFault) (room : ℕ) (start end : S) (before after : Streams) → IsStreamed outcome room answers closes start end before after
      → IsFirstOf answers closes [] start before.output.written after.output.written
  streamed_first outcome room start end before after is = stream_of outcome room start is.input end before after is.comes_to

  -- or nothing was written
  from_start : {T : Type 0} (outcome : Result T DriveFault) (start end : S) (before after : Streams) → IsStreamedFrom answers closes start outcome end before after
      → IsFirstOf answers closes [] start before.output.written after.output.written
  from_start (Err Memory) start end before after is = all_of start start before.output.written after.output.written [] [] (refl, refl) (subst (λ (s : Streams). Appends before.output.written s.output.written []) (sym is) (Appends-nil before.output.written))
  from_start (Ok x) start end before after is = streamed_first (Ok x) _ start end before after is
  from_start (Err Read) start end before after is = streamed_first (Err Read) _ start end before after is
  from_start (Err Write) start end before after is = streamed_first (Err Write) _ start end before after is
  from_start (Err InputTooLong) start end before after is = streamed_first (Err InputTooLong) _ start end before after is

-- ---- of a driven cell

-- the answers are those of a cell, which is driven by a protocol
abbrev IsFirstOfCell : PlannedShop → Protocol → List ℕ → DrivenCell → Option (List ℕ) → Option (List ℕ) → Type 0
IsFirstOfCell p protocol = IsFirstOf (ProtocolAnswers p protocol) (CellCloses p)

closes_too : {P Q R : Type 0} → (Q → R) → P ⊎ Q → P ⊎ R
closes_too f (inl p) = inl p
closes_too f (inr q) = inr (f q)

-- so are those of a session
of_session : (s : SessionState) (front : List ℕ) (before between after : Option (List ℕ)) → Appends before between front → IsFirstOf SessionAnswer SessionCloses [] s between after
    → IsFirstOfCell s.control.planned s.protocol front (seen s) before after
of_session s front before between after written first =
    let answers = a_session_answers_so s first.end 1 first.lines first.text first.are in
    record {
      lines = first.lines;
      text = first.text;
      end = seen first.end;
      are = answers.0;
      closing = first.closing;
      is_closing = closes_too (seen_closes s.control.planned first.end first.closing (ap (λ (v : VerifiedPlan). v.planned) answers.1)) first.is_closing;
      took = subst (TookPart before after) (sym (append_assoc front first.text first.closing)) (took_second before between after front (first.text ++ first.closing) written first.took);
    }

driven_first : (protocol : Protocol) (v : VerifiedPlan) (before after : Streams) (outcome : Result DriveEnd DriveFault) → IsDriveIn protocol v before after outcome
    → IsFirstOfCell v.planned protocol [] (undriven v.planned) before.output.written after.output.written
driven_first protocol v before after outcome is =
    of_session (session_start protocol v) [] before.output.written before.output.written after.output.written (Appends-nil before.output.written) (from_start SessionAnswer SessionCloses outcome (session_start protocol v) is.end before after is.streamed)

goes_first : (protocol : Protocol) (recovered : Recovered) (before after : Streams) (outcome : Result RestEnd DriveFault) → IsContinuedIn protocol recovered before after outcome
    → IsFirstOfCell (plan_of recovered) protocol (due_text recovered) (driven_so_far (plan_of recovered) recovered.log.entries) before.output.written after.output.written
goes_first protocol recovered before after outcome (inl cut) =
    let due = due_text recovered in
    let took = subst (TookPart before.output.written after.output.written) (sym (append-nil (due ++ []) ∙ append-nil due)) cut.3 in
    record { lines = []; text = []; end = driven_so_far (plan_of recovered) recovered.log.entries; are = (refl, refl); closing = []; is_closing = inl refl; took = took }
goes_first protocol recovered before after outcome (inr on) =
    let p = plan_of recovered in
    let begun = session_from protocol recovered in
    let first = streamed_first SessionAnswer SessionCloses outcome MAX_PIECE begun on.end (record { input = before.input; output = on.middle }) after on.streamed in
    subst (λ (d : DrivenCell). IsFirstOfCell p protocol (due_text recovered) d before.output.written after.output.written) (ap (λ (c : Cell). let d : DrivenCell = record { cell = c; entries = recovered.log.entries } in d) on.from.kept.replayed.cell)
    (of_session begun (due_text recovered) before.output.written on.middle.written after.output.written on.again first)

-- ---- what a crash leaves of the log

-- what was written behind a start is what was shown and what is pending
is_given : (printed held : Option (List ℕ)) (start shown pending out : List ℕ) → printed ≡ Some start → held ≡ Some (start ++ shown)
    → Appends (append_known printed []) (append_known held pending) out → out ≡ shown ++ pending
is_given printed held start shown pending out printed_is held_is written =
    let from = subst (λ (t : Option (List ℕ)). Appends (append_known t []) (append_known held pending) out) printed_is written in
    let both : (start ++ shown) ++ pending ≡ (start ++ []) ++ out = subst (λ (h : Option (List ℕ)). Appends (Some (start ++ [])) (append_known h pending) out) held_is from in
    append_cancel_left start out (shown ++ pending) (ap (λ (l : List ℕ). l ++ out) (sym (append-nil start)) ∙ sym both ∙ append_assoc start shown pending)

-- a run whose answers were given to a writer that keeps a log, and which is recovered from whatever a crash leaves of these, is so behind what was shown
module _ (known : List ℕ × List ℕ) (seen : Option (List ℕ)) (crash_states : List ℕ → Type 0) (held : Held) (printed after : Option (List ℕ)) (same : after ≡ held.written) (start : printed ≡ Some known.1) (step : AreInStep known.0 known.1 seen crash_states held.written held.pending held.failed) where
  after_crash : (p : PlannedShop) (protocol : Protocol) (front : List ℕ) (begun : DrivenCell) (recorded : List Entry) (came : DrivenCell → List Entry)
      → ((lines : List (Option (List ℕ))) (text closing shown pending left : List ℕ) (end : DrivenCell) → law.AreLinesAnswered p protocol begun lines text end → law.IsGiven p (front ++ text) shown pending closing end
      → IsLeft (length (known.0 ++ logged shown)) (known.0 ++ logged (shown ++ pending)) left → law.IsRecoveredAgain p recorded (came end) shown left)
      → IsFirstOfCell p protocol front begun (append_known printed []) (append_known held.written held.pending) → law.IsRecoveredAfter p recorded known.1 crash_states after
  after_crash p protocol front begun recorded came again first =
      let (lost, part) = first.took in
      let given = sym part.whole ∙ ap (λ (l : List ℕ). l ++ lost) (is_given printed held.written known.1 step.shown held.pending part.out start step.output part.took) in
      record {
        shown = step.shown;
        output = same ∙ step.output;
        came = came first.end;
        again = λ left leaves. again first.lines first.text first.closing step.shown held.pending left first.end first.are (record { closes = first.is_closing; lost = lost; given = given }) (step.crash left leaves);
      }

pub recovered_after : (protocol : Protocol) (v : VerifiedPlan) → IsVerified v → (before : Option (List ℕ × List ℕ)) (seen : Option (List ℕ)) (crash_states : List ℕ → Type 0) (held : Held) (printed after : Option (List ℕ))
    (input input_after : Input) (outcome : Result DriveEnd DriveFault) → after ≡ held.written → IfSome before (λ known. whole_lines known.0 ≡ known.0) → IfSome before (λ known. printed ≡ Some known.1)
    → IsDriveIn protocol v (record { input = input; output = output_held (nothing_held printed) }) (record { input = input_after; output = output_held held }) outcome
    → StayInStep before seen crash_states held → IfSome before (λ known. LinesParse v.planned (ended_lines known.0) [] → law.IsRecoveredAfter v.planned [] known.1 crash_states after)
recovered_after protocol v verified None seen crash_states held printed after input input_after outcome same whole start drove step = tt
recovered_after protocol v verified (Some known) seen crash_states held printed after input input_after outcome same whole start drove step = λ none.
    let p = v.planned in
    let accepted = acceptable p v.times verified.ordered verified.budgets in
    after_crash known seen crash_states held printed after same start step p protocol [] (undriven p) [] (λ (end : DrivenCell). end.entries)
    (λ lines text closing shown pending left end are given is. driven_run p protocol known.0 lines text closing shown pending left end verified.schedule.shaped accepted whole none are given is) (driven_first protocol v _ _ outcome drove)

pub recovered_once_more : (protocol : Protocol) (recovered : Recovered) (before : Option (List ℕ × List ℕ)) (seen : Option (List ℕ)) (crash_states : List ℕ → Type 0) (held : Held) (printed after : Option (List ℕ))
    (input input_after : Input) (outcome : Result RestEnd DriveFault) → after ≡ held.written → IfSome before (λ known. whole_lines known.0 ≡ known.0) → IfSome before (λ known. printed ≡ Some known.1)
    → IsContinuedIn protocol recovered (record { input = input; output = output_held (nothing_held printed) }) (record { input = input_after; output = output_held held }) outcome → StayInStep before seen crash_states held
    → IfSome before (λ known. (p : PlannedShop) (at : Option ℕ) → IsRecovered p (ended_lines known.0) at recovered → law.IsRecoveredAfter p (replayed_events recovered) known.1 crash_states after)
recovered_once_more protocol recovered None seen crash_states held printed after input input_after outcome same whole start went step = tt
recovered_once_more protocol recovered (Some known) seen crash_states held printed after input input_after outcome same whole start went step = λ p at up.
    let replayed = replayed_events recovered in
    let first = subst (λ (q : PlannedShop). IsFirstOfCell q protocol (due_text recovered) (driven_so_far q recovered.log.entries) (append_known printed []) (append_known held.written held.pending)) up.recovered_from.planned (goes_first protocol recovered _ _ outcome went) in
    after_crash known seen crash_states held printed after same start step p protocol (due_text recovered) (driven_so_far p recovered.log.entries) replayed (λ (end : DrivenCell). drop (length replayed) end.entries)
    (λ lines text closing shown pending left end are given is.
    let once = recovered_again_run p protocol known.0 at recovered lines text closing shown pending left end whole up are given is in
    let came = ap (λ (es : List Entry). drop (length replayed) es) once.whole ∙ drop-append_seam replayed once.came in
    subst (λ (es : List Entry). law.IsRecoveredAgain p replayed es shown left) (sym came) once.again) first
