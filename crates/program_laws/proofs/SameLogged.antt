-- A driven cell with a log of its own writes the same.
use Rattle.std.proofs.Common.{◌≡◌, ℕ, ◌≤◌, ◌⊎◌, ◌++◌, List, [], ◌∷◌, Bool, true, false, Option, Some, None, Result, Ok, Err, IfSome, IfOk, MatchOption, is_some, length, append_assoc, append-nil, option_map, inl, inr, ap, sym, ◌∙◌, subst, arith, refl}
use Rattle.std.specs.Io.KnownBytes.{Appends, append_known}
use Rattle.std.specs.String.{string_bytes}
use Rattle.std.proofs.KnownBytes.{Appends-trans}
use Rattle.shop_base.specs.declared.shape_fault.ShapeFault.{ShapeFault}
use Rattle.shop_base.specs.Plan.{PlannedShop, IsWellShaped}
use Rattle.shop_base.proofs.Refusals.{shape_fault_refutes}
use Rattle.text_lines.specs.declared.limits.TheConstants.{MAX_INPUT}
use Rattle.text_lines.specs.Lines.{ended_lines, lines_of}
use Rattle.plan_verifier.specs.Accepted.{IsAcceptable, VerifiedPlan}
use Rattle.plan_verifier.specs.declared.verdict.Verdict.{Verdict}
use Rattle.plan_verifier.specs.declared.verdict.Verdict.TheVariants.{Accepted, Refused}
use Rattle.plan_verifier.proofs.Reasons.{reason_refutes}
use Rattle.cell_tables.specs.declared.entry.Entry.{Entry}
use Rattle.byte_streams.specs.declared.drive_fault.DriveFault.{DriveFault}
use Rattle.byte_streams.specs.declared.drive_fault.DriveFault.TheVariants.{Read as NotRead, Write as NotWritten, InputTooLong as TooLong, Memory as OutOfMemory}
use Rattle.byte_streams.specs.declared.rooms.TheConstants.{MAX_PIECE}
use Rattle.byte_streams.specs.Lent.{output_sink}
use Rattle.byte_streams.specs.Streams.{IsStreamed}
use Rattle.cell_drive.specs.declared.protocol.Protocol.{Protocol}
use Rattle.cell_drive.specs.declared.begin.DriveEnd.{DriveEnd}
use Rattle.cell_drive.specs.declared.resume.RestEnd.{RestEnd}
use Rattle.cell_drive.specs.declared.resume_fault.ResumeFault.{ResumeFault}
use Rattle.cell_drive.specs.InProtocol.{IsContinuedIn, IsDriveIn, IsReplayedIn}
use Rattle.cell_drive.specs.OneRun.{IsStreamedFrom}
use Rattle.cell_drive.specs.ProtocolText.{IsProtocolText}
use Rattle.cell_drive.specs.Recovered.{Recovered, IsRecovered, plan_of, replayed_events}
use Rattle.cell_drive.specs.Replay.{replay_text}
use Rattle.cell_drive.specs.Resuming.{IsContinuedRun, WritesAndContinues, again_of, due_text, session_from}
use Rattle.cell_drive.specs.Session.{SessionAnswer, SessionCloses, seen, session_start}
use Rattle.cell_drive.proofs.Sessions.{driven_text}
use Rattle.run_journal.specs.declared.file_fault.FileFault.{FileFault}
use Rattle.run_journal.specs.declared.log_run.LogRun.{LogRun}
use Rattle.run_journal.specs.declared.file_fault.FileFault.TheVariants.{Log as LogFault}
use Rattle.run_journal.specs.Folders.{Folder, NamedLog, handed_if, held}
use Rattle.run_journal.specs.Logged.{Held, fault_if}
use Rattle.run_journal.specs.LogRuns.{IsLogRunOf}
use Rattle.run_journal.specs.WholeLines.{whole_lines}
use Rattle.logged_drive.specs.declared.recovered_log.RecoverFault.{RecoverFault}
use Rattle.logged_drive.specs.declared.recovered_log.RecoverFault.TheVariants.{Resume, NoTornEnd, File}
use Rattle.logged_drive.specs.LoggedRuns.{nothing_held, output_held}
use Rattle.logged_drive.specs.RecoveredLogs.{IsOfDevice}
use Rattle.command_words.specs.declared.words.Chosen.{Chosen}
use Rattle.command_words.specs.declared.words.CommandName.{CommandName}
use Rattle.command_words.specs.declared.words.CommandName.TheVariants.{Drive}
use Rattle.command_words.specs.declared.words.log_start.LogStart.{LogStart}
use Rattle.command_words.specs.declared.words.WordsFault.{WordsFault}
use Rattle.command_words.specs.declared.words.WordsFault.TheVariants.{Usage, Memory as NoWordsMemory}
use Rattle.command_words.specs.Choice.{IsChoiceOf, NamesOneOf, found_in, rows_found, start_chosen}
use Rattle.command_answers.specs.declared.answer.Answer.{Answer}
use Rattle.command_answers.specs.declared.command_fault.CommandFault.{CommandFault}
use Rattle.command_answers.specs.declared.command_fault.CommandFault.TheVariants.{Write, Log as ShownFault, Memory}
use Rattle.command_answers.specs.Commands.{InputPaths}
use Rattle.command_answers.specs.Shapes.{IsShapedOrNot}
use Rattle.command_run.specs.Streams.{Streams, Output}
use Rattle.command_run.specs.Drives.{IsEnded, end_of_drive, status_at}
use Rattle.command_run.specs.Resumes.{IsUnrecoveredAnswer, end_of_rest}
use Rattle.command_run.specs.Ending.{Ends, EndsBy}
use Rattle.command_run.specs.Misfits.{IsMisfit}
use Rattle.command_run.specs.declared.misfits.Misfit.{Misfit}
use Rattle.command_run.specs.Logs.{BeginsAccepted, BeginsBy, Begins, ContinuesRecovered, Driven, DrivesAs, DrivesFitting, DrivesFound, DrivesOpened, DrivesShaped, DrivesWithLog, GoesOnAfter, IsLogFaultPrinted, IsLoggedAnswer, IsNewLogFault, IsVerdict, LogEnd, NotRecovered, Unlined, Unread, RecoversLog, bytes_in, digits_in, fault_of, logged_command_fault, step_of, with_output}
use Rattle.command_run.specs.Program.{AreWordsRead, Follows, IsOutputLog, RunsChosen, RunsLoggedDrive, draws, given_log_in, inputs_in, keeps_log, kept_log_in, log_given_to, log_kept_by, protocol_in, status_by}
use Rattle.command_run.specs.Laws.{IsAnswerOfFiles, ParseAsPlan, Shelf}
use Rattle.program_laws.specs.HistoryLaw.{protocol_of}
use Rattle.program_laws.specs.LoggedLaw.{AskForLoggedDrive, CanBeDriven, IsAsAsked, LoggedDriveWritesTheSame, RunsWellWithLog}
use Rattle.program_laws.specs.ResumeLaw.{GoesToLog, moment_given}
use Rattle.program_laws.proofs.CommandNames.{same_command}
use Rattle.program_laws.proofs.GoodFiles.{good_plan}
use Rattle.program_laws.proofs.KnownHistories.{asked_pair}
use Rattle.program_laws.proofs.ShownLogs.{kept_status, log_ends, run_or_shown, wrote_nothing}
use Rattle.program_laws.proofs.SameResuming.{Resumed, resumed_from, resumed_the_same}
use Rattle.program_laws.proofs.SameWriting.{Wrote, all_read, ended_as, fewer, memory_ends, memory_status, same_manner, so_far_of, write_ends, written_is, wrote_the_same}

-- ---- the bytes

append_nothing : (a : Option (List ℕ)) → append_known a [] ≡ a
append_nothing None = refl
append_nothing (Some xs) = ap Some (append-nil xs)

-- known bytes have grown by a text
appended : (a b : Option (List ℕ)) (start text : List ℕ) → a ≡ Some start → Appends a b text → b ≡ Some (start ++ text)
appended None b start text same is = absurd (cc same)
appended (Some xs) None start text same is = absurd is
appended (Some xs) (Some ys) start text same is = (let first : xs ≡ start = cc same in ap Some (is ∙ ap (λ (l : List ℕ). l ++ text) first))

-- so they have where they are known before and after
grown : (a b : Option (List ℕ)) (start text : List ℕ) → a ≡ Some start → b ≡ Some (start ++ text) → Appends a b text
grown a b start text before after = subst (λ (o : Option (List ℕ)). Appends o b text) (sym before) (subst (λ (o : Option (List ℕ)). Appends (Some start) o text) (sym after) refl)

-- ---- the status

-- it is the run's own where that has ended well
good_status : (path : List ℕ) (log : Option LogEnd) (outcome : Result Answer CommandFault) (own : ℕ) (done : Bool) → own ≡ status_at done → status_by (Some path) log outcome own ≡ own
good_status path log outcome own true is = subst (λ (n : ℕ). status_by (Some path) log outcome n ≡ n) (sym is) refl
good_status path log outcome own false is = subst (λ (n : ℕ). status_by (Some path) log outcome n ≡ n) (sym is) refl

status_of_memory : (path : List ℕ) (log : Option LogEnd) (outcome : Result Answer CommandFault) (own : ℕ) → own ≡ 4 → status_by (Some path) log outcome own ≡ 4
status_of_memory path log outcome own is = subst (λ (n : ℕ). status_by (Some path) log outcome n ≡ 4) (sym is) refl

-- ---- what a good run wrote

-- with a log without bytes what `drive` writes, with any other what `resume` writes of it
abbrev LogWrote : PlannedShop → Protocol → Option ℕ → Option (List ℕ) → List ℕ → ℕ → List ℕ → Type 0
LogWrote p protocol at None input status written = Wrote p protocol input status written
LogWrote p protocol at (Some []) input status written = Wrote p protocol input status written
LogWrote p protocol at (Some (byte ∷ bytes)) input status written = Resumed p protocol (ended_lines (whole_lines (byte ∷ bytes))) at input status written

-- nothing is amiss of a log with these bytes, if it is there, that has to begin so
abbrev Fits : PlannedShop → LogStart → Option (List ℕ) → Type 0
Fits p start there = (run : LogRun) (misfit : Misfit) → IsLogRunOf (lines_of (whole_lines (bytes_in there))) run → IsMisfit start run (digits_in p) misfit → ⊥

-- a fault that isn't want of memory broke off what was streamed
streamed_of : {S : Type 0} (T : Type 0) (answers : S → ℕ → Option (List ℕ) → List ℕ → S → Type 0) (closes : S → List ℕ → Type 0) (start last : S) (before after : Streams) (fault : DriveFault)
    → IsStreamedFrom {T = T} answers closes start (Err fault) last before after → (fault ≡ OutOfMemory → ⊥) → IsStreamed {T = T} (Err fault) MAX_PIECE answers closes start last before after
streamed_of T answers closes start last before after NotRead is some = is
streamed_of T answers closes start last before after NotWritten is some = is
streamed_of T answers closes start last before after TooLong is some = is
streamed_of T answers closes start last before after OutOfMemory is some = absurd (some refl)

module _ (content : List ℕ → Result (List ℕ) CommandFault) (words : List (List ℕ)) (path : List ℕ) (there : Option (List ℕ)) (input : List ℕ) (few : length input ≤ MAX_INPUT)
    (status : ℕ) (written : List ℕ) (run : RunsWellWithLog content words path there input status written) where
  -- the log says of no fault, nor does the folder
  no_fault : (end : LogEnd) (fault : FileFault) → run.well.log ≡ Some end → fault_of end ≡ Some fault → ⊥
  no_fault end fault is of =
      let none : fault_of end ≡ None = subst (λ (o : Option LogEnd). IfSome o (λ e. fault_of e ≡ None)) is run.log_unfailed in
      let bad : Some fault ≡ None = sym of ∙ none in cc bad

  no_folder_fault : (folder : Folder) (fault : FileFault) → run.well.after.folder ≡ folder → folder.fault ≡ Some fault → ⊥
  no_folder_fault folder fault is of = (let bad : Some fault ≡ None = sym of ∙ sym (ap (λ (f : Folder). f.fault) is) ∙ run.folder_unfailed in cc bad)

  module _ (outcome : Result Answer CommandFault) (mid : Streams) (own : ℕ) (same_input : run.well.after.streams.input ≡ mid.input)
      (ends : Ends outcome mid.output run.well.after.streams.output run.well.before.errors run.well.after.errors own) (status_is : status ≡ status_by (Some path) run.well.log outcome own) where
    no_memory : outcome ≡ Err Memory → ⊥
    no_memory is =
        let four : own ≡ 4 = memory_ends outcome mid.output run.well.after.streams.output run.well.before.errors run.well.after.errors own is ends in
        run.well.not_out_of_memory (status_is ∙ status_of_memory path run.well.log outcome own four)

    -- no write of the output has failed
    no_write : outcome ≡ Err Write → mid.output.failed ≡ true → ⊥
    no_write is failed =
        let same_output = write_ends outcome mid.output run.well.after.streams.output run.well.before.errors run.well.after.errors own is ends in
        let bad : true ≡ false = sym failed ∙ sym (ap (λ (o : Output). o.failed) same_output) ∙ run.well.was_written in cc bad

    -- the streams of a writer that keeps a log: over an output that has accepted this, and as it held them at the end
    abbrev from_log : Option (List ℕ) → Streams
    from_log printed = record { input = run.well.before.streams.input; output = output_held (nothing_held printed) }

    abbrev to_log : Held → Streams
    to_log kept = record { input = mid.input; output = output_held kept }

    -- all was read, and written behind this by a writer that keeps a log
    ended_logged : {S T : Type 0} (answers : S → ℕ → Option (List ℕ) → List ℕ → S → Type 0) (closes : S → List ℕ → Type 0) (start last : S) (from : Streams) (kept : Held) (end : T) (done : Bool) (front : List ℕ)
        (is : IsStreamed (Ok end) MAX_PIECE answers closes start last from (to_log kept)) → from.input ≡ run.well.before.streams.input
        → from.output.written ≡ Some (run.well.start ++ front) → mid.output.written ≡ kept.written → IsEnded done outcome
        → (is.input ≡ input) × (written ≡ front ++ (is.comes_to.text ++ is.comes_to.closing)) × (status ≡ status_at done)
    ended_logged answers closes start last from kept end done front is same before has answer =
        let all = is.comes_to in
        let whole : List ℕ = all.text ++ all.closing in
        let none_pending : kept.pending ≡ [] = is.shown in
        let mid_is : mid.output.written ≡ append_known kept.written kept.pending = has ∙ sym (append_nothing kept.written) ∙ ap (append_known kept.written) (sym none_pending) in
        let behind : Appends from.output.written mid.output.written whole = subst (λ (o : Option (List ℕ)). Appends from.output.written o whole) (sym mid_is) all.written in
        let all_behind : Appends run.well.before.streams.output.written mid.output.written (front ++ whole) =
        Appends-trans run.well.before.streams.output.written from.output.written mid.output.written front whole
        (grown run.well.before.streams.output.written from.output.written run.well.start front run.well.empty before) behind in
        let ended = ended_as done outcome mid.output run.well.after.streams.output run.well.before.errors run.well.after.errors own run.well.was_written answer ends in (
          all_read from.input.left mid.input.left input is.input (ap (λ i. i.left) same ∙ run.well.given) is.was_read all.at_end,
          written_is run.well.before.streams.output.written mid.output.written run.well.after.streams.output.written run.well.start written (front ++ whole) ended.1.0 run.well.empty run.well.wrote all_behind ended.1.2 ended.1.1,
          status_is ∙ good_status path run.well.log outcome own done ended.0 ∙ ended.0,
        )

    -- a cell was driven with the log
    module _ {T : Type 0} (q : PlannedShop) (recorded : List Entry) (drives : Streams → Streams → Result T DriveFault → Type 0) (ends_of : Result T DriveFault → Result Bool DriveFault) (begun : Streams)
        (drove : DrivesWithLog q recorded drives ends_of (step_of begun outcome mid run.well.log)) where
      not_written : drove.end ≡ Err NotWritten → outcome ≡ Err (logged_command_fault drove.log_failed NotWritten) → ⊥
      not_written is answer = by drove.log_failed refl
        where
          by : (failed : Bool) → drove.log_failed ≡ failed → ⊥
          by true has = no_fault (Driven q recorded drove.held) LogFault drove.log (ap fault_if (sym drove.shows.log ∙ has))
          by false has = no_write (answer ∙ ap (λ (b : Bool). Err (logged_command_fault b NotWritten)) has) (drove.output_failed is has)

      never_broke : {S : Type 0} (answers : S → ℕ → Option (List ℕ) → List ℕ → S → Type 0) (closes : S → List ℕ → Type 0) (start last : S) (from : Streams) (fault : DriveFault) → drove.end ≡ Err fault
          → from.input ≡ run.well.before.streams.input → outcome ≡ Err (logged_command_fault drove.log_failed fault) → IsStreamed {T = T} (Err fault) MAX_PIECE answers closes start last from (to_log drove.held) → ⊥
      never_broke answers closes start last from NotRead is same answer streamed =
          let bad : true ≡ false = sym streamed.comes_to.0 ∙ sym (ap (λ i. i.failed) same_input) ∙ run.well.was_read in cc bad
      never_broke answers closes start last from NotWritten is same answer streamed = not_written is answer
      never_broke answers closes start last from TooLong is same answer streamed =
          let less = fewer from.input.left mid.input.left input streamed.input (ap (λ i. i.left) same ∙ run.well.given) streamed.was_read in
          omega (arith, less, few, streamed.comes_to.0)
      never_broke answers closes start last from OutOfMemory is same answer streamed = drove.memory is

    -- ---- from the start

    module _ (p : PlannedShop) (protocol : Protocol) where
      drive_logged : (v : VerifiedPlan) → v.planned ≡ p → DrivesWithLog v.planned [] (IsDriveIn protocol v) end_of_drive (step_of run.well.before.streams outcome mid run.well.log) → Wrote p protocol input status written
      drive_logged v same drove = came drove.end refl drove.shows.drove drove.answer
        where
          came : (end : Result DriveEnd DriveFault) → drove.end ≡ end → IsDriveIn protocol v (from_log run.well.before.streams.output.written) (to_log drove.held) end → IsLoggedAnswer drove.log_failed (end_of_drive end) outcome → Wrote p protocol input status written
          came (Ok end) end_is is answer =
              let from : Streams = from_log run.well.before.streams.output.written in
              let to : Streams = to_log drove.held in
              let all = is.streamed.comes_to in
              let whole : List ℕ = all.text ++ all.closing in
              let ended = ended_logged SessionAnswer SessionCloses (session_start protocol v) is.end from drove.held end end.done [] is.streamed refl (ap (λ (o : Option (List ℕ)). append_known o []) run.well.empty) drove.shows.output answer in
              let answered : IsProtocolText p protocol is.streamed.input whole (seen is.end) = subst (λ (r : PlannedShop). IsProtocolText r protocol is.streamed.input whole (seen is.end)) same (driven_text v protocol end from to is) in
              record {
                state = seen is.end;
                done = end.done;
                last = end.last;
                left = end.left;
                is_text = subst (λ (xs : List ℕ). IsProtocolText p protocol input xs (seen is.end)) (sym ended.1) (subst (λ (xs : List ℕ). IsProtocolText p protocol xs whole (seen is.end)) ended.0 answered);
                so_far = so_far_of p v is.end end same is.came_to;
                own = ended.2;
              }
          came (Err fault) end_is is answer =
              let from : Streams = from_log run.well.before.streams.output.written in
              let to : Streams = to_log drove.held in
              let some : fault ≡ OutOfMemory → ⊥ = λ no. drove.memory (end_is ∙ ap Err no) in
              absurd (never_broke v.planned [] (IsDriveIn protocol v) end_of_drive run.well.before.streams drove SessionAnswer SessionCloses (session_start protocol v) is.end from fault end_is refl answer
              (streamed_of DriveEnd SessionAnswer SessionCloses (session_start protocol v) is.end from to fault is.streamed some))

      -- ---- behind a log

      module _ (lines : List (List ℕ)) (at : Option ℕ) (t : Recovered) (up : IsRecovered p lines at t) where
        continue_logged : (replayed : Output) → replayed.written ≡ Some (run.well.start ++ replay_text protocol t)
            → DrivesWithLog (plan_of t) (replayed_events t) (IsContinuedIn protocol t) end_of_rest (step_of (with_output run.well.before.streams replayed) outcome mid run.well.log) → Resumed p protocol lines at input status written
        continue_logged replayed known drove = came drove.end refl drove.shows.drove drove.answer
          where
            came : (end : Result RestEnd DriveFault) → drove.end ≡ end → WritesAndContinues protocol (due_text t) t (from_log replayed.written) (to_log drove.held) end → IsLoggedAnswer drove.log_failed (end_of_rest end) outcome → Resumed p protocol lines at input status written
            came (Ok end) end_is (inl cut) answer = absurd (let bad : Ok end ≡ Err NotWritten = cut.0 in cc bad)
            came (Ok end) end_is (inr on) answer =
                let from : Streams = from_log replayed.written in
                let to : Streams = to_log drove.held in
                let again : List ℕ = again_of protocol t in
                let due_behind : on.middle.written ≡ Some ((run.well.start ++ replay_text protocol t) ++ due_text t) =
                appended from.output.written on.middle.written (run.well.start ++ replay_text protocol t) (due_text t) (append_nothing replayed.written ∙ known) on.again in
                let middle_is : on.middle.written ≡ Some (run.well.start ++ again) = due_behind ∙ ap Some (append_assoc run.well.start (replay_text protocol t) (due_text t)) in
                let here : Streams = record { input = run.well.before.streams.input; output = on.middle } in
                let ended = ended_logged SessionAnswer SessionCloses (session_from protocol t) on.end here drove.held end end.done again on.streamed refl middle_is drove.shows.output answer in
                let first : Streams = record { input = run.well.before.streams.input; output = record { written = Some run.well.start; failed = on.middle.failed; pending = [] } } in
                let whole : IsContinuedRun protocol again t first to (Ok end) = record {
                  from = on.from;
                  middle = on.middle;
                  again = grown (Some run.well.start) on.middle.written run.well.start again refl middle_is;
                  unfailed = refl;
                  end = on.end;
                  streamed = on.streamed;
                  came_to = on.came_to;
                } in
                resumed_from p protocol lines at t input status written up end first to whole ended.0 ended.1 ended.2
            came (Err fault) end_is (inl cut) answer =
                let same : fault ≡ NotWritten = (let both : Err fault ≡ Err NotWritten = cut.0 in cc both) in
                absurd (not_written (plan_of t) (replayed_events t) (IsContinuedIn protocol t) end_of_rest (with_output run.well.before.streams replayed) drove (end_is ∙ ap Err same)
                (answer ∙ ap (λ (f : DriveFault). Err (logged_command_fault drove.log_failed f)) same))
            came (Err fault) end_is (inr on) answer =
                absurd (never_broke (plan_of t) (replayed_events t) (IsContinuedIn protocol t) end_of_rest (with_output run.well.before.streams replayed) drove SessionAnswer SessionCloses (session_from protocol t) on.end
                (record { input = run.well.before.streams.input; output = on.middle }) fault end_is refl answer on.streamed)

        -- the events are written again first
        replayed_so : (middle : Output) (replay : Result Recovered DriveFault) → IsReplayedIn protocol t (output_sink run.well.before.streams.output) (output_sink middle) replay
            → GoesOnAfter protocol t middle replay (step_of run.well.before.streams outcome mid run.well.log) → Resumed p protocol lines at input status written
        replayed_so middle (Ok done) is on = continue_logged middle (appended run.well.before.streams.output.written middle.written run.well.start (replay_text protocol t) run.well.empty is.0) on
        replayed_so middle (Err NotWritten) is on =
            let failed : mid.output.failed ≡ true = ap (λ (s : Streams). s.output.failed) on.1 ∙ is.0 in absurd (no_write on.0 failed)
        replayed_so middle (Err NotRead) is on = absurd is
        replayed_so middle (Err TooLong) is on = absurd is
        replayed_so middle (Err OutOfMemory) is on = absurd is

      recovered_so : (at : Option ℕ) (byte : ℕ) (bytes : List ℕ) → CanBeDriven p at (Some (byte ∷ bytes)) → (recovered : Result Recovered RecoverFault) → RecoversLog p at (byte ∷ bytes) recovered
          → ContinuesRecovered p protocol (byte ∷ bytes) recovered (step_of run.well.before.streams outcome mid run.well.log) → Resumed p protocol (ended_lines (whole_lines (byte ∷ bytes))) at input status written
      recovered_so at byte bytes can (Ok t) takes on = replayed_so (ended_lines (whole_lines (byte ∷ bytes))) at t takes.is on.mid on.replay on.replays.is on.goes_on
      recovered_so at byte bytes can (Err fault) takes on = absurd (unrecovered fault (takes.only can.0 can.1) on.0 on.1.is)
        where
          unrecovered : (f : RecoverFault) → IsOfDevice f → IsLogFaultPrinted f outcome → run.well.log ≡ Some (NotRecovered p (byte ∷ bytes) f) → ⊥
          unrecovered (Resume f) of printed is = no_memory (subst (λ (r : ResumeFault). IsUnrecoveredAnswer r outcome) of printed)
          unrecovered (NoTornEnd lines) of printed is = of
          unrecovered (File f) of printed is = no_fault (NotRecovered p (byte ∷ bytes) (File f)) f is refl

      -- ---- a new log

      module _ (folder : Folder) (acceptable : IsAcceptable p) where
        lacks : (q : PlannedShop) (was : Bool) (fault : FileFault) → IsNewLogFault folder run.well.after.folder path q was fault run.well.log → ⊥
        lacks q was fault (inl (unmade, log)) = elim unmade.at_most [
          | inl is ↦ no_folder_fault _ fault is refl
          | inr is ↦ no_folder_fault _ fault is refl
        ]
        lacks q was fault (inr (inl (disk, is, log))) = no_folder_fault _ fault is refl
        lacks q was fault (inr (inr (fault_is, is, log))) = no_fault (Unlined q) LogFault log refl

        begins_accepted : (was : Bool) (v : VerifiedPlan) → v.planned ≡ p → BeginsAccepted folder run.well.after.folder path protocol was v (step_of run.well.before.streams outcome mid run.well.log) → Wrote p protocol input status written
        begins_accepted was v same (inl none) = absurd (no_memory none.0)
        begins_accepted was v same (inr (inl no_log)) = absurd (lacks v.planned was no_log.fault no_log.why)
        begins_accepted was v same (inr (inr begins)) = drive_logged v same begins.drove

        begins_by : (was : Bool) (verdict : Verdict) → IsVerdict p verdict → BeginsBy folder run.well.after.folder path protocol was verdict (step_of run.well.before.streams outcome mid run.well.log) → Wrote p protocol input status written
        begins_by was (Refused back why) is by = absurd (reason_refutes p why is.refused.1 acceptable)
        begins_by was (Accepted v) is by = begins_accepted was v is.accepted.0 by

        begins : (was : Bool) → Begins folder run.well.after.folder path protocol p was (step_of run.well.before.streams outcome mid run.well.log) → Wrote p protocol input status written
        begins was (inl (verdict, is, by)) = begins_by was verdict is by
        begins was (inr none) = absurd (no_memory none.0)

      -- ---- any log

      fitting : (folder : Folder) (at : Option ℕ) (found : Option (List ℕ)) → CanBeDriven p at found → DrivesFitting folder run.well.after.folder path protocol at p found (step_of run.well.before.streams outcome mid run.well.log)
          → LogWrote p protocol at found input status written
      fitting folder at None can drives = begins folder can false drives
      fitting folder at (Some []) can drives = begins folder can true drives
      fitting folder at (Some (byte ∷ bytes)) can drives = recovered_so at byte bytes can drives.0.recovered drives.0.takes drives.0.goes_on

      as_asked : (folder : Folder) (start : LogStart) (at : Option ℕ) (found : Option (List ℕ)) → CanBeDriven p at found
          → Fits p start found
          → DrivesFound folder run.well.after.folder path start protocol at p found (step_of run.well.before.streams outcome mid run.well.log) → LogWrote p protocol at found input status written
      as_asked folder start at found can fits drives = by drives.misfit drives.is_misfit drives.drives
        where
          by : (misfit : Option Misfit) → MatchOption misfit ((m : Misfit) → IsMisfit start drives.run (digits_in p) m → ⊥) (IsMisfit start drives.run (digits_in p))
              → DrivesAs folder run.well.after.folder path misfit protocol at p found (step_of run.well.before.streams outcome mid run.well.log) → LogWrote p protocol at found input status written
          by None none is = fitting folder at found can is
          by (Some m) misfits is = absurd (fits drives.run m drives.parses misfits)

      opened : (start : LogStart) (at : Option ℕ) → CanBeDriven p at there → Fits p start there
          → (opens : Result (Option (List ℕ)) FileFault) → ((found : Option (List ℕ)) → opens ≡ Ok found → found ≡ there)
          → DrivesOpened run.well.before.folder run.well.after.folder path start protocol at p opens (step_of run.well.before.streams outcome mid run.well.log) → LogWrote p protocol at there input status written
      opened start at can fits (Ok found) here drives =
          let same : there ≡ found = sym (here found refl) in
          subst (λ (o : Option (List ℕ)). LogWrote p protocol at o input status written) (here found refl)
          (as_asked (handed_if (is_some found) run.well.before.folder) start at found (subst (CanBeDriven p at) same can)
          (λ run_of misfit parses. fits run_of misfit (subst (λ (o : Option (List ℕ)). IsLogRunOf (lines_of (whole_lines (bytes_in o))) run_of) (here found refl) parses)) drives)
      opened start at can fits (Err fault) here (_, _, inl is) = absurd (no_folder_fault _ fault is.1 refl)
      opened start at can fits (Err fault) here (_, _, inr is) = absurd (no_fault (Unread fault) fault is.2 refl)

      -- of the plan that the files give
      shaped_so : (files : List (List ℕ)) (start : LogStart) (at : Option ℕ) → IsWellShaped p → CanBeDriven p at there
          → Fits p start there
          → (shape : Result (Result PlannedShop ShapeFault) CommandFault) (asked : List (List ℕ)) → IsAnswerOfFiles (IsShapedOrNot p) files shape asked
          → DrivesShaped run.well.before.folder run.well.after.folder path start protocol at shape (step_of run.well.before.streams outcome mid run.well.log) → LogWrote p protocol at there input status written
      shaped_so files start at shaped can fits (Err fault) asked is drives = absurd (no_memory (drives.0 ∙ ap Err is))
      shaped_so files start at shaped can fits (Ok (Err fault)) asked is drives = absurd (shape_fault_refutes p fault is.0 shaped)
      shaped_so files start at shaped can fits (Ok (Ok q)) asked is (inr none) = absurd (no_memory none.0)
      shaped_so files start at shaped can fits (Ok (Ok q)) asked is (inl opens) =
          opened start at can fits opens.opened here
          (subst (λ (r : PlannedShop). DrivesOpened run.well.before.folder run.well.after.folder path start protocol at r opens.opened (step_of run.well.before.streams outcome mid run.well.log)) is.0.0 opens.drives)
        where
          here : (found : Option (List ℕ)) → opens.opened ≡ Ok found → found ≡ there
          here found opened_is =
              let known = subst (λ (o : Result (Option (List ℕ)) FileFault). IfOk o (λ f. IfSome run.well.before.folder.logs (λ ls. f ≡ held ls path))) opened_is opens.found in
              let same : found ≡ held run.logs path = subst (λ (o : Option (List NamedLog)). IfSome o (λ ls. found ≡ held ls path)) run.known known in
              same ∙ run.was

  -- where its output goes to the log
  shown_so : (outcome : Result Answer CommandFault) (mid : Streams) (own : ℕ) → IsOutputLog (Some path) run.well.before.folder true → outcome ≡ Err ShownFault → mid ≡ run.well.before.streams
      → Ends outcome mid.output run.well.after.streams.output run.well.before.errors run.well.after.errors own → status ≡ status_by (Some path) run.well.log outcome own → GoesToLog content words input status written run.well path
  shown_so outcome mid own shown is same ends status_is =
      let ended = log_ends outcome mid.output run.well.after.streams.output run.well.before.errors run.well.after.errors own is ends in
      record { shown = shown; status_is = status_is ∙ kept_status path run.well.log outcome own is ended.1; nothing = wrote_nothing content words input status written run.well mid same ended.0 }

  -- where it doesn't
  run_logged : (inputs : InputPaths) (p : PlannedShop) (chosen : Chosen) (outcome : Result Answer CommandFault) (mid : Streams) (own : ℕ) → ParseAsPlan content inputs p → IsWellShaped p → IsAsAsked words p there
      → CanBeDriven p (moment_given words) there → AskForLoggedDrive words inputs path → IsChoiceOf words (found_in words) chosen → kept_log_in chosen ≡ Some path → run.well.after.streams.input ≡ mid.input
      → Ends outcome mid.output run.well.after.streams.output run.well.before.errors run.well.after.errors own → status ≡ status_by (Some path) run.well.log outcome own
      → RunsChosen (Shelf content) (kept_log_in chosen) chosen run.well.before outcome mid run.well.after run.well.log → LogWrote p (protocol_of words) (moment_given words) there input status written
  run_logged inputs p chosen outcome mid own good shaped as_asked can ask choice kept same_input ends status_is chosen_runs =
      let step = step_of run.well.before.streams outcome mid run.well.log in
      let logged : RunsLoggedDrive (Shelf content) run.well.before.folder run.well.after.folder path chosen.start (protocol_in chosen) chosen.at (inputs_in chosen) run.well.before.texts step run.well.after.texts =
      subst (λ (l : Option (List ℕ)). RunsChosen (Shelf content) l chosen run.well.before outcome mid run.well.after run.well.log) kept chosen_runs in
      let runs : RunsLoggedDrive (Shelf content) run.well.before.folder run.well.after.folder path (start_chosen (rows_found (found_in words))) (protocol_of words) (moment_given words) inputs [] step run.well.after.texts =
      subst (λ (s : LogStart). RunsLoggedDrive (Shelf content) run.well.before.folder run.well.after.folder path s (protocol_of words) (moment_given words) inputs [] step run.well.after.texts) choice.start
      (subst (λ (m : Protocol). RunsLoggedDrive (Shelf content) run.well.before.folder run.well.after.folder path chosen.start m (moment_given words) inputs [] step run.well.after.texts) (same_manner words chosen choice)
      (subst (λ (a : Option ℕ). RunsLoggedDrive (Shelf content) run.well.before.folder run.well.after.folder path chosen.start (protocol_in chosen) a inputs [] step run.well.after.texts) choice.at
      (subst (λ (i : InputPaths). RunsLoggedDrive (Shelf content) run.well.before.folder run.well.after.folder path chosen.start (protocol_in chosen) chosen.at i [] step run.well.after.texts) (asked_pair words inputs path chosen ask.files choice)
      (subst (λ (asked : List (List ℕ)). RunsLoggedDrive (Shelf content) run.well.before.folder run.well.after.folder path chosen.start (protocol_in chosen) chosen.at (inputs_in chosen) asked step run.well.after.texts) run.well.unasked logged)))) in
      shaped_so outcome mid own same_input ends status_is p (protocol_of words) _ (start_chosen (rows_found (found_in words))) (moment_given words) shaped can as_asked runs.shaped run.well.after.texts
      (good_plan content inputs p good IsShapedOrNot runs.shaped run.well.after.texts runs.shapes) runs.drives

  follows_logged : (inputs : InputPaths) (p : PlannedShop) (read : Result Chosen WordsFault) → AskForLoggedDrive words inputs path → ParseAsPlan content inputs p → IsWellShaped p → IsAsAsked words p there
      → CanBeDriven p (moment_given words) there → AreWordsRead words read → Follows (Shelf content) read run.well.before status run.well.after run.well.log
      → GoesToLog content words input status written run.well path ⊎ LogWrote p (protocol_of words) (moment_given words) there input status written
  follows_logged inputs p (Ok chosen) ask good shaped as_asked can are follows =
      let choice : IsChoiceOf words (found_in words) chosen = are.chosen in
      let is_drive : chosen.name ≡ Drive = same_command chosen.name Drive (choice.name ∙ ask.drive) in
      let kept : kept_log_in chosen ≡ Some path = ap (λ (n : CommandName). log_kept_by (keeps_log n) (option_map string_bytes chosen.log)) is_drive ∙ choice.log ∙ ask.files.kept in
      let given : given_log_in chosen ≡ Some path = ap (λ (n : CommandName). log_given_to n chosen) is_drive ∙ kept in
      let ends : Ends follows.outcome follows.mid.output run.well.after.streams.output run.well.before.errors run.well.after.errors follows.own =
      subst (λ (n : CommandName). EndsBy (draws n chosen.svg) follows.outcome follows.mid.output run.well.after.streams.output run.well.before.errors run.well.after.errors follows.own) is_drive follows.ends in
      let status_is : status ≡ status_by (Some path) run.well.log follows.outcome follows.own =
      subst (λ (l : Option (List ℕ)). status ≡ status_by l run.well.log follows.outcome follows.own) kept follows.status_is in
      elim (run_or_shown content words input status written run.well chosen path follows.outcome follows.mid given follows.runs) [
        | inl shown ↦ inl (shown_so follows.outcome follows.mid follows.own shown.0 shown.1 shown.2 ends status_is)
        | inr runs ↦ inr (run_logged inputs p chosen follows.outcome follows.mid follows.own good shaped as_asked can ask choice kept follows.input ends status_is runs)
      ]
  follows_logged inputs p (Err (Usage help text)) ask good shaped as_asked can are follows =
      absurd (let named = subst (λ kinds. NamesOneOf kinds (Usage help text)) ask.accepted are.refused in named.1)
  follows_logged inputs p (Err NoWordsMemory) ask good shaped as_asked can are follows =
      absurd (run.well.not_out_of_memory (memory_status run.well.before.errors run.well.after.errors status follows.0.1))

-- ---- two runs

log_wrote_the_same : (p : PlannedShop) (protocol : Protocol) (at : Option ℕ) (there : Option (List ℕ)) (input : List ℕ) (status other_status : ℕ) (written other : List ℕ) → IsWellShaped p
    → LogWrote p protocol at there input status written → LogWrote p protocol at there input other_status other → (other_status ≡ status) × (other ≡ written)
log_wrote_the_same p protocol at None input status other_status written other shaped one two = wrote_the_same p protocol input status other_status written other shaped one two
log_wrote_the_same p protocol at (Some []) input status other_status written other shaped one two = wrote_the_same p protocol input status other_status written other shaped one two
log_wrote_the_same p protocol at (Some (byte ∷ bytes)) input status other_status written other shaped one two =
    resumed_the_same p protocol (ended_lines (whole_lines (byte ∷ bytes))) at input status other_status written other one two

pub logged_drive_writes_the_same : LoggedDriveWritesTheSame
logged_drive_writes_the_same content words inputs log there p input status other_status written other ask good shaped as_asked can few one two =
    let first = follows_logged content words log there input few status written one inputs p one.well.run.read ask good shaped as_asked can one.well.run.is one.well.run.follows in
    let second = follows_logged content words log there input few other_status other two inputs p two.well.run.read ask good shaped as_asked can two.well.run.is two.well.run.follows in
    elim first [
      | inl shown ↦ inl shown
      | inr here ↦ elim second [
        | inl shown ↦ inr (inl shown)
        | inr there_too ↦ inr (inr (log_wrote_the_same p (protocol_of words) (moment_given words) there input status other_status written other shaped here there_too))
      ]
    ]
