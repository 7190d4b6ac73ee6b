-- A run that is recovered writes the same, and behind a log without events what `drive` writes.
use Rattle.std.proofs.Common.{◌≡◌, ℕ, ◌≤◌, ◌⊎◌, ◌++◌, List, [], ◌∷◌, Bool, true, false, Option, Some, None, Result, Ok, Err, length, get_or, map, option_map, inl, inr, ap, sym, ◌∙◌, subst, arith}
use Rattle.std.specs.Prelude.{unwrap_or}
use Rattle.std.specs.Io.KnownBytes.{Appends}
use Rattle.std.specs.String.{string_bytes}
use Rattle.std.proofs.KnownBytes.{Appends-trans}
use Rattle.shop_base.specs.Plan.{PlannedShop, IsWellShaped}
use Rattle.text_lines.specs.declared.limits.TheConstants.{MAX_INPUT}
use Rattle.text_lines.specs.Lines.{ended_lines}
use Rattle.byte_streams.specs.declared.drive_fault.DriveFault.{DriveFault}
use Rattle.byte_streams.specs.declared.drive_fault.DriveFault.TheVariants.{Read as NotRead, Write as NotWritten, InputTooLong as TooLong, Memory as OutOfMemory}
use Rattle.byte_streams.specs.declared.rooms.TheConstants.{MAX_PIECE}
use Rattle.byte_streams.specs.Streams.{IsStreamed}
use Rattle.run_log.specs.Log.{Noted}
use Rattle.cell_drive.specs.declared.protocol.Protocol.{Protocol}
use Rattle.cell_drive.specs.declared.resume.RestEnd.{RestEnd}
use Rattle.cell_drive.specs.declared.resume_fault.ResumeFault.{ResumeFault}
use Rattle.cell_drive.specs.AnswerText.{DrivenCell}
use Rattle.cell_drive.specs.OneRun.{IsSoFar}
use Rattle.cell_drive.specs.Session.{SessionState, SessionAnswer, SessionCloses, IsRestEndOf, seen}
use Rattle.cell_drive.specs.Recovered.{Recovered, IsRecovered, IsRecoverable, plan_of}
use Rattle.cell_drive.specs.Resuming.{IsContinuedRun, IsResumedText, again_of, session_from}
use Rattle.cell_drive.specs.InProtocol.{IsResumeIn}
use Rattle.cell_drive.proofs.OneText.{one_answer_text}
use Rattle.drive_laws.proofs.Resumes.{resumed_text}
use Rattle.drive_laws.proofs.Recoveries.{one_text_from_a_log, a_log_without_events_is_driven}
use Rattle.command_words.specs.declared.words.Chosen.{Chosen}
use Rattle.command_words.specs.declared.words.CommandName.{CommandName}
use Rattle.command_words.specs.declared.words.CommandName.TheVariants.{Resume}
use Rattle.command_words.specs.declared.words.Lines.{Lines}
use Rattle.command_words.specs.declared.words.WordsFault.{WordsFault}
use Rattle.command_words.specs.declared.words.WordsFault.TheVariants.{Usage, Memory as NoWordsMemory}
use Rattle.command_words.specs.Choice.{IsChoiceOf, NamesOneOf, found_in, rows_found, lines_in, leap_in}
use Rattle.command_answers.specs.declared.answer.Answer.{Answer}
use Rattle.command_answers.specs.declared.command_fault.CommandFault.{CommandFault}
use Rattle.command_answers.specs.declared.command_fault.CommandFault.TheVariants.{Log as LogFault}
use Rattle.command_answers.specs.Commands.{InputPaths}
use Rattle.command_run.specs.Streams.{Streams, Output}
use Rattle.command_run.specs.Drives.{IsEndAnswer, status_at}
use Rattle.command_run.specs.Resumes.{IsRecovery, IsUnrecoveredAnswer, ResumesRecovered, end_of_rest}
use Rattle.command_run.specs.Ending.{Ends, EndsBy}
use Rattle.command_run.specs.Program.{AreWordsRead, RunsResume, RunsCommand, RunsChosen, Follows, IsOutputLog, draws, file_at, given_log_in, is_second, keeps_log, kept_log_in, log_given_to, log_kept_by, protocol_in, inputs_in}
use Rattle.command_run.specs.Laws.{Shelf, ParseAsPlan, RunsWell}
use Rattle.program_laws.specs.ResumeLaw.{AskForResume, AskForOneManner, GoesToLog, moment_given, ResumeWritesTheSame, ResumeWritesAsDrive}
use Rattle.program_laws.specs.HistoryLaw.{protocol_of}
use Rattle.program_laws.proofs.CommandNames.{same_command}
use Rattle.program_laws.proofs.GoodFiles.{good_resume}
use Rattle.program_laws.proofs.ShownLogs.{log_ends, run_or_shown, wrote_nothing}
use Rattle.program_laws.proofs.SameWriting.{Wrote, same_manner, all_read, fewer, written_is, memory_status, memory_ends, own_ends, write_ends, ended_as, same_done, follows_wrote}

-- ---- the words

asked_pair : (words : List (List ℕ)) (inputs : InputPaths) (log : List ℕ) (chosen : Chosen) → AskForResume words inputs log → IsChoiceOf words (found_in words) chosen → inputs_in chosen ≡ inputs
asked_pair words inputs log chosen ask is =
    let of : List ℕ → Option (List ℕ) → List ℕ → InputPaths = λ a b c. record { path = a; name = b; plan = c } in
    let files : List (List ℕ) = map string_bytes chosen.files.items in
    ap (λ a. of a (option_map string_bytes chosen.instance) (get_or files 1 [])) (ap (λ (fs : List (List ℕ)). get_or fs 0 []) is.files ∙ sym ask.path)
    ∙ ap (λ b. of inputs.path b (get_or files 1 [])) (is.instance ∙ sym ask.name) ∙ ap (λ c. of inputs.path inputs.name c) (ap (λ (fs : List (List ℕ)). get_or fs 1 []) is.files ∙ sym ask.plan)

asked_log : (words : List (List ℕ)) (inputs : InputPaths) (log : List ℕ) (chosen : Chosen) → AskForResume words inputs log → IsChoiceOf words (found_in words) chosen → file_at chosen 2 ≡ log
asked_log words inputs log chosen ask is = ap (λ (fs : List (List ℕ)). get_or fs 2 []) is.files ∙ sym ask.log_is

-- ---- what a good run wrote

-- the text for its input from what was recovered, by this protocol
pub record Resumed (p : PlannedShop) (protocol : Protocol) (lines : List (List ℕ)) (at : Option ℕ) (input : List ℕ) (status : ℕ) (written : List ℕ) : Type 0 where
  pub recovered : Recovered
  pub up : IsRecovered p lines at recovered
  pub state : DrivenCell
  pub done : Bool
  pub last : ℕ
  pub left : ℕ
  pub is_text : IsResumedText p protocol recovered.log.entries recovered.late input written state
  pub so_far : IsSoFar p state.entries done last left
  pub own : status ≡ status_at done

rest_so_far : (p q : PlannedShop) (s : SessionState) (end : RestEnd) → q ≡ p → IsRestEndOf q s end → IsSoFar p s.log.entries end.done end.last end.left
rest_so_far p q s end same is =
    subst (λ x. IsSoFar x s.log.entries end.done end.last end.left) same (subst (λ (l : Noted). IsSoFar q l.entries end.done end.last end.left) is.log is.so_far)

-- what was written behind what was recovered, and read
pub resumed_from : (p : PlannedShop) (protocol : Protocol) (lines : List (List ℕ)) (at : Option ℕ) (recovered : Recovered) (input : List ℕ) (status : ℕ) (written : List ℕ) → IsRecovered p lines at recovered
    → (end : RestEnd) (before after : Streams) (on : IsContinuedRun protocol (again_of protocol recovered) recovered before after (Ok end)) → on.streamed.input ≡ input
    → written ≡ again_of protocol recovered ++ (on.streamed.comes_to.text ++ on.streamed.comes_to.closing) → status ≡ status_at end.done → Resumed p protocol lines at input status written
resumed_from p protocol lines at recovered input status written up end before after on read wrote own =
    let text : List ℕ = again_of protocol recovered ++ (on.streamed.comes_to.text ++ on.streamed.comes_to.closing) in
    let state : DrivenCell = seen on.end in
    let answered : IsResumedText p protocol recovered.log.entries recovered.late on.streamed.input text state =
    subst (λ (q : PlannedShop). IsResumedText q protocol recovered.log.entries recovered.late on.streamed.input text state) up.recovered_from.planned (resumed_text protocol recovered end before after on) in
    record {
      recovered = recovered;
      up = up;
      state = state;
      done = end.done;
      last = end.last;
      left = end.left;
      is_text = subst (λ xs. IsResumedText p protocol recovered.log.entries recovered.late input xs state) (sym wrote)
          (subst (λ xs. IsResumedText p protocol recovered.log.entries recovered.late xs text state) read answered);
      so_far = rest_so_far p (plan_of recovered) on.end end up.recovered_from.planned on.came_to;
      own = own;
    }

module _ (content : List ℕ → Result (List ℕ) CommandFault) (words : List (List ℕ)) (p : PlannedShop) (input : List ℕ) (few : length input ≤ MAX_INPUT)
    (status : ℕ) (written : List ℕ) (well : RunsWell content words input status written) where
  module _ (mid : Streams) (outcome : Result Answer CommandFault) (same_input : well.after.streams.input ≡ mid.input)
      (ends : Ends outcome mid.output well.after.streams.output well.before.errors well.after.errors status) where
    not_cut : IsEndAnswer (Err NotWritten) outcome → mid.output.failed ≡ true → ⊥
    not_cut answer failed =
        let same_output = write_ends outcome mid.output well.after.streams.output well.before.errors well.after.errors status answer ends in
        let bad : true ≡ false = sym failed ∙ sym (ap (λ (o : Output). o.failed) same_output) ∙ well.was_written in cc bad

    never_out : IsEndAnswer (Err OutOfMemory) outcome → ⊥
    never_out answer = well.not_out_of_memory (memory_ends outcome mid.output well.after.streams.output well.before.errors well.after.errors status answer ends)

    -- behind a text that was written, all was read and written, whoever answers the lines
    module _ {S : Type 0} (answers : S → ℕ → Option (List ℕ) → List ℕ → S → Type 0) (closes : S → List ℕ → Type 0) (start last : S) (front : List ℕ) (middle : Output) where
      abbrev from : Streams
      from = record { input = well.before.streams.input; output = middle }

      ended_behind : (end : RestEnd) (is : IsStreamed (Ok end) MAX_PIECE answers closes start last from mid) → Appends well.before.streams.output.written middle.written front → IsEndAnswer (Ok end.done) outcome
          → (is.input ≡ input) × (written ≡ front ++ (is.comes_to.text ++ is.comes_to.closing)) × (status ≡ status_at end.done)
      ended_behind end is again answer =
          let all = is.comes_to in
          let whole : List ℕ = all.text ++ all.closing in
          let ended = ended_as end.done outcome mid.output well.after.streams.output well.before.errors well.after.errors status well.was_written answer ends in (
            all_read well.before.streams.input.left mid.input.left input is.input well.given is.was_read all.at_end,
            written_is well.before.streams.output.written mid.output.written well.after.streams.output.written well.start written (front ++ whole) ended.1.0 well.empty well.wrote
                (Appends-trans well.before.streams.output.written middle.written mid.output.written front whole again all.written) ended.1.2 ended.1.1,
            ended.0,
          )

      never_broke : (fault : DriveFault) → IsStreamed {T = RestEnd} (Err fault) MAX_PIECE answers closes start last from mid → IsEndAnswer (Err fault) outcome → ⊥
      never_broke NotRead is answer = let bad : true ≡ false = sym is.comes_to.0 ∙ sym (ap (λ i. i.failed) same_input) ∙ well.was_read in cc bad
      never_broke NotWritten is answer = not_cut answer is.comes_to.0
      never_broke TooLong is answer =
          let less = fewer well.before.streams.input.left mid.input.left input is.input well.given is.was_read in
          omega (arith, less, few, is.comes_to.0)
      never_broke OutOfMemory is answer = is.comes_to

    resumed_so : (protocol : Protocol) (lines : List (List ℕ)) (at : Option ℕ) (recovered : Recovered) → IsRecovered p lines at recovered → (end : Result RestEnd DriveFault)
        → IsResumeIn protocol recovered well.before.streams mid end → IsEndAnswer (end_of_rest end) outcome → Resumed p protocol lines at input status written
    resumed_so protocol lines at recovered up (Ok end) (inl cut) answer = absurd (let bad : Ok end ≡ Err NotWritten = cut.0 in cc bad)
    resumed_so protocol lines at recovered up (Ok end) (inr on) answer =
        let ended = ended_behind SessionAnswer SessionCloses (session_from protocol recovered) on.end (again_of protocol recovered) on.middle end on.streamed on.again answer in
        resumed_from p protocol lines at recovered input status written up end well.before.streams mid on ended.0 ended.1 ended.2
    resumed_so protocol lines at recovered up (Err fault) (inl cut) answer =
        let same : fault ≡ NotWritten = (let both : Err fault ≡ Err NotWritten = cut.0 in cc both) in
        absurd (not_cut (subst (λ (f : DriveFault). IsEndAnswer (Err f) outcome) same answer) cut.1)
    resumed_so protocol lines at recovered up (Err fault) (inr on) answer =
        absurd (never_broke SessionAnswer SessionCloses (session_from protocol recovered) on.end (again_of protocol recovered) on.middle fault on.streamed answer)

    -- a log that can be recovered
    log_resumed : (protocol : Protocol) (at : Option ℕ) (text : List ℕ) → IsRecoverable p (ended_lines text) at → (recovered : Result Recovered ResumeFault) → IsRecovery p at text recovered
        → ResumesRecovered protocol recovered well.before.streams mid outcome → Resumed p protocol (ended_lines text) at input status written
    log_resumed protocol at text can (Ok recovered) is on = resumed_so protocol (ended_lines text) at recovered is.is on.end on.is on.answer
    log_resumed protocol at text can (Err fault) is on =
        absurd (never_out (subst (λ (f : ResumeFault). IsUnrecoveredAnswer f outcome) (is.can can) on.0))

  -- where its output goes to the log
  shown_so : (log : List ℕ) (outcome : Result Answer CommandFault) (mid : Streams) → IsOutputLog (Some log) well.before.folder true → outcome ≡ Err LogFault → mid ≡ well.before.streams
      → Ends outcome mid.output well.after.streams.output well.before.errors well.after.errors status → GoesToLog content words input status written well log
  shown_so log outcome mid shown is same ends =
      let ended = log_ends outcome mid.output well.after.streams.output well.before.errors well.after.errors status is ends in
      record { shown = shown; status_is = ended.1; nothing = wrote_nothing content words input status written well mid same ended.0 }

  -- where it doesn't
  run_resumed : (inputs : InputPaths) (log text : List ℕ) (chosen : Chosen) (outcome : Result Answer CommandFault) (mid : Streams) → AskForResume words inputs log → ParseAsPlan content inputs p → IsWellShaped p → content log ≡ Ok text
      → IsRecoverable p (ended_lines text) (moment_given words) → IsChoiceOf words (found_in words) chosen → chosen.name ≡ Resume → kept_log_in chosen ≡ None → well.after.streams.input ≡ mid.input
      → Ends outcome mid.output well.after.streams.output well.before.errors well.after.errors status → RunsChosen (Shelf content) (kept_log_in chosen) chosen well.before outcome mid well.after well.log
      → Resumed p (protocol_of words) (ended_lines text) (moment_given words) input status written
  run_resumed inputs log text chosen outcome mid ask good shaped came can choice name no_log same_input ends run =
      let unlogged : RunsCommand (Shelf content) chosen.name chosen well.before.texts well.before.streams outcome well.after.texts mid =
      (subst (λ (l : Option (List ℕ)). RunsChosen (Shelf content) l chosen well.before outcome mid well.after well.log) no_log run).0 in
      let runs : RunsResume (Shelf content) (protocol_in chosen) chosen.at (inputs_in chosen) (file_at chosen 2) well.before.texts well.before.streams outcome well.after.texts mid =
      subst (λ n. RunsCommand (Shelf content) n chosen well.before.texts well.before.streams outcome well.after.texts mid) name unlogged in
      let resume : RunsResume (Shelf content) (protocol_of words) (moment_given words) inputs log [] well.before.streams outcome well.after.texts mid =
      subst (λ (l : List ℕ). RunsResume (Shelf content) (protocol_of words) (moment_given words) inputs l [] well.before.streams outcome well.after.texts mid) (asked_log words inputs log chosen ask choice)
      (subst (λ (q : InputPaths). RunsResume (Shelf content) (protocol_of words) (moment_given words) q (file_at chosen 2) [] well.before.streams outcome well.after.texts mid) (asked_pair words inputs log chosen ask choice)
      (subst (λ (a : Option ℕ). RunsResume (Shelf content) (protocol_of words) a (inputs_in chosen) (file_at chosen 2) [] well.before.streams outcome well.after.texts mid) choice.at
      (subst (λ (m : Protocol). RunsResume (Shelf content) m chosen.at (inputs_in chosen) (file_at chosen 2) [] well.before.streams outcome well.after.texts mid) (same_manner words chosen choice)
      (subst (λ (asked : List (List ℕ)). RunsResume (Shelf content) (protocol_in chosen) chosen.at (inputs_in chosen) (file_at chosen 2) asked well.before.streams outcome well.after.texts mid) well.unasked runs)))) in
      elim (good_resume content inputs p good (protocol_of words) (moment_given words) well.before.streams mid log text outcome well.after.texts shaped came resume) [
        | inl resumes ↦ log_resumed mid outcome same_input ends (protocol_of words) (moment_given words) text can resumes.1.0 resumes.1.1 resumes.1.2
        | inr none ↦ absurd (never_out mid outcome same_input ends none.0)
      ]

  follows_resumed : (inputs : InputPaths) (log text : List ℕ) (read : Result Chosen WordsFault) → AskForResume words inputs log → ParseAsPlan content inputs p → IsWellShaped p → content log ≡ Ok text
      → IsRecoverable p (ended_lines text) (moment_given words) → AreWordsRead words read → Follows (Shelf content) read well.before status well.after well.log
      → GoesToLog content words input status written well log ⊎ Resumed p (protocol_of words) (ended_lines text) (moment_given words) input status written
  follows_resumed inputs log text (Ok chosen) ask good shaped came can are follows =
      let name : chosen.name ≡ Resume = same_command chosen.name Resume (are.chosen.name ∙ ask.resume) in
      let no_log : kept_log_in chosen ≡ None = ap (λ (n : CommandName). log_kept_by (keeps_log n) (option_map string_bytes chosen.log)) name in
      let given : given_log_in chosen ≡ Some log = ap (λ (n : CommandName). log_given_to n chosen) name ∙ ap Some (asked_log words inputs log chosen ask are.chosen) in
      let ends : Ends follows.outcome follows.mid.output well.after.streams.output well.before.errors well.after.errors status =
      subst (λ (n : CommandName). EndsBy (draws n chosen.svg) follows.outcome follows.mid.output well.after.streams.output well.before.errors well.after.errors status) name
      (own_ends chosen follows.outcome _ _ _ _ follows.own status well.log no_log follows.status_is follows.ends) in
      elim (run_or_shown content words input status written well chosen log follows.outcome follows.mid given follows.runs) [
        | inl shown ↦ inl (shown_so log follows.outcome follows.mid shown.0 shown.1 shown.2 ends)
        | inr run ↦ inr (run_resumed inputs log text chosen follows.outcome follows.mid ask good shaped came can are.chosen name no_log follows.input ends run)
      ]
  follows_resumed inputs log text (Err (Usage help message)) ask good shaped came can are follows =
      absurd (let named = subst (λ kinds. NamesOneOf kinds (Usage help message)) ask.accepted are.refused in named.1)
  follows_resumed inputs log text (Err NoWordsMemory) ask good shaped came can are follows = absurd (well.not_out_of_memory (memory_status well.before.errors well.after.errors status follows.0.1))

-- ---- two runs

pub resumed_the_same : (p : PlannedShop) (protocol : Protocol) (lines : List (List ℕ)) (at : Option ℕ) (input : List ℕ) (status other_status : ℕ) (written other : List ℕ)
    → Resumed p protocol lines at input status written → Resumed p protocol lines at input other_status other → (other_status ≡ status) × (other ≡ written)
resumed_the_same p protocol lines at input status other_status written other one two =
    let same = one_text_from_a_log p protocol lines at one.recovered two.recovered input written other one.state two.state one.up two.up one.is_text two.is_text in
    let done : two.done ≡ one.done = same_done p one.state two.state one.done two.done one.last two.last one.left two.left one.so_far two.so_far same.1 in
    (two.own ∙ ap status_at done ∙ sym one.own, same.0)

pub resume_writes_the_same : ResumeWritesTheSame
resume_writes_the_same content words inputs log text p input status other_status written other ask good shaped came can few well also =
    let protocol = protocol_of words in
    let one = follows_resumed content words p input few status written well inputs log text well.run.read ask good shaped came can well.run.is well.run.follows in
    let two = follows_resumed content words p input few other_status other also inputs log text also.run.read ask good shaped came can also.run.is also.run.follows in
    elim one [
      | inl shown ↦ inl shown
      | inr here ↦ elim two [
        | inl shown ↦ inr (inl shown)
        | inr there ↦ inr (inr (resumed_the_same p protocol (ended_lines text) (moment_given words) input status other_status written other here there))
      ]
    ]

one_manner : (words others : List (List ℕ)) → AskForOneManner words others → protocol_of words ≡ protocol_of others
one_manner words others one =
    let of : Option Lines → Option ℕ → Option ℕ → Protocol = λ version max_gap at. record { version_2 = is_second version; max_gap = max_gap; from = unwrap_or at 0 } in
    let leap : Option ℕ = leap_in (rows_found (found_in words)) in
    ap (λ v. of v leap (moment_given words)) one.lines ∙ ap (λ l. of (lines_in (rows_found (found_in others))) l (moment_given words)) one.leap
    ∙ ap (λ a. of (lines_in (rows_found (found_in others))) (leap_in (rows_found (found_in others))) a) (one.none_given ∙ sym one.none_there)

pub resume_writes_as_drive : ResumeWritesAsDrive
resume_writes_as_drive content words others inputs log text p input status other_status written other ask ask_drive one_of good shaped acceptable came none few well also =
    elim (follows_resumed content words p input few status written well inputs log text well.run.read ask good shaped came can well.run.is well.run.follows) [
      | inl shown ↦ inl shown
      | inr one ↦ inr (as_drive one)
    ]
  where
    can : IsRecoverable p (ended_lines text) (moment_given words)
    can = record {
      recorded = [];
      parses = none;
      is_run = tt;
      not_past = omega arith;
      acyclic = acceptable.acyclic;
      accepted = λ nothing. acceptable;
    }

    as_drive : Resumed p (protocol_of words) (ended_lines text) (moment_given words) input status written → (status ≡ other_status) × (written ≡ 10 ∷ other)
    as_drive one =
        let protocol = protocol_of words in
        let up : IsRecovered p (ended_lines text) None one.recovered = subst (λ (a : Option ℕ). IsRecovered p (ended_lines text) a one.recovered) one_of.none_given one.up in
        let (answer, is_text, whole) = a_log_without_events_is_driven p protocol (ended_lines text) one.recovered input written one.state none up one.is_text in
        let two : Wrote p protocol input other_status other =
        subst (λ (m : Protocol). Wrote p m input other_status other) (sym (one_manner words others one_of))
        (follows_wrote content others p input few other_status other also inputs also.run.read ask_drive good shaped acceptable also.run.is also.run.follows) in
        let same = one_answer_text p protocol input other answer two.state one.state shaped two.is_text is_text in
        let done : one.done ≡ two.done = same_done p two.state one.state two.done one.done two.last one.last two.left one.left two.so_far one.so_far same.1 in
        (one.own ∙ ap status_at done ∙ sym two.own, whole ∙ ap (λ xs. 10 ∷ xs) same.0)
