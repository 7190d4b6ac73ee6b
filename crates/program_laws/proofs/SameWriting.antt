-- A driven cell writes the same.
use Rattle.std.proofs.Common.{◌≡◌, ◌↔◌, ℕ, ◌≤◌, ◌++◌, List, [], ◌⊎◌, Bool, true, false, IsTrue, Option, Some, None, Result, Ok, Err, IfSome, length, length-append, get_or, map, option_map, inl, inr, ap, sym, ◌∙◌, subst, arith, refl}
use Rattle.std.specs.Prelude.{unwrap_or}
use Rattle.std.specs.Io.KnownBytes.{Appends, Consumes, IsAtEnd}
use Rattle.std.specs.String.{string_bytes}
use Rattle.std.proofs.KnownBytes.{Appends-trans, Consumes-whole}
use Rattle.std.proofs.lemmas.List.{append_cancel_left, append-nil}
use Rattle.shop_base.specs.Plan.{PlannedShop, IsWellShaped}
use Rattle.shop_base.specs.Ends.{stated_number, reports_in}
use Rattle.text_lines.specs.declared.limits.TheConstants.{MAX_INPUT}
use Rattle.cell_tables.specs.Events.{events_of}
use Rattle.plan_verifier.specs.Accepted.{VerifiedPlan, IsAcceptable}
use Rattle.cell_drive.specs.declared.protocol.Protocol.{Protocol}
use Rattle.cell_drive.specs.declared.begin.DriveEnd.{DriveEnd}
use Rattle.byte_streams.specs.declared.drive_fault.DriveFault.{DriveFault}
use Rattle.byte_streams.specs.declared.drive_fault.DriveFault.TheVariants.{Read as NotRead, Write as NotWritten, InputTooLong as TooLong, Memory as OutOfMemory}
use Rattle.byte_streams.specs.declared.rooms.TheConstants.{MAX_PIECE}
use Rattle.byte_streams.specs.Streams.{IsStreamed}
use Rattle.run_log.specs.Log.{Noted}
use Rattle.cell_drive.specs.AnswerText.{DrivenCell}
use Rattle.cell_drive.specs.Session.{SessionState, SessionAnswer, SessionCloses, IsEndOf, seen, session_start}
use Rattle.cell_drive.specs.OneRun.{IsSoFar, IsStreamedFrom}
use Rattle.cell_drive.specs.ProtocolText.{IsProtocolText}
use Rattle.cell_drive.proofs.Sessions.{driven_text}
use Rattle.cell_drive.proofs.OneText.{one_answer_text}
use Rattle.command_words.specs.declared.words.Chosen.{Chosen}
use Rattle.command_words.specs.declared.words.CommandName.{CommandName}
use Rattle.command_words.specs.declared.words.CommandName.TheVariants.{Drive}
use Rattle.command_words.specs.declared.words.Lines.{Lines}
use Rattle.command_words.specs.declared.words.WordsFault.{WordsFault}
use Rattle.command_words.specs.declared.words.WordsFault.TheVariants.{Usage, Memory as NoWordsMemory}
use Rattle.command_words.specs.Choice.{IsChoiceOf, NamesOneOf, found_in, rows_found, lines_in, leap_in}
use Rattle.command_answers.specs.declared.answer.Answer.{Answer}
use Rattle.command_answers.specs.declared.command_fault.CommandFault.{CommandFault}
use Rattle.command_answers.specs.declared.command_fault.CommandFault.TheVariants.{Write, Memory}
use Rattle.command_answers.specs.Commands.{InputPaths}
use Rattle.command_run.specs.Streams.{Streams, Output, Errors}
use Rattle.command_run.specs.Drives.{IsEnded, IsEndAnswer, IsDriveIn, DrivesCell, status_at, end_of_drive}
use Rattle.command_run.specs.Ending.{IsFaultPrinted, IsPrinted, IsPrintedAfter, Ends, EndsBy}
use Rattle.command_run.specs.Logs.{LogEnd}
use Rattle.command_run.specs.Program.{AreWordsRead, RunsDrive, RunsCommand, RunsChosen, Follows, draws, draws_in, given_log_in, is_second, keeps_log, kept_log_in, log_given_to, log_kept_by, protocol_in, inputs_in, status_by}
use Rattle.command_run.specs.Laws.{Shelf, ParseAsPlan, AskForDrive, RunsWell}
use Rattle.program_laws.specs.HistoryLaw.{protocol_of}
use Rattle.program_laws.proofs.CommandNames.{same_command}
use Rattle.program_laws.proofs.GoodFiles.{good_drive}
use Rattle.program_laws.proofs.ShownLogs.{apart_runs}

driven_or_not : {P Q R S : Type 0} → (P × Q) ⊎ (R × S) → Q ⊎ R
driven_or_not (inl both) = inl both.1
driven_or_not (inr other) = inr other.0

-- ---- the words

same_pair : (words : List (List ℕ)) (inputs : InputPaths) (chosen : Chosen) → AskForDrive words inputs → IsChoiceOf words (found_in words) chosen → inputs_in chosen ≡ inputs
same_pair words inputs chosen ask is =
    let path : get_or (map string_bytes chosen.files.items) 0 [] ≡ inputs.path = ap (λ (fs : List (List ℕ)). get_or fs 0 []) is.files ∙ sym ask.path in
    let plan : get_or (map string_bytes chosen.files.items) 1 [] ≡ inputs.plan = ap (λ (fs : List (List ℕ)). get_or fs 1 []) is.files ∙ sym ask.plan in
    let name : option_map string_bytes chosen.instance ≡ inputs.name = is.instance ∙ sym ask.name in
    let of : List ℕ → Option (List ℕ) → List ℕ → InputPaths = λ a b c. record { path = a; name = b; plan = c } in
    ap (λ a. of a (option_map string_bytes chosen.instance) (get_or (map string_bytes chosen.files.items) 1 [])) path
    ∙ ap (λ b. of inputs.path b (get_or (map string_bytes chosen.files.items) 1 [])) name ∙ ap (λ c. of inputs.path inputs.name c) plan

pub same_manner : (words : List (List ℕ)) (chosen : Chosen) → IsChoiceOf words (found_in words) chosen → protocol_in chosen ≡ protocol_of words
same_manner words chosen is =
    ap (λ (v : Option Lines). record { version_2 = is_second v; max_gap = chosen.leap; from = unwrap_or chosen.at 0 }) is.lines
    ∙ ap (λ (l : Option ℕ). record { version_2 = is_second (lines_in (rows_found (found_in words))); max_gap = l; from = unwrap_or chosen.at 0 }) is.leap
    ∙ ap (λ (a : Option ℕ). record { version_2 = is_second (lines_in (rows_found (found_in words))); max_gap = leap_in (rows_found (found_in words)); from = unwrap_or a 0 }) is.at

-- and no log
none_kept : (keeps : Bool) (log : Option (List ℕ)) → log ≡ None → log_kept_by keeps log ≡ None
none_kept true log none = none
none_kept false log none = refl

no_log : (words : List (List ℕ)) (inputs : InputPaths) (chosen : Chosen) → AskForDrive words inputs → IsChoiceOf words (found_in words) chosen → kept_log_in chosen ≡ None
no_log words inputs chosen ask is = none_kept (keeps_log chosen.name) (option_map string_bytes chosen.log) (is.log ∙ ask.log)

no_log_given : (words : List (List ℕ)) (inputs : InputPaths) (chosen : Chosen) → AskForDrive words inputs → chosen.name ≡ Drive → IsChoiceOf words (found_in words) chosen → given_log_in chosen ≡ None
no_log_given words inputs chosen ask name is = ap (λ (n : CommandName). log_given_to n chosen) name ∙ no_log words inputs chosen ask is

-- ---- the bytes

pub all_read : (before after : Option (List ℕ)) (input came : List ℕ) → before ≡ Some input → Consumes before after came → IsAtEnd after → came ≡ input
all_read before after input came same was end =
    let whole = Consumes-whole before after came (λ xs. xs ≡ came) was end refl in
    sym (subst (λ o. IfSome o (λ xs. xs ≡ came)) same whole)

fewer_of : (after : Option (List ℕ)) (input came : List ℕ) → Consumes (Some input) after came → length came ≤ length input
fewer_of None input came was = absurd was
fewer_of (Some ys) input came was = omega (arith, ap length was, length-append came ys)

pub fewer : (before after : Option (List ℕ)) (input came : List ℕ) → before ≡ Some input → Consumes before after came → length came ≤ length input
fewer before after input came same was = fewer_of after input came (subst (λ o. Consumes o after came) same was)

pub written_is : (before mid after : Option (List ℕ)) (start written text more : List ℕ) → before ≡ Some start → after ≡ Some (start ++ written) → Appends before mid text → Appends mid after more → more ≡ [] → written ≡ text
written_is before mid after start written text more from to first second none =
    let both = Appends-trans before mid after text more first second in
    let known : start ++ written ≡ start ++ (text ++ more) = subst (λ o. Appends o (Some (start ++ written)) (text ++ more)) from (subst (λ o. Appends before o (text ++ more)) to both) in
    append_cancel_left start written (text ++ more) known ∙ ap (λ xs. text ++ xs) none ∙ append-nil text

-- ---- how it ends

-- a command that keeps no log ends with its own status
pub own_ends : (chosen : Chosen) (outcome : Result Answer CommandFault) (before after : Output) (printed_before printed_after : Errors) (own status : ℕ) (log : Option LogEnd) → kept_log_in chosen ≡ None
    → status ≡ status_by (kept_log_in chosen) log outcome own → EndsBy (draws_in chosen) outcome before after printed_before printed_after own → EndsBy (draws_in chosen) outcome before after printed_before printed_after status
own_ends chosen outcome before after printed_before printed_after own status log none is ends =
    let same : status ≡ own = subst (λ (kept : Option (List ℕ)). status ≡ status_by kept log outcome own) none is in
    subst (λ (n : ℕ). EndsBy (draws_in chosen) outcome before after printed_before printed_after n) (sym same) ends

pub memory_status : (before after : Errors) (status : ℕ) → IsFaultPrinted Memory before after status → status ≡ 4
memory_status before after status (inl out) = out.own
memory_status before after status (inr (text, out)) = absurd text

pub memory_ends : (outcome : Result Answer CommandFault) (before after : Output) (printed_before printed_after : Errors) (status : ℕ) → outcome ≡ Err Memory → Ends outcome before after printed_before printed_after status → status ≡ 4
memory_ends outcome before after printed_before printed_after status is ends =
    let no_memory = subst (λ o. Ends o before after printed_before printed_after status) is ends in memory_status printed_before printed_after status no_memory.1

pub write_ends : (outcome : Result Answer CommandFault) (before after : Output) (printed_before printed_after : Errors) (status : ℕ) → outcome ≡ Err Write → Ends outcome before after printed_before printed_after status → after ≡ before
write_ends outcome before after printed_before printed_after status is ends =
    let failed = subst (λ o. Ends o before after printed_before printed_after status) is ends in failed.0

printed_as : (answer : Answer) (printed : Result ℕ CommandFault) (before after : Output) (printed_before printed_after : Errors) (status : ℕ) → after.failed ≡ false → IsPrinted answer before after printed
    → IsPrintedAfter printed printed_before printed_after status → (status ≡ answer.status) × Appends before.written after.written answer.text.items
printed_as answer (Ok shown) before after printed_before printed_after status unfailed is reported = (reported.1 ∙ is.0, is.1)
printed_as answer (Err fault) before after printed_before printed_after status unfailed is reported = absurd (let failed : true ≡ false = sym is.2 ∙ unfailed in cc failed)

pub ended_as : (done : Bool) (outcome : Result Answer CommandFault) (before after : Output) (printed_before printed_after : Errors) (status : ℕ) → after.failed ≡ false → IsEnded done outcome
    → Ends outcome before after printed_before printed_after status → (status ≡ status_at done) × ((more : List ℕ) × (more ≡ []) × Appends before.written after.written more)
ended_as done (Ok answer) before after printed_before printed_after status unfailed is ends =
    let printed = printed_as answer ends.printed before after printed_before printed_after status unfailed ends.is ends.reported in
    (printed.0 ∙ is.1, (answer.text.items, is.0, printed.1))
ended_as done (Err fault) before after printed_before printed_after status unfailed is ends = absurd is

-- what a good run of `drive` wrote: the answer text of its input by this protocol
pub record Wrote (p : PlannedShop) (protocol : Protocol) (input : List ℕ) (status : ℕ) (written : List ℕ) : Type 0 where
  pub state : DrivenCell
  pub done : Bool
  pub last : ℕ
  pub left : ℕ
  pub is_text : IsProtocolText p protocol input written state
  pub so_far : IsSoFar p state.entries done last left
  pub own : status ≡ status_at done

-- all was read and written, whoever answers the lines
module _ (content : List ℕ → Result (List ℕ) CommandFault) (words : List (List ℕ)) (input : List ℕ) (few : length input ≤ MAX_INPUT)
    (status : ℕ) (written : List ℕ) (well : RunsWell content words input status written)
    {S : Type 0} (answers : S → ℕ → Option (List ℕ) → List ℕ → S → Type 0) (closes : S → List ℕ → Type 0) (start last : S) (mid : Streams) (outcome : Result Answer CommandFault)
    (same_input : well.after.streams.input ≡ mid.input) (ends : Ends outcome mid.output well.after.streams.output well.before.errors well.after.errors status) where
  pub ended_well : {T : Type 0} (end : T) (done : Bool) (is : IsStreamed (Ok end) MAX_PIECE answers closes start last well.before.streams mid) → IsEnded done outcome
      → (is.input ≡ input) × (written ≡ is.comes_to.text ++ is.comes_to.closing) × (status ≡ status_at done)
  ended_well end done is answer =
      let all = is.comes_to in
      let whole : List ℕ = all.text ++ all.closing in
      let ended = ended_as done outcome mid.output well.after.streams.output well.before.errors well.after.errors status well.was_written answer ends in (
        all_read well.before.streams.input.left mid.input.left input is.input well.given is.was_read all.at_end,
        written_is well.before.streams.output.written mid.output.written well.after.streams.output.written well.start written whole ended.1.0 well.empty well.wrote all.written ended.1.2 ended.1.1,
        ended.0,
      )

  pub never_broke : (T : Type 0) (fault : DriveFault) → IsStreamedFrom {T = T} answers closes start (Err fault) last well.before.streams mid → IsEndAnswer (Err fault) outcome → ⊥
  never_broke T NotRead is answer = absurd (let failed : true ≡ false = sym is.comes_to.0 ∙ sym (ap (λ i. i.failed) same_input) ∙ well.was_read in cc failed)
  never_broke T NotWritten is answer =
      let same_output = write_ends outcome mid.output well.after.streams.output well.before.errors well.after.errors status answer ends in
      absurd (let failed : true ≡ false = sym is.comes_to.0 ∙ sym (ap (λ (o : Output). o.failed) same_output) ∙ well.was_written in cc failed)
  never_broke T TooLong is answer =
      let less = fewer well.before.streams.input.left mid.input.left input is.input well.given is.was_read in
      absurd (omega (arith, less, few, is.comes_to.0))
  never_broke T OutOfMemory is answer = absurd (well.not_out_of_memory (memory_ends outcome mid.output well.after.streams.output well.before.errors well.after.errors status answer ends))

pub so_far_of : (p : PlannedShop) (v : VerifiedPlan) (state : SessionState) (end : DriveEnd) → v.planned ≡ p → IsEndOf v state end → IsSoFar p state.log.entries end.done end.last end.left
so_far_of p v state end same is =
    subst (λ q. IsSoFar q state.log.entries end.done end.last end.left) same (subst (λ (l : Noted). IsSoFar v.planned l.entries end.done end.last end.left) is.log is.so_far)

module _ (content : List ℕ → Result (List ℕ) CommandFault) (words : List (List ℕ)) (p : PlannedShop) (input : List ℕ) (few : length input ≤ MAX_INPUT)
    (status : ℕ) (written : List ℕ) (well : RunsWell content words input status written) where
  drive_wrote : (protocol : Protocol) (v : VerifiedPlan) (mid : Streams) (outcome : Result Answer CommandFault) (end : Result DriveEnd DriveFault) → v.planned ≡ p
      → IsDriveIn protocol v well.before.streams mid end → IsEndAnswer (end_of_drive end) outcome → well.after.streams.input ≡ mid.input
      → Ends outcome mid.output well.after.streams.output well.before.errors well.after.errors status → Wrote p protocol input status written
  drive_wrote protocol v mid outcome (Ok end) same is answer same_input ends =
      let all = is.streamed.comes_to in
      let whole : List ℕ = all.text ++ all.closing in
      let ended = ended_well content words input few status written well SessionAnswer SessionCloses (session_start protocol v) is.end mid outcome same_input ends end end.done is.streamed answer in
      let answered : IsProtocolText p protocol is.streamed.input whole (seen is.end) = subst (λ q. IsProtocolText q protocol is.streamed.input whole (seen is.end)) same (driven_text v protocol end well.before.streams mid is) in
      record {
        state = seen is.end;
        done = end.done;
        last = end.last;
        left = end.left;
        is_text = subst (λ xs. IsProtocolText p protocol input xs (seen is.end)) (sym ended.1) (subst (λ xs. IsProtocolText p protocol xs whole (seen is.end)) ended.0 answered);
        so_far = so_far_of p v is.end end same is.came_to;
        own = ended.2;
      }
  drive_wrote protocol v mid outcome (Err fault) same is answer same_input ends =
      absurd (never_broke content words input few status written well SessionAnswer SessionCloses (session_start protocol v) is.end mid outcome same_input ends DriveEnd fault is.streamed answer)

  cell_wrote : (protocol : Protocol) (mid : Streams) (outcome : Result Answer CommandFault) → ((v : VerifiedPlan) × (v.planned ≡ p) × DrivesCell protocol v well.before.streams mid outcome) ⊎ (outcome ≡ Err Memory)
      → well.after.streams.input ≡ mid.input → Ends outcome mid.output well.after.streams.output well.before.errors well.after.errors status → Wrote p protocol input status written
  cell_wrote protocol mid outcome (inl (v, same, cell)) same_input ends = drive_wrote protocol v mid outcome cell.end same cell.is cell.answer same_input ends
  cell_wrote protocol mid outcome (inr none) same_input ends =
      absurd (well.not_out_of_memory (memory_ends outcome mid.output well.after.streams.output well.before.errors well.after.errors status none ends))

  pub follows_wrote : (inputs : InputPaths) (read : Result Chosen WordsFault) → AskForDrive words inputs → ParseAsPlan content inputs p → IsWellShaped p → IsAcceptable p → AreWordsRead words read
      → Follows (Shelf content) read well.before status well.after well.log → Wrote p (protocol_of words) input status written
  follows_wrote inputs (Ok chosen) ask good shaped acceptable are follows =
      let name : chosen.name ≡ Drive = same_command chosen.name Drive (are.chosen.name ∙ ask.drive) in
      let protocol = protocol_of words in
      let unlogged : RunsCommand (Shelf content) chosen.name chosen well.before.texts well.before.streams follows.outcome well.after.texts follows.mid =
      (subst (λ (l : Option (List ℕ)). RunsChosen (Shelf content) l chosen well.before follows.outcome follows.mid well.after well.log) (no_log words inputs chosen ask are.chosen)
      (apart_runs (Shelf content) chosen well.before follows.outcome follows.mid well.after well.log (no_log_given words inputs chosen ask name are.chosen) follows.runs)).0 in
      let runs : RunsDrive (Shelf content) (protocol_in chosen) (inputs_in chosen) well.before.texts well.before.streams follows.outcome well.after.texts follows.mid =
      subst (λ n. RunsCommand (Shelf content) n chosen well.before.texts well.before.streams follows.outcome well.after.texts follows.mid) name unlogged in
      let drive : RunsDrive (Shelf content) protocol inputs [] well.before.streams follows.outcome well.after.texts follows.mid =
      subst (λ (q : InputPaths). RunsDrive (Shelf content) protocol q [] well.before.streams follows.outcome well.after.texts follows.mid) (same_pair words inputs chosen ask are.chosen)
      (subst (λ (m : Protocol). RunsDrive (Shelf content) m (inputs_in chosen) [] well.before.streams follows.outcome well.after.texts follows.mid) (same_manner words chosen are.chosen)
      (subst (λ (asked : List (List ℕ)). RunsDrive (Shelf content) (protocol_in chosen) (inputs_in chosen) asked well.before.streams follows.outcome well.after.texts follows.mid) well.unasked runs)) in
      cell_wrote protocol follows.mid follows.outcome (driven_or_not (good_drive content inputs p good protocol well.before.streams follows.mid follows.outcome well.after.texts shaped acceptable drive)) follows.input
      (subst (λ (n : CommandName). EndsBy (draws n chosen.svg) follows.outcome follows.mid.output well.after.streams.output well.before.errors well.after.errors status) name
      (own_ends chosen follows.outcome _ _ _ _ follows.own status well.log (no_log words inputs chosen ask are.chosen) follows.status_is follows.ends))
  follows_wrote inputs (Err (Usage help text)) ask good shaped acceptable are follows =
      absurd (let named = subst (λ kinds. NamesOneOf kinds (Usage help text)) ask.accepted are.refused in named.1)
  follows_wrote inputs (Err NoWordsMemory) ask good shaped acceptable are follows = absurd (well.not_out_of_memory (memory_status well.before.errors well.after.errors status follows.0.1))

-- ---- two runs

pub same_truth : (a b : Bool) → (IsTrue a → IsTrue b) → (IsTrue b → IsTrue a) → b ≡ a
same_truth true true there back = refl
same_truth true false there back = absurd (let bad : false ≡ true = there refl in cc bad)
same_truth false true there back = absurd (let bad : false ≡ true = back refl in cc bad)
same_truth false false there back = refl

-- the same events have come as far
pub same_done : (p : PlannedShop) (one two : DrivenCell) (done also : Bool) (last last_too left left_too : ℕ) → IsSoFar p one.entries done last left → IsSoFar p two.entries also last_too left_too → two ≡ one → also ≡ done
same_done p one two done also last last_too left left_too so_far so_far_too same =
    let entries : two.entries ≡ one.entries = ap (λ (d : DrivenCell). d.entries) same in
    let counted : IsTrue also ↔ (reports_in (events_of one.entries) ≡ stated_number p) = subst (λ es. IsTrue also ↔ (reports_in (events_of es) ≡ stated_number p)) entries so_far_too.counted in
    same_truth done also (λ yet. counted.1 (so_far.counted.0 yet)) (λ yet. so_far.counted.1 (counted.0 yet))

pub wrote_the_same : (p : PlannedShop) (protocol : Protocol) (input : List ℕ) (status other_status : ℕ) (written other : List ℕ) → IsWellShaped p → Wrote p protocol input status written → Wrote p protocol input other_status other
    → (other_status ≡ status) × (other ≡ written)
wrote_the_same p protocol input status other_status written other shaped one two =
    let same = one_answer_text p protocol input written other _ _ shaped one.is_text two.is_text in
    let done : two.done ≡ one.done = same_done p one.state two.state one.done two.done one.last two.last one.left two.left one.so_far two.so_far same.1 in
    (two.own ∙ ap status_at done ∙ sym one.own, same.0)

pub drive_writes_the_same : (content : List ℕ → Result (List ℕ) CommandFault) (words : List (List ℕ)) (inputs : InputPaths) (p : PlannedShop) (input : List ℕ) (status other_status : ℕ) (written other : List ℕ)
    → AskForDrive words inputs → ParseAsPlan content inputs p → IsWellShaped p → IsAcceptable p → length input ≤ MAX_INPUT
    → RunsWell content words input status written → RunsWell content words input other_status other → (other_status ≡ status) × (other ≡ written)
drive_writes_the_same content words inputs p input status other_status written other ask good shaped acceptable few one two =
    wrote_the_same p (protocol_of words) input status other_status written other shaped
    (follows_wrote content words p input few status written one inputs one.run.read ask good shaped acceptable one.run.is one.run.follows)
    (follows_wrote content words p input few other_status other two inputs two.run.read ask good shaped acceptable two.run.is two.run.follows)
