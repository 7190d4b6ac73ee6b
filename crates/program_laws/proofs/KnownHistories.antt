-- What `run` asks of the history of a log can be met.
use Rattle.std.proofs.Common.{◌≡◌, ℕ, List, [], ◌∷◌, ◌++◌, length, take, get_or, map, Bool, true, false, Option, None, Some, IfSome, Result, Ok, option_map, ap, ap₂, sym, ◌∙◌, subst}
use Rattle.std.specs.String.{string_bytes}
use Rattle.shop_base.specs.Plan.{PlannedShop}
use Rattle.shop_base.specs.Cell.{start}
use Rattle.text_lines.specs.Lines.{ended_lines}
use Rattle.cell_tables.specs.declared.entry.Entry.{Entry}
use Rattle.cell_drive.specs.declared.protocol.Protocol.{Protocol}
use Rattle.cell_drive.specs.AnswerText.{DrivenCell}
use Rattle.cell_drive.specs.Replay.{replay_lines, replay_text}
use Rattle.cell_drive.specs.Recovered.{Recovered, IsRecovered, plan_of}
use Rattle.drive_laws.proofs.Recoveries.{one_recovery}
use Rattle.event_lines.specs.RunDigits.{plan_line}
use Rattle.run_journal.specs.Folders.{Folder, NamedLog, held}
use Rattle.run_journal.specs.WholeLines.{whole_lines}
use Rattle.command_words.specs.Choice.{IsChoiceOf, found_in, rows_found, kept_in}
use Rattle.command_words.specs.declared.words.Chosen.{Chosen}
use Rattle.command_answers.specs.declared.command_fault.CommandFault.{CommandFault}
use Rattle.command_answers.specs.Commands.{InputPaths, Shapes}
use Rattle.command_answers.specs.Shapes.{IsShapedOrNot}
use Rattle.command_run.specs.Logs.{IsHistoryOf, IsHistoryOfOld, digits_in}
use Rattle.command_run.specs.Streams.{Devices}
use Rattle.command_run.specs.Program.{IsHistoryOfWords, keeps_log, kept_log_in, log_kept_by, protocol_in, inputs_in}
use Rattle.command_run.specs.Laws.{ParseAsPlan, Shelf}
use Rattle.program_laws.specs.ResumeLaw.{moment_given}
use Rattle.program_laws.specs.HistoryLaw.{AskForLog, NewLogHasHistory, OldLogHasHistory, UnrecoveredLogHasHistory, protocol_of}
use Rattle.program_laws.proofs.GoodFiles.{good_plan}
use Rattle.program_laws.proofs.SameWriting.{same_manner}

-- ---- the words

kept_some : (keeps : Bool) (log : Option (List ℕ)) (path : List ℕ) → log_kept_by keeps log ≡ Some path → log ≡ Some path
kept_some true log path is = is
kept_some false log path is = absurd (cc is)

pub asked_path : (words : List (List ℕ)) (chosen : Chosen) (path : List ℕ) → IsChoiceOf words (found_in words) chosen → kept_log_in chosen ≡ Some path → kept_in (rows_found (found_in words)) ≡ Some path
asked_path words chosen path choice kept = sym choice.log ∙ kept_some (keeps_log chosen.name) (option_map string_bytes chosen.log) path kept

pub asked_pair : (words : List (List ℕ)) (inputs : InputPaths) (log : List ℕ) (chosen : Chosen) → AskForLog words inputs log → IsChoiceOf words (found_in words) chosen → inputs_in chosen ≡ inputs
asked_pair words inputs log chosen ask is =
    let of : List ℕ → Option (List ℕ) → List ℕ → InputPaths = λ a b c. record { path = a; name = b; plan = c } in
    let files : List (List ℕ) = map string_bytes chosen.files.items in
    ap (λ a. of a (option_map string_bytes chosen.instance) (get_or files 1 [])) (ap (λ (fs : List (List ℕ)). get_or fs 0 []) is.files ∙ sym ask.path)
    ∙ ap (λ b. of inputs.path b (get_or files 1 [])) (is.instance ∙ sym ask.name) ∙ ap (λ c. of inputs.path inputs.name c) (ap (λ (fs : List (List ℕ)). get_or fs 1 []) is.files ∙ sym ask.plan)

-- ---- a new log

new_known : (folder : Folder) (logs : List NamedLog) (printed : Option (List ℕ)) (start line : List ℕ) (p : PlannedShop) (protocol : Protocol) (at : Option ℕ) (bytes : Option (List ℕ))
    → folder.logs ≡ Some logs → printed ≡ Some start → line ≡ plan_line (digits_in p) → IfSome bytes (λ l. l ≡ []) → IsHistoryOf folder p protocol at bytes printed (line, start)
new_known folder logs printed start line p protocol at None there output is none = record { logs = logs; there = there; log = is; output = output }
new_known folder logs printed start line p protocol at (Some []) there output is none = record { logs = logs; there = there; log = is; output = output }
new_known folder logs printed start line p protocol at (Some (byte ∷ bytes)) there output is none = absurd (cc none)

pub new_log_has_history : {W : Type 0} (gives : W → List ℕ → Result (List ℕ) CommandFault → W → Type 0) → NewLogHasHistory gives
new_log_has_history gives words before logs start digits there output none are chosen choice path kept p mid shapes = record {
  logs = logs;
  there = there;
  is = new_known before.folder logs before.streams.output.written start (plan_line digits) p (protocol_in chosen) chosen.at (held logs path) there output (ap plan_line (sym (are chosen p mid choice shapes)))
      (none path (asked_path words chosen path choice kept));
}

-- ---- a log with bytes

-- what is replayed of a log that was recovered is one text
same_replay : (protocol : Protocol) (p : PlannedShop) (lines : List (List ℕ)) (at : Option ℕ) (recovered other : Recovered) → IsRecovered p lines at recovered → IsRecovered p lines at other → replay_text protocol other ≡ replay_text protocol recovered
same_replay protocol p lines at recovered other up also =
    let one = one_recovery p lines at recovered other up also in
    let of : PlannedShop → List Entry → List Bool → List ℕ = λ q es fs. replay_lines q protocol (start q) (take (length fs) es) fs in
    ap₂ (λ (es : List Entry) (fs : List Bool). of (plan_of other) es fs) (ap (λ (d : DrivenCell). d.entries) one.0) one.1
    ∙ ap (λ (q : PlannedShop). of q recovered.log.entries recovered.late) (also.recovered_from.planned ∙ sym up.recovered_from.planned)

-- what is known by the plan that the files give is known by what the words choose
known_by_words : (content : List ℕ → Result (List ℕ) CommandFault) (words : List (List ℕ)) (inputs : InputPaths) (log : List ℕ) (byte : ℕ) (bytes : List ℕ) (p : PlannedShop) (before : Devices (List (List ℕ)))
    (logs : List NamedLog) (known : List ℕ × List ℕ) → AskForLog words inputs log → ParseAsPlan content inputs p → before.texts ≡ [] → before.folder.logs ≡ Some logs → held logs log ≡ Some (byte ∷ bytes)
    → IsHistoryOfOld p (protocol_of words) (moment_given words) (byte ∷ bytes) before.streams.output.written known → IsHistoryOfWords (Shelf content) words before known
known_by_words content words inputs log byte bytes p before logs known ask parse unasked there has old chosen choice path kept q mid shapes =
    let base : List ℕ = byte ∷ bytes in
    let at : Option ℕ = moment_given words in
    let here : path ≡ log = (let both : Some path ≡ Some log = sym (asked_path words chosen path choice kept) ∙ ask.kept in cc both) in
    let shapes_pair : Shapes (Shelf content) inputs [] (Ok (Ok q)) mid =
    subst (λ (r : InputPaths). Shapes (Shelf content) r [] (Ok (Ok q)) mid) (asked_pair words inputs log chosen ask choice)
    (subst (λ (asked : List (List ℕ)). Shapes (Shelf content) (inputs_in chosen) asked (Ok (Ok q)) mid) unasked shapes) in
    let same : q ≡ p = (good_plan content inputs p parse IsShapedOrNot (Ok (Ok q)) mid shapes_pair).0.0 in
    let chosen_so : IsHistoryOfOld q (protocol_in chosen) chosen.at base before.streams.output.written known =
    subst (λ (r : PlannedShop). IsHistoryOfOld r (protocol_in chosen) chosen.at base before.streams.output.written known) (sym same)
    (subst (λ (m : Protocol). IsHistoryOfOld p m chosen.at base before.streams.output.written known) (sym (same_manner words chosen choice))
    (subst (λ (a : Option ℕ). IsHistoryOfOld p (protocol_of words) a base before.streams.output.written known) (sym choice.at) old)) in
    record {
      logs = logs;
      there = there;
      is = subst (λ (b : Option (List ℕ)). IsHistoryOf before.folder q (protocol_in chosen) chosen.at b before.streams.output.written known) (sym (ap (λ (l : List ℕ). held logs l) here ∙ has)) chosen_so;
    }

pub old_log_has_history : OldLogHasHistory
old_log_has_history content words inputs log byte bytes named p recovered before logs start ask parse unasked there output has up is_named =
    let base : List ℕ = byte ∷ bytes in
    let protocol : Protocol = protocol_of words in
    known_by_words content words inputs log byte bytes p before logs (named, start ++ replay_text protocol recovered) ask parse unasked there has (record {
      log = is_named;
      output = λ other also. record {
        start = start;
        was = output;
        is = ap (λ (text : List ℕ). start ++ text) (sym (same_replay protocol p (ended_lines (whole_lines base)) (moment_given words) recovered other up also));
      };
    })

pub unrecovered_log_has_history : UnrecoveredLogHasHistory
unrecovered_log_has_history content words inputs log byte bytes named p before logs start ask parse unasked there output has never is_named =
    known_by_words content words inputs log byte bytes p before logs (named, start) ask parse unasked there has (record { log = is_named; output = λ recovered up. absurd (never recovered up) })
