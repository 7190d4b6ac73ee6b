-- What is known of the log of a driven cell.
use Rattle.std.proofs.Common.{◌≡◌, ◌≤◌, ◌==◌, if◌then◌else◌, ℕ, suc, List, [], ◌∷◌, length, Bool, true, false, Option, None, Some, IfSome, Ok, Err, option_map, inl, inr, ap, sym, ◌∙◌, subst, arith, refl}
use Rattle.std.specs.Prelude.{is_some}
use Rattle.std.specs.Io.KnownBytes.{Keeps}
use Rattle.std.proofs.KnownBytes.{Appends-kept}
use Rattle.std.proofs.lemmas.List.{append-nil}
use Rattle.shop_base.specs.Plan.{PlannedShop}
use Rattle.text_lines.specs.declared.limits.TheConstants.{MAX_INPUT}
use Rattle.text_lines.specs.Lines.{ended_lines}
use Rattle.text_lines.proofs.NextLines.{lines_of-le}
use Rattle.byte_streams.specs.declared.drive_fault.DriveFault.TheVariants.{Write as NotWritten}
use Rattle.byte_streams.specs.Lent.{Output, output_sink}
use Rattle.cell_drive.specs.declared.protocol.Protocol.{Protocol}
use Rattle.cell_drive.specs.Recovered.{Recovered, IsRecovered, plan_of, replayed_events as events_in}
use Rattle.cell_drive.specs.{declared.resume_fault.ResumeFault.ResumeFault, ResumeFaults.IsResumeFault}
use Rattle.cell_drive.specs.declared.resume_fault.ResumeFault.TheVariants.{Run, Refused, Memory as NoMemoryToResume}
use Rattle.shop_base.specs.declared.limits.TheConstants.{MAX_MOMENT}
use Rattle.command_answers.proofs.RunFaults.{has_line}
use Rattle.cell_drive.specs.InProtocol.{IsContinuedIn, IsReplayedIn}
use Rattle.event_lines.specs.declared.run_digits.RunDigits.{RunDigits}
use Rattle.run_log.proofs.SixteenDigits.{digits_are}
use Rattle.run_journal.specs.declared.file_fault.FileFault.{FileFault}
use Rattle.run_journal.specs.Folders.{Folder, held, handed_if}
use Rattle.run_journal.specs.LogFiles.{IsDurable}
use Rattle.run_journal.specs.LogRuns.{IsNamedFor}
use Rattle.run_journal.proofs.NamedLogs.{named_parses, named_whole, whole_again}
use Rattle.run_journal.specs.WholeLines.{before_any, whole_lines}
use Rattle.run_journal.proofs.Fronts.{if_some-at}
use Rattle.logged_drive.specs.declared.recovered_log.RecoverFault.{RecoverFault}
use Rattle.logged_drive.specs.declared.recovered_log.RecoverFault.TheVariants.{Resume, NoTornEnd, File}
use Rattle.logged_drive.specs.RecoveredLogs.{IsRecoverFault}
use Rattle.command_words.specs.declared.words.log_start.LogStart.{LogStart}
use Rattle.command_run.specs.Resumes.{HasAnswer, end_of_rest}
use Rattle.command_run.specs.Logs.{Begins, DrivesFitting, DrivesFound, DrivesWithLog, HasFewLines, IsEmptyLog, IsFoundLog, IsRecoveredFromLog, IsHistoryOf, IsHistoryOfFound, IsHistoryOfNew, IsHistoryOfOld, IsHistoryOfPath, Step, RecoversRun, digits_in}

-- ---- what is replayed

pub never_shown : (protocol : Protocol) (t run : Recovered) (before mid after : Output) → IsReplayedIn protocol t (output_sink before) (output_sink mid) (Ok run) → Keeps mid.written after.written → after.failed ≡ true
    → IsReplayedIn {T = Recovered} protocol t (output_sink before) (output_sink after) (Err NotWritten)
never_shown protocol t run before mid after is kept failed = (failed, ([], record { out = _; took = Appends-kept _ _ _ _ is.0 kept; whole = append-nil _ }))

-- what goes on is what was recovered
pub same_run : (protocol : Protocol) (t run : Recovered) (step : Step) → run ≡ t → DrivesWithLog (plan_of run) (events_in run) (IsContinuedIn protocol run) end_of_rest step
    → DrivesWithLog (plan_of t) (events_in t) (IsContinuedIn protocol t) end_of_rest step
same_run protocol t run step same is = subst (λ (x : Recovered). DrivesWithLog (plan_of x) (events_in x) (IsContinuedIn protocol x) end_of_rest step) same is

-- ---- the whole lines of a log

-- one byte before the whole lines of the others
abbrev with_byte : Bool → ℕ → List ℕ → List ℕ
with_byte feed byte lines = if feed then byte ∷ lines else before_any byte lines

with_byte_length : (feed : Bool) (byte : ℕ) (lines : List ℕ) (n : ℕ) → length lines ≤ n → length (with_byte feed byte lines) ≤ suc n
with_byte_length true byte lines n few = omega (arith, few)
with_byte_length false byte [] n few = omega arith
with_byte_length false byte (x ∷ xs) n few = omega (arith, few)

whole_length : (bytes : List ℕ) → length (whole_lines bytes) ≤ length bytes
whole_length [] = omega arith
whole_length (byte ∷ bytes) = with_byte_length (byte == 10) byte (whole_lines bytes) (length bytes) (whole_length bytes)

module _ (p : PlannedShop) (protocol : Protocol) (at : Option ℕ) (text : List ℕ) (printed : Option (List ℕ)) where
  pub old_recovered : (known : Option (List ℕ × List ℕ)) → IfSome known (IsHistoryOfOld p protocol at text printed) → (t : Recovered) → IsRecovered p (ended_lines (whole_lines text)) at t → IfSome known (λ b. IsRecoveredFromLog t b.0)
  old_recovered None is t up = tt
  old_recovered (Some b) is t up =
      let lines = whole_lines text in
      let whole = whole_again text in
      let again : IsRecovered p (ended_lines b.0) at t = record {
        recorded = up.recorded;
        parses = named_parses p (digits_in p) lines b.0 up.recorded (digits_are p.shop p.plan) whole is.log up.parses;
        is_run = up.is_run;
        recovered_from = up.recovered_from;
      } in (
        named_whole (digits_in p) lines b.0 whole is.log,
        at,
        subst (λ (q : PlannedShop). IsRecovered q (ended_lines b.0) at t) (sym up.recovered_from.planned) again,
      )

-- two logs that are named for the same digits have the same bytes
pub named_same : (digits : RunDigits) (lines one other : List ℕ) → IsNamedFor digits lines one → IsNamedFor digits lines other → one ≡ other
named_same digits lines one other (inl is) (inl also) = is.1 ∙ sym also.1
named_same digits lines one other (inl is) (inr also) = absurd (also.0 is.0)
named_same digits lines one other (inr is) (inl also) = absurd (is.0 also.0)
named_same digits lines one other (inr is) (inr also) = is.1 ∙ sym also.1

-- what the log has once it is recovered is what is known of it
pub old_named : (p : PlannedShop) (protocol : Protocol) (at : Option ℕ) (text : List ℕ) (printed seen now : Option (List ℕ)) (known : Option (List ℕ × List ℕ))
    → IfSome known (λ b. (seen ≡ Some text) × IsHistoryOfOld p protocol at text printed b) → IfSome seen (λ file. (base : List ℕ) × IsNamedFor (digits_in p) (whole_lines file) base × (now ≡ Some base)) → IfSome known (λ b. now ≡ Some b.0)
old_named p protocol at text printed seen now None is named = tt
old_named p protocol at text printed seen now (Some b) is named =
    let has = subst (λ (s : Option (List ℕ)). IfSome s (λ file. (base : List ℕ) × IsNamedFor (digits_in p) (whole_lines file) base × (now ≡ Some base))) is.0 named in
    has.2 ∙ ap Some (named_same (digits_in p) (whole_lines text) has.0 b.0 has.1 is.1.log)

-- there is an answer for each fault, as the moment that is given isn't past the latest
pub has_answer : (p : PlannedShop) (lines : List (List ℕ)) (at : Option ℕ) (fault : ResumeFault) → IfSome at (λ n. n ≤ MAX_MOMENT) → IsResumeFault p lines at fault → HasAnswer fault
has_answer p lines at (Run fault) early is = has_line at lines p early fault is
has_answer p lines at (Refused back why) early is = tt
has_answer p lines at NoMemoryToResume early is = tt

pub few_lines : (p : PlannedShop) (at : Option ℕ) (text : List ℕ) (fault : RecoverFault) → IfSome at (λ n. n ≤ MAX_MOMENT) → length text ≤ MAX_INPUT → IsRecoverFault p text at fault → HasFewLines fault
few_lines p at text (Resume fault) early few is = has_answer p (ended_lines (whole_lines text)) at fault early is.0
few_lines p at text (NoTornEnd lines) early few is = (let count = lines_of-le (whole_lines text) in let whole = whole_length text in omega (arith, is.2, count, whole, few))
few_lines p at text (File fault) early few is = tt

-- ---- what follows the opening of the log

-- what is known of the folder is known of it once a log was opened
logs_handed : (there : Bool) (folder : Folder) → (handed_if there folder).logs ≡ folder.logs
logs_handed true folder = refl
logs_handed false folder = refl

module _ (folder folder_after : Folder) (path : List ℕ) (protocol : Protocol) (at : Option ℕ) (p : PlannedShop) (step : Step) where
  pub empty_begins : (text : List ℕ) → text ≡ [] → Begins folder folder_after path protocol p true step → DrivesFitting folder folder_after path protocol at p (Some text) step
  empty_begins text empty is = subst (λ (xs : List ℕ). DrivesFitting folder folder_after path protocol at p (Some xs) step) (sym empty) is

  pub bytes_written : (text : List ℕ) → (text ≡ [] → ⊥) → RecoversRun p protocol at text step → folder_after ≡ folder → DrivesFitting folder folder_after path protocol at p (Some text) step
  bytes_written [] some is same = absurd (some refl)
  bytes_written (byte ∷ bytes) some is same = (is, same)

module _ (folder : Folder) (p : PlannedShop) (protocol : Protocol) (at : Option ℕ) (printed : Option (List ℕ)) (t : List ℕ × List ℕ) where
  pub new_known : (text : List ℕ) → text ≡ [] → IsHistoryOf folder p protocol at (Some text) printed t → IsHistoryOfNew folder p printed t
  new_known text empty is = subst (λ (xs : List ℕ). IsHistoryOf folder p protocol at (Some xs) printed t) empty is

  pub old_known : (text : List ℕ) → (text ≡ [] → ⊥) → IsHistoryOf folder p protocol at (Some text) printed t → IsHistoryOfOld p protocol at text printed t
  old_known [] some is = absurd (some refl)
  old_known (byte ∷ bytes) some is = is

  replayed_events : (mid : Folder) (there : Option (List ℕ)) → mid.logs ≡ folder.logs → IsHistoryOf folder p protocol at there printed t → IsHistoryOf mid p protocol at there printed t
  replayed_events mid None same is = record { logs = is.logs; there = same ∙ is.there; log = is.log; output = is.output }
  replayed_events mid (Some []) same is = record { logs = is.logs; there = same ∙ is.there; log = is.log; output = is.output }
  replayed_events mid (Some (byte ∷ bytes)) same is = is

-- so is what was found by the path
pub path_known : {D : Type 0} (folder mid : Folder) (path : List ℕ) (p : PlannedShop) (protocol : Protocol) (at : Option ℕ) (printed : Option (List ℕ)) (found : Option (D × List ℕ)) → mid ≡ handed_if (is_some found) folder
    → IfSome folder.logs (λ logs. option_map (λ there. there.1) found ≡ held logs path) → (t : List ℕ × List ℕ) → IsHistoryOfPath folder path p protocol at printed t
    → IsHistoryOfFound mid p protocol at (option_map (λ there. there.1) found) printed t
path_known folder mid path p protocol at printed found opened there t is =
    let same : mid.logs ≡ folder.logs = ap (λ (f : Folder). f.logs) opened ∙ logs_handed (is_some found) folder in
    let here = if_some-at folder.logs is.logs (λ logs. option_map (λ there. there.1) found ≡ held logs path) is.there there in
    record {
      logs = is.logs;
      in_folder = same ∙ is.there;
      is = replayed_events folder p protocol at printed t mid (option_map (λ there. there.1) found) same (subst (λ (o : Option (List ℕ)). IsHistoryOf folder p protocol at o printed t) (sym here) is.is);
    }

-- ---- the log that was found

read_empty : (seen : Option (List ℕ)) (text : List ℕ) → text ≡ [] → IfSome seen (λ file. text ≡ file) → IfSome seen (λ file. file ≡ [])
read_empty None text empty read = tt
read_empty (Some file) text empty read = sym read ∙ empty

module _ (seen : Option (List ℕ)) (crash_states : List ℕ → Type 0) (fault : Option FileFault) (written : Bool) (folder : Folder) where
  pub empty_found : (text : List ℕ) → text ≡ [] → IsFoundLog seen crash_states fault written folder text → IsEmptyLog seen crash_states fault written folder
  empty_found text empty is = record {
    ready = is.ready;
    unwritten = is.unwritten;
    empty = read_empty seen text empty is.read;
    known = subst (λ (xs : List ℕ). IfSome folder.logs (λ _. seen ≡ Some xs)) empty is.known;
  }

pub opened_found : {D : Type 0} (seen : D → Option (List ℕ)) (crash_states : D → List ℕ → Type 0) (fault : D → Option FileFault) (written : D → Bool) (folder mid : Folder) (found : Option (D × List ℕ)) → mid ≡ handed_if (is_some found) folder
    → IfSome found (λ there. IfSome (seen there.0) (λ file. there.1 ≡ file)) → IfSome found (λ there. length there.1 ≤ MAX_INPUT) → IfSome found (λ there. IsDurable (seen there.0) (crash_states there.0))
    → IfSome found (λ there. fault there.0 ≡ None) → IfSome found (λ there. written there.0 ≡ false)
    → IfSome found (λ there. IfSome folder.logs (λ _. seen there.0 ≡ Some there.1)) → IfSome found (λ there. IsFoundLog (seen there.0) (crash_states there.0) (fault there.0) (written there.0) mid there.1)
opened_found seen crash_states fault written folder mid None opened read within durable unfailed unwritten known = tt
opened_found seen crash_states fault written folder mid (Some there) opened read within durable unfailed unwritten known = record {
  ready = record { durable = durable; unfailed = unfailed };
  unwritten = unwritten;
  read = read;
  within = within;
  known = subst (λ (f : Folder). IfSome f.logs (λ _. seen there.0 ≡ Some there.1)) (sym opened) known;
}

-- the folder in which it was opened
pub found_in_folder : {D : Type 0} (folder mid after : Folder) (path : List ℕ) (start : LogStart) (protocol : Protocol) (at : Option ℕ) (p : PlannedShop) (step : Step) (found : Option (D × List ℕ)) → mid ≡ handed_if (is_some found) folder
    → DrivesFound mid after path start protocol at p (option_map (λ there. there.1) found) step
    → DrivesFound (handed_if (is_some (option_map (λ there. there.1) found)) folder) after path start protocol at p (option_map (λ there. there.1) found) step
found_in_folder folder mid after path start protocol at p step None opened drives = subst (λ (f : Folder). DrivesFound f after path start protocol at p None step) opened drives
found_in_folder folder mid after path start protocol at p step (Some there) opened drives = subst (λ (f : Folder). DrivesFound f after path start protocol at p (Some there.1) step) opened drives
