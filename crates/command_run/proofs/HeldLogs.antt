-- What is held after a run with a log.
use Rattle.std.proofs.Common.{◌≡◌, ◌⊎◌, ℕ, List, [], Bool, false, true, inl, inr, option_map, Option, None, Some, IfSome, Result, Ok, Err, IfOk, sym, subst, refl}
use Rattle.std.specs.Prelude.{IsOk, MatchOption, is_some}
use Rattle.text_lines.specs.Lines.{ended_lines}
use Rattle.shop_base.specs.Plan.{PlannedShop}
use Rattle.plan_verifier.specs.declared.verdict.Verdict.{Verdict}
use Rattle.plan_verifier.specs.declared.verdict.Verdict.TheVariants.{Accepted, Refused}
use Rattle.plan_verifier.specs.Accepted.{IsAcceptable}
use Rattle.plan_verifier.specs.Seen.{judged}
use Rattle.plan_verifier.specs.Verdicts.{OnAccepted, OnRefused, IsReason}
use Rattle.byte_streams.specs.declared.drive_fault.DriveFault.{DriveFault}
use Rattle.cell_drive.specs.declared.begin.DriveEnd.{DriveEnd}
use Rattle.cell_drive.specs.declared.resume.RestEnd.{RestEnd}
use Rattle.cell_tables.specs.declared.entry.Entry.{Entry}
use Rattle.event_lines.specs.LogLines.{LinesParse}
use Rattle.event_lines.specs.RunDigits.{plan_line}
use Rattle.run_log.proofs.SixteenDigits.{digits_are}
use Rattle.run_journal.specs.declared.file_fault.FileFault.{FileFault}
use Rattle.run_journal.specs.declared.file_fault.FileFault.TheVariants.{Log}
use Rattle.run_journal.specs.Folders.{Folder, NamedLog, IsOpenFault, handed, with_fault, with_log}
use Rattle.run_journal.specs.LogFiles.{IsReadFault, Leaves}
use Rattle.run_journal.specs.Logged.{Held, StayInStep}
use Rattle.run_journal.specs.Openings.{IsLogFound, IsOfLog, IsUnmade, IsUnnamed}
use Rattle.run_journal.specs.WholeLines.{whole_lines}
use Rattle.run_journal.proofs.NamedLogs.{logs_before, plan_parses, whole_plan}
use Rattle.run_journal.proofs.Fronts.{if_some-at, if_some-map}
use Rattle.logged_drive.specs.CrashLaw.{IsRecoveredAfter}
use Rattle.logged_drive.specs.LoggedRuns.{IsAllInLog, KeepsShown}
use Rattle.command_answers.specs.declared.answer.Answer.{Answer}
use Rattle.command_answers.specs.declared.command_fault.CommandFault.{CommandFault}
use Rattle.command_run.specs.Drives.{end_of_drive}
use Rattle.command_run.specs.Resumes.{end_of_rest}
use Rattle.command_run.specs.Logs.{Found, IsEmptyLog, IsFoundLog, IsHeldAfter, IsLoggedAnswer, IsNewLogFault, IsHistoryOfNew, KeepsInLog, LogEnd, Unlined, Unread, WithLog, digits_in, is_driven, left_if}

-- where none is
pub none_held : {D : Type 0} (seen : D → Option (List ℕ)) (crash_states : D → List ℕ → Type 0) (fault : D → Option FileFault) (written : D → Bool) (known : Option (List ℕ × List ℕ)) (printed : Option (List ℕ)) (good : Type 0) (done : Option LogEnd → Type 0)
    → done None → WithLog seen crash_states fault written known printed good None done
none_held seen crash_states fault written known printed good done is = record { end = None; is = is; held = tt }

-- what was done is something else, too
pub held_as : {D : Type 0} (seen : D → Option (List ℕ)) (crash_states : D → List ℕ → Type 0) (fault : D → Option FileFault) (written : D → Bool) (known : Option (List ℕ × List ℕ)) (printed : Option (List ℕ)) (good : Type 0) (log : Option D)
    (one other : Option LogEnd → Type 0) → ((end : Option LogEnd) → one end → other end) → WithLog seen crash_states fault written known printed good log one → WithLog seen crash_states fault written known printed good log other
held_as seen crash_states fault written known printed good log one other becomes done = record { end = done.end; is = becomes done.end done.is; held = done.held }

-- all that is said of a log with which a cell was driven
module _ (seen : Option (List ℕ)) (crash_states : List ℕ → Type 0) (printed : Option (List ℕ)) (good : Type 0) (p : PlannedShop) (events : List Entry) (held : Held) where
  pub keeps_in_log : (known : Option (List ℕ × List ℕ)) → StayInStep known seen crash_states held → IfSome known (λ t. KeepsShown t.0 t.1 crash_states printed)
      → IfSome known (λ t. IsRecoveredAfter p events t.1 crash_states printed) → (good → IfSome known (λ t. IsAllInLog t.0 t.1 seen crash_states printed)) → IfSome known (KeepsInLog seen crash_states printed good p events held)
  keeps_in_log None steps crash up all = tt
  keeps_in_log (Some t) steps crash up all = record { in_step = steps; crash = crash; recoverable = up; in_log = all }

-- at a good end what is said of each end of the input
at_good_end : {X : Type 0} (log_failed : Bool) (done : Result Bool DriveFault) (outcome : Result Answer CommandFault) → IsLoggedAnswer log_failed done outcome → IfOk done (λ _. X) → IsOk outcome → X
at_good_end log_failed (Ok done) outcome answer x good = x
at_good_end log_failed (Err fault) outcome answer x good = absurd (cc (subst IsOk answer good))

pub driven_to_end : {X : Type 0} (log_failed : Bool) (end : Result DriveEnd DriveFault) (outcome : Result Answer CommandFault) → IsLoggedAnswer log_failed (end_of_drive end) outcome → IfOk end (λ _. X) → IsOk outcome → X
driven_to_end log_failed (Ok end) outcome answer x good = x
driven_to_end log_failed (Err fault) outcome answer x good = at_good_end log_failed (Err fault) outcome answer x good

pub gone_on_to_end : {X : Type 0} (log_failed : Bool) (end : Result RestEnd DriveFault) (outcome : Result Answer CommandFault) → IsLoggedAnswer log_failed (end_of_rest end) outcome → IfOk end (λ _. X) → IsOk outcome → X
gone_on_to_end log_failed (Ok end) outcome answer x good = x
gone_on_to_end log_failed (Err fault) outcome answer x good = at_good_end log_failed (Err fault) outcome answer x good

-- a log with the line of the plan alone has whole lines alone, and records no event
pub line_whole : (p : PlannedShop) (known : Option (List ℕ × List ℕ)) → IfSome known (λ t. t.0 ≡ plan_line (digits_in p)) → IfSome known (λ t. whole_lines t.0 ≡ t.0)
line_whole p None line = tt
line_whole p (Some t) line = subst (λ (l : List ℕ). whole_lines l ≡ l) (sym line) (whole_plan (digits_in p))

pub line_unprinted : (p : PlannedShop) (known : Option (List ℕ × List ℕ)) → IfSome known (λ t. t.0 ≡ plan_line (digits_in p)) → IfSome known (λ t. LinesParse p (ended_lines t.0) [])
line_unprinted p None line = tt
line_unprinted p (Some t) line = subst (λ (l : List ℕ). LinesParse p (ended_lines l) []) (sym line) (plan_parses p (digits_in p) (digits_are p.shop p.plan))

-- the plan that a verdict is on
pub judged_plan : (p : PlannedShop) (verdict : Verdict) → OnAccepted (λ verified. (verified.planned ≡ p) × IsAcceptable p) verdict → OnRefused (λ back why. (back ≡ p) × IsReason p why) verdict → judged verdict ≡ p
judged_plan p (Accepted verified) accepted refused = accepted.0
judged_plan p (Refused back why) accepted refused = refused.0

-- one that was opened and has no bytes is left so
pub undriven : (there : Bool) → false ≡ is_driven (left_if there)
undriven true = refl
undriven false = refl

pub left_held : {D : Type 0} (seen : D → Option (List ℕ)) (crash_states : D → List ℕ → Type 0) (fault : D → Option FileFault) (written : D → Bool) (folder : Folder) (p : PlannedShop) (known : Option (List ℕ × List ℕ)) (start printed : Option (List ℕ)) (good : Type 0)
    (opened : Option D) → IfSome opened (λ log. IsEmptyLog (seen log) (crash_states log) (fault log) (written log) folder) → IfSome known (IsHistoryOfNew folder p start)
    → IsHeldAfter seen crash_states fault written known printed good opened (left_if (is_some opened))
left_held seen crash_states fault written folder p known start printed good None empty is_new = tt
left_held seen crash_states fault written folder p known start printed good (Some log) empty is_new =
    (empty.ready.unfailed, empty.unwritten, if_some-map known (λ t is. (if_some-at folder.logs is.logs (λ _. seen log ≡ Some []) is.there empty.known, empty.ready.durable)) is_new)

-- so is one that was found, with its bytes
pub undriven_found : (there : Option (List ℕ)) → false ≡ is_driven (option_map Found there)
undriven_found None = refl
undriven_found (Some bytes) = refl

pub found_held : {D : Type 0} (seen : D → Option (List ℕ)) (crash_states : D → List ℕ → Type 0) (fault : D → Option FileFault) (written : D → Bool) (folder : Folder) (known : Option (List ℕ × List ℕ)) (printed : Option (List ℕ))
    (good : Type 0) (found : Option (D × List ℕ)) → IfSome found (λ there. IsFoundLog (seen there.0) (crash_states there.0) (fault there.0) (written there.0) folder there.1)
    → IfSome known (λ t. (logs : List NamedLog) × (folder.logs ≡ Some logs))
    → IsHeldAfter seen crash_states fault written known printed good (option_map (λ there. there.0) found) (option_map Found (option_map (λ there. there.1) found))
found_held seen crash_states fault written folder known printed good None is logs = tt
found_held seen crash_states fault written folder known printed good (Some there) is logs =
    (is.ready.unfailed, is.unwritten, if_some-map known (λ t has. (if_some-at folder.logs has.0 (λ _. seen there.0 ≡ Some there.1) has.1 is.known, is.ready.durable)) logs)

-- where a new log can't be had
module _ {D : Type 0} (seen : D → Option (List ℕ)) (crash_states : D → List ℕ → Type 0) (fault : D → Option FileFault) (written : D → Bool) (folder after : Folder) (path : List ℕ) (p : PlannedShop) (there : Bool) (known : Option (List ℕ × List ℕ)) (start printed : Option (List ℕ)) (good : Type 0) (why : FileFault)
    (is_new : IfSome known (IsHistoryOfNew folder p start)) where
  pub record LacksHeld (log : Option D) : Type 0 where
    pub end : Option LogEnd
    pub driven : false ≡ is_driven end
    pub why_is : IsNewLogFault folder after path p there why end
    pub held : IsHeldAfter seen crash_states fault written known printed good log end

  pub lacks_held : (log : Option D) → MatchOption log (IsUnmade there path folder after why) (λ l. IsUnnamed path (digits_in p) (with_log there path folder) after (seen l) (crash_states l) (fault l) why)
      → IfSome log (λ l. fault l ≡ None → written l ≡ false) → LacksHeld log
  lacks_held None is unwritten = record { end = None; driven = refl; why_is = inl (is, refl); held = tt }
  lacks_held (Some log) (inl is) unwritten = record {
    end = Some (Found []);
    driven = refl;
    why_is = inr (inl (is.is, is.own, refl));
    held = (is.unfailed, unwritten is.unfailed, if_some-map known (λ t new. (if_some-at folder.logs new.logs (λ _. seen log ≡ Some []) new.there (logs_before there path folder (seen log ≡ Some []) is.empty), is.durable)) is_new);
  }
  lacks_held (Some log) (inr is) unwritten = record {
    end = Some (Unlined p);
    driven = refl;
    why_is = inr (inr (is.is.0, is.named, refl));
    held = (
      is.is.1,
      tt,
      if_some-map known (λ t new.
          if_some-at folder.logs new.logs (λ _. Leaves (crash_states log) 0 (plan_line (digits_in p))) new.there (logs_before there path folder (Leaves (crash_states log) 0 (plan_line (digits_in p))) is.crash)) is_new,
    );
  }

-- where one can't be opened or read
module _ {D : Type 0} (seen : D → Option (List ℕ)) (crash_states : D → List ℕ → Type 0) (fault : D → Option FileFault) (written : D → Bool) (folder after : Folder) (known : Option (List ℕ × List ℕ)) (printed : Option (List ℕ)) (good : Type 0) (why : FileFault) where
  pub record UnopenedHeld (log : Option D) : Type 0 where
    pub end : Option LogEnd
    pub driven : false ≡ is_driven end
    pub why_is : (IsOpenFault why × (after ≡ with_fault why folder) × (end ≡ None)) ⊎ (((why ≡ Log) ⊎ IsReadFault why) × (after ≡ handed folder) × (end ≡ Some (Unread why)))
    pub held : IsHeldAfter seen crash_states fault written known printed good log end

  pub unopened_held : (path : List ℕ) (log : Option D) → MatchOption log (IsOpenFault why × (after ≡ with_fault why folder)) (λ l. IsOfLog (fault l) why × (after ≡ handed folder))
      → IfSome log (λ l. IsLogFound folder path (seen l) (written l)) → UnopenedHeld log
  unopened_held path None is found = record { end = None; driven = refl; why_is = inl (is.0, is.1, refl); held = tt }
  unopened_held path (Some log) is found = record { end = Some (Unread why); driven = refl; why_is = inr (is.0.0, is.1, refl); held = (is.0.1, found.unwritten, unread known) }
    where
      unread : (o : Option (List ℕ × List ℕ)) → IfSome o (λ t. Unit {0})
      unread None = tt
      unread (Some t) = tt
