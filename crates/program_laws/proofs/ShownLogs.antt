-- Runs whose output goes to the log that the command is given, and those that are given none.
use Rattle.std.proofs.Common.{◌≡◌, ℕ, ◌⊎◌, ◌++◌, List, [], Bool, true, false, Option, Some, None, Result, Err, inl, inr, append-nil, ap, sym, ◌∙◌, subst, refl}
use Rattle.std.proofs.lemmas.List.{append_cancel_left}
use Rattle.command_words.specs.declared.words.Chosen.{Chosen}
use Rattle.command_answers.specs.declared.answer.Answer.{Answer}
use Rattle.command_answers.specs.declared.command_fault.CommandFault.{CommandFault}
use Rattle.command_answers.specs.declared.command_fault.CommandFault.TheVariants.{Log}
use Rattle.command_run.specs.Streams.{Devices, Streams, Errors, Output}
use Rattle.command_run.specs.Ending.{Ends, IsFaultPrinted}
use Rattle.command_run.specs.Logs.{LogEnd}
use Rattle.command_run.specs.Program.{IsOutputLog, RunsApart, RunsBy, RunsChosen, given_log_in, kept_log_in, status_by}
use Rattle.command_run.specs.Laws.{RunsWell, Shelf}

module _ {W : Type 0} (gives : W → List ℕ → Result (List ℕ) CommandFault → W → Type 0) (chosen : Chosen) (before : Devices W) (outcome : Result Answer CommandFault) (mid : Streams) (after : Devices W) (log : Option LogEnd) where
  -- a command that is given no log is run
  pub apart_runs : given_log_in chosen ≡ None → RunsApart gives chosen before outcome mid after log → RunsChosen gives (kept_log_in chosen) chosen before outcome mid after log
  apart_runs none runs = by runs.shown (subst (λ (l : Option (List ℕ)). IsOutputLog l before.folder runs.shown) none runs.known) runs.by
    where
      by : (shown : Bool) → shown ≡ false → RunsBy gives shown chosen before outcome mid after log → RunsChosen gives (kept_log_in chosen) chosen before outcome mid after log
      by true never refused = absurd (cc never)
      by false never run = run

-- its status is 5
log_status : (before after : Errors) (status : ℕ) → IsFaultPrinted Log before after status → status ≡ 5
log_status before after status (inl out) = out.own
log_status before after status (inr (text, out)) = absurd text

pub log_ends : (outcome : Result Answer CommandFault) (before after : Output) (printed_before printed_after : Errors) (status : ℕ) → outcome ≡ Err Log → Ends outcome before after printed_before printed_after status
    → (after ≡ before) × (status ≡ 5)
log_ends outcome before after printed_before printed_after status is ends =
    let failed = subst (λ (o : Result Answer CommandFault). Ends o before after printed_before printed_after status) is ends in
    (failed.0, log_status printed_before printed_after status failed.1)

-- also where the command keeps a log
pub kept_status : (path : List ℕ) (log : Option LogEnd) (outcome : Result Answer CommandFault) (own : ℕ) → outcome ≡ Err Log → own ≡ 5 → status_by (Some path) log outcome own ≡ 5
kept_status path log outcome own is five =
    subst (λ (o : Result Answer CommandFault). status_by (Some path) log o own ≡ 5) (sym is) (subst (λ (n : ℕ). status_by (Some path) log (Err Log) n ≡ 5) (sym five) refl)

-- and nothing was written
pub wrote_nothing : (content : List ℕ → Result (List ℕ) CommandFault) (words : List (List ℕ)) (input : List ℕ) (status : ℕ) (written : List ℕ) (well : RunsWell content words input status written) (mid : Streams)
    → mid ≡ well.before.streams → well.after.streams.output ≡ mid.output → written ≡ []
wrote_nothing content words input status written well mid same after =
    let output : well.after.streams.output ≡ well.before.streams.output = after ∙ ap (λ (s : Streams). s.output) same in
    let known : Some (well.start ++ written) ≡ Some well.start = sym well.wrote ∙ ap (λ (o : Output). o.written) output ∙ well.empty in
    let bytes : well.start ++ written ≡ well.start = cc known in
    append_cancel_left well.start written [] (bytes ∙ sym (append-nil well.start))

module _ (content : List ℕ → Result (List ℕ) CommandFault) (words : List (List ℕ)) (input : List ℕ) (status : ℕ) (written : List ℕ) (well : RunsWell content words input status written)
    (chosen : Chosen) (log : List ℕ) (outcome : Result Answer CommandFault) (mid : Streams) where
  -- a command that is given this log is run, unless the output goes to that
  pub run_or_shown : given_log_in chosen ≡ Some log → RunsApart (Shelf content) chosen well.before outcome mid well.after well.log
      → (IsOutputLog (Some log) well.before.folder true × (outcome ≡ Err Log) × (mid ≡ well.before.streams)) ⊎ RunsChosen (Shelf content) (kept_log_in chosen) chosen well.before outcome mid well.after well.log
  run_or_shown given runs = by runs.shown (subst (λ (l : Option (List ℕ)). IsOutputLog l well.before.folder runs.shown) given runs.known) runs.by
    where
      by : (shown : Bool) → IsOutputLog (Some log) well.before.folder shown → RunsBy (Shelf content) shown chosen well.before outcome mid well.after well.log
          → (IsOutputLog (Some log) well.before.folder true × (outcome ≡ Err Log) × (mid ≡ well.before.streams)) ⊎ RunsChosen (Shelf content) (kept_log_in chosen) chosen well.before outcome mid well.after well.log
      by true known refused = inl (known, refused.0, refused.1)
      by false known run = inr run
