-- What a run with a log comes to.
use Rattle.std.proofs.Common.{◌≡◌, ℕ, List, [], ◌++◌, Option, Some, IfSome, Bool, true, false, Result, Ok, Err, IfOk, inl, inr, ap, ◌∙◌, subst}
use Rattle.std.specs.{Prelude.OnOk, Io.KnownBytes.append_known}
use Rattle.byte_streams.specs.declared.drive_fault.DriveFault.{DriveFault, TheVariants.{Memory, Write}}
use Rattle.byte_streams.specs.Lent.{Input, Output, Streams}
use Rattle.plan_verifier.specs.Accepted.{VerifiedPlan}
use Rattle.cell_drive.specs.declared.{protocol.Protocol.Protocol, begin.DriveEnd.DriveEnd, resume.RestEnd.RestEnd}
use Rattle.cell_drive.specs.{Recovered.Recovered, InProtocol.{IsDriveIn, IsContinuedIn}}
use Rattle.run_journal.specs.{LogFiles.IsDurable, WholeLines.whole_lines, LoggedLines.logged}
use Rattle.run_journal.specs.{Logged.{Held, AreInitial, StayInStep}, Laws.ACrashKeepsWhatWasShown}
use Rattle.run_journal.proofs.Fronts.{if_some-at, if_some-both, if_some-map}
use Rattle.logged_drive.specs.LoggedRuns.{IsAllInLog, KeepsShown, RunsLogged, nothing_held, output_held}

-- ---- what a crash leaves

pub keeps_shown : ACrashKeepsWhatWasShown → (before : Option (List ℕ × List ℕ)) (seen : Option (List ℕ)) (crash_states : List ℕ → Type 0) (held : Held) (printed : Option (List ℕ)) → printed ≡ held.written
    → IfSome before (λ known. whole_lines known.0 ≡ known.0) → StayInStep before seen crash_states held → IfSome before (λ known. KeepsShown known.0 known.1 crash_states printed)
keeps_shown law before seen crash_states held printed is whole steps = if_some-both before (λ b base step. record {
  shown = step.shown;
  output = is ∙ step.output;
  pending = held.pending;
  crash = λ left leaves. law b.0 step.shown held.pending left base (step.crash left leaves);
}) whole steps

pub all_in_log : (before : Option (List ℕ × List ℕ)) (seen : Option (List ℕ)) (crash_states : List ℕ → Type 0) (held : Held) (printed : Option (List ℕ)) → printed ≡ held.written → held.failed ≡ false
    → IsDurable seen crash_states → StayInStep before seen crash_states held → IfSome before (λ known. IsAllInLog known.0 known.1 seen crash_states printed)
all_in_log before seen crash_states held printed is unfailed durable steps = if_some-map before (λ b step. record {
  shown = step.shown;
  output = is ∙ step.output;
  log = step.log unfailed;
  on_disk = if_some-at seen (b.0 ++ logged step.shown) (λ f. (left : List ℕ) → crash_states left → left ≡ f) (step.log unfailed) durable;
}) steps

-- what the output had accepted as the writer began
pub at_start : (before : Option (List ℕ × List ℕ)) (seen printed same : Option (List ℕ)) → same ≡ printed → AreInitial before seen printed → IfSome before (λ known. same ≡ Some known.1)
at_start before seen printed same is are = if_some-map before (λ b both. is ∙ both.1) are

-- ---- a run from the start

-- what follows of its end, follows where it has one
pub at_end : {X E : Type 0} {P Q : Type 0} (r : Result X E) → (P → Q) → OnOk r P → IfOk r (λ _. Q)
at_end (Ok x) f holds = f holds
at_end (Err e) f holds = tt

-- neither a read nor a write has failed at its end
pub unfailed : (protocol : Protocol) (v : VerifiedPlan) (before after : Streams) (outcome : Result DriveEnd DriveFault) → IsDriveIn protocol v before after outcome → OnOk outcome (after.output.failed ≡ before.output.failed)
unfailed protocol v before after (Ok end) drove = drove.streamed.comes_to.write_unfailed
unfailed protocol v before after (Err fault) drove = tt

-- a write failed, where that is its fault
pub write_failed : (protocol : Protocol) (v : VerifiedPlan) (before after : Streams) (outcome : Result DriveEnd DriveFault) → outcome ≡ Err Write → IsDriveIn protocol v before after outcome → after.output.failed ≡ true
write_failed protocol v before after outcome is drove = (let failed : IsDriveIn protocol v before after (Err Write) = subst (IsDriveIn protocol v before after) is drove in failed.streamed.comes_to.0)

-- ---- a writer that begins

module _ {T : Type 0} (drives : Streams → Streams → Result T DriveFault → Type 0) where
  fresh : (held : Held) → held.pending ≡ [] → held.failed ≡ false → output_held held ≡ output_held (nothing_held held.written)
  fresh held none unfailed =
      ap (λ (p : List ℕ). record { written = append_known held.written p; failed = held.failed; pending = p }) none
      ∙ ap (λ (f : Bool). record { written = append_known held.written []; failed = f; pending = [] }) unfailed

  pub began : (input : Input) (held : Held) (after : Streams) (outcome : Result T DriveFault) → held.pending ≡ [] → held.failed ≡ false
      → drives (record { input = input; output = output_held held }) after outcome → drives (record { input = input; output = output_held (nothing_held held.written) }) after outcome
  began input held after outcome none unfailed drove = subst (λ (o : Output). drives (record { input = input; output = o }) after outcome) (fresh held none unfailed) drove

  pub rewritten : (before : Option (List ℕ × List ℕ)) (input : Input) (printed same : Option (List ℕ)) (outcome : Result T DriveFault) (log_failed : Bool) (input_after : Input) (seen : Option (List ℕ)) (crash_states : List ℕ → Type 0) (output_after : Output)
      → printed ≡ same → RunsLogged drives before input printed outcome log_failed input_after seen crash_states output_after → RunsLogged drives before input same outcome log_failed input_after seen crash_states output_after
  rewritten before input printed same outcome log_failed input_after seen crash_states output_after is run =
      subst (λ (t : Option (List ℕ)). RunsLogged drives before input t outcome log_failed input_after seen crash_states output_after) is run

-- ---- a run that goes on

module _ (protocol : Protocol) (recovered : Recovered) (before after : Streams) where
  pub unfailed_behind : (outcome : Result RestEnd DriveFault) → IsContinuedIn protocol recovered before after outcome → OnOk outcome (after.output.failed ≡ before.output.failed)
  unfailed_behind (Ok end) (inl cut) = (let bad : Ok end ≡ Err Write = cut.0 in absurd (cc bad))
  unfailed_behind (Ok end) (inr on) = on.streamed.comes_to.write_unfailed ∙ on.unfailed
  unfailed_behind (Err fault) went = tt

  at_write : IsContinuedIn protocol recovered before after (Err Write) → after.output.failed ≡ true
  at_write (inl cut) = cut.1
  at_write (inr on) = on.streamed.comes_to.0

  pub write_failed_behind : (outcome : Result RestEnd DriveFault) → outcome ≡ Err Write → IsContinuedIn protocol recovered before after outcome → after.output.failed ≡ true
  write_failed_behind outcome is went = at_write (subst (IsContinuedIn protocol recovered before after) is went)

  at_memory : IsContinuedIn protocol recovered before after (Err Memory) → ⊥
  at_memory (inl cut) = (let bad : Err Memory ≡ Err Write = cut.0 in cc bad)
  at_memory (inr on) = on.streamed.comes_to

  -- memory doesn't run out in it
  pub no_memory_behind : (outcome : Result RestEnd DriveFault) → outcome ≡ Err Memory → IsContinuedIn protocol recovered before after outcome → ⊥
  no_memory_behind outcome is went = at_memory (subst (IsContinuedIn protocol recovered before after) is went)
