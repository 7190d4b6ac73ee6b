-- A log and an output that bytes go to, the log first.
use Rattle.std.specs.Prelude.{◌≡◌, ◌⊎◌, ℕ, ◌+◌, ◌≤◌, List, [], ◌++◌, length, drop, Option, None, Some, Bool, true, false, IfSome, Result, Ok, Err}
use Rattle.run_journal.specs.{declared.file_fault.FileFault.FileFault, declared.logged.TheConstants.MAX_PENDING}
use Rattle.run_journal.specs.{declared.file_fault.FileFault.TheVariants.Log as LogFault, LoggedLines.logged}
use Rattle.run_journal.specs.{declared.logged.Unflushed.Unflushed, declared.selection.TheConstants.DECIDING}
use Rattle.run_journal.specs.declared.logged.Unflushed.TheVariants.{Log, Output}
use Rattle.run_journal.specs.{LogFiles.Leaves, LogFiles.IsDurable, Selecting.IsFront, Selecting.open_line}

-- what the output has accepted, where that is known, what has come since and isn't out, whether a call has failed, and whether the log has
pub record Held : Type 0 where
  pub written : Option (List ℕ)
  pub pending : List ℕ
  pub failed : Bool
  pub log_failed : Bool

-- Since the log held the base, and the output had accepted the start, a text has come. The log got of it what a log gets, and
-- got it first: what a log gets of all that the output has accepted, and so may have shown, is on the disk behind the base. A
-- crash leaves that, and perhaps the first of what a log gets of the rest.
pub record AreInStep (base start : List ℕ) (seen : Option (List ℕ)) (crash_states : List ℕ → Type 0) (written : Option (List ℕ)) (pending : List ℕ) (failed : Bool) : Type 0 where
  pub shown : List ℕ
  pub output : written ≡ Some (start ++ shown)
  pub log : failed ≡ false → seen ≡ Some (base ++ logged shown)
  pub crash : Leaves crash_states (length (base ++ logged shown)) (base ++ logged (shown ++ pending))

-- the fault of a log that was written or synced, if that has failed
abbrev pub fault_if : Bool → Option FileFault
fault_if true = Some LogFault
fault_if false = None

-- it is known whether the log has failed: it hasn't where no call has, and where a call has and the log hasn't, the output has
pub record AreFaultsKnown (failed log_failed : Bool) (log_has : Option FileFault) (output_has : Bool) : Type 0 where
  pub known : log_has ≡ fault_if log_failed
  pub none : failed ≡ false → log_failed ≡ false
  pub output : failed ≡ true → log_failed ≡ false → output_has ≡ true

-- an output holds nothing back, unless a call of it has failed
abbrev pub HoldsNothing : List ℕ → Bool → Type 0
HoldsNothing pending failed = (pending ≡ []) ⊎ (failed ≡ true)

-- where it is known what they held
abbrev pub StayInStep : Option (List ℕ × List ℕ) → Option (List ℕ) → (List ℕ → Type 0) → Held → Type 0
StayInStep before seen crash_states held = IfSome before (λ known. AreInStep known.0 known.1 seen crash_states held.written held.pending held.failed)

-- the log and the output hold what is known of them
abbrev pub AreInitial : Option (List ℕ × List ℕ) → Option (List ℕ) → Option (List ℕ) → Type 0
AreInitial before seen written = IfSome before (λ known. (seen ≡ Some known.0) × (written ≡ Some known.1))

-- so far that is so, and these are the first bytes of the line that is being shown
pub record IsSoFar (base start : List ℕ) (seen : Option (List ℕ)) (crash_states : List ℕ → Type 0) (written : Option (List ℕ)) (pending : List ℕ) (failed : Bool) (front : List ℕ) : Type 0 where
  pub step : AreInStep base start seen crash_states written pending failed
  pub line : failed ≡ false → IsFront front (open_line step.shown)

-- At most so many bytes are gathered, and there is room for them, for what a log gets of them, and for the first bytes of a line. Until a call fails none
-- of them is out, and the log is synced.
pub record IsSoundLogger (before : Option (List ℕ × List ℕ)) (seen : Option (List ℕ)) (crash_states : List ℕ → Type 0) (written : Option (List ℕ)) (buffered : List ℕ) (capacity events_capacity front_capacity sent : ℕ)
    (failed : Bool) (front : List ℕ) : Type 0 where
  pub within : sent ≤ length buffered
  pub few : length buffered ≤ MAX_PENDING
  pub room : MAX_PENDING ≤ capacity
  pub events_room : MAX_PENDING + DECIDING ≤ events_capacity
  pub few_decide : length front ≤ DECIDING
  pub front_room : DECIDING ≤ front_capacity
  pub none_out : failed ≡ false → sent ≡ 0
  pub durable : failed ≡ false → IsDurable seen crash_states
  pub so_far : IfSome before (λ known. IsSoFar known.0 known.1 seen crash_states written (drop sent buffered) failed front)

-- where the log has what it gets, whether the output then takes all or not
abbrev pub OnKept : Result (Unit {0}) Unflushed → Type 0 → Type 0
OnKept (Ok done) P = P
OnKept (Err Output) P = P
OnKept (Err Log) P = Unit {0}

-- where the log has failed
abbrev pub OnLogFault : Result (Unit {0}) Unflushed → Type 0 → Type 0
OnLogFault (Ok done) P = Unit {0}
OnLogFault (Err Output) P = Unit {0}
OnLogFault (Err Log) P = P
