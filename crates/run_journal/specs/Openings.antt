-- What a log is that was opened or made, where it couldn't be had.
use Rattle.std.specs.Prelude.{◌≡◌, ◌⊎◌, ℕ, List, [], Bool, false, Option, None, Some, option_map, IfSome}
use Rattle.event_lines.specs.{declared.run_digits.RunDigits.RunDigits, RunDigits.plan_line}
use Rattle.run_journal.specs.{declared.file_fault.FileFault.FileFault, declared.file_fault.FileFault.TheVariants.Log}
use Rattle.run_journal.specs.LogFiles.{Leaves, IsDurable, IsReadFault, HasFailed}
use Rattle.run_journal.specs.Folders.{Folder, held, with_fault, with_made, with_name, IsOpenFault, IsDiskFault}

-- the log itself says that it couldn't be synced or read
abbrev pub IsOfLog : Option FileFault → FileFault → Type 0
IsOfLog fault cause = ((cause ≡ Log) ⊎ IsReadFault cause) × (fault ≡ Some cause)

-- it is as it was found by its path
pub record IsLogFound (folder : Folder) (path : List ℕ) (seen : Option (List ℕ)) (written : Bool) : Type 0 where
  pub unwritten : written ≡ false
  pub same : IfSome folder.logs (λ logs. Some seen ≡ option_map Some (held logs path))

-- none was opened, and the folder says that none could be made; at most one without bytes was
pub record IsUnmade (there : Bool) (path : List ℕ) (before after : Folder) (cause : FileFault) : Type 0 where
  pub none : there ≡ false
  pub is : IsOpenFault cause
  pub at_most : (after ≡ with_fault cause before) ⊎ (after ≡ with_fault cause (with_made path before))

-- the folder says that the name of a new log couldn't be put onto the disk, and the log has no byte
pub record LacksNameOnDisk (had after : Folder) (seen : Option (List ℕ)) (crash_states : List ℕ → Type 0) (fault : Option FileFault) (cause : FileFault) : Type 0 where
  pub is : IsDiskFault cause
  pub own : after ≡ with_fault cause had
  pub unfailed : fault ≡ None
  pub durable : IsDurable seen crash_states
  pub empty : IfSome had.logs (λ _. seen ≡ Some [])

-- the log says that the line of the plan couldn't be, and a crash leaves at most that line
pub record LacksLine (path : List ℕ) (digits : RunDigits) (had after : Folder) (crash_states : List ℕ → Type 0) (fault : Option FileFault) (cause : FileFault) : Type 0 where
  pub is : HasFailed fault cause
  pub named : after ≡ with_name path had
  pub crash : IfSome had.logs (λ _. Leaves crash_states 0 (plan_line digits))

-- a new log lacks its name or its line
abbrev pub IsUnnamed : List ℕ → RunDigits → Folder → Folder → Option (List ℕ) → (List ℕ → Type 0) → Option FileFault → FileFault → Type 0
IsUnnamed path digits had after seen crash_states fault cause = LacksNameOnDisk had after seen crash_states fault cause ⊎ LacksLine path digits had after crash_states fault cause
