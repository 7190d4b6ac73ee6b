-- Files in memory.
use Rattle.std.specs.Prelude.{◌≡◌, ℕ, List, [], ◌∷◌, Option, None, Some, Bool, true, false}
use Rattle.run_journal.specs.LogFiles.{IsLeft}
use Rattle.run_journal.specs.declared.file_fault.FileFault.{FileFault}
use Rattle.run_journal.specs.Folders.{Folder, NamedLog}

-- what a read gives, all that a crash may leave, how many bytes of that it leaves at least, whether all is on the disk, the fault of the call that has failed, and whether an append or a cut was called
pub record InMemory : Type 0 where
  pub seen : List ℕ
  pub most : List ℕ
  pub least : ℕ
  pub synced : Bool
  pub fault : Option FileFault
  pub written : Bool

-- what a crash may leave
pub record CrashStates (file : InMemory) (left : List ℕ) : Type 0 where
  pub synced : file.synced ≡ true → left ≡ file.seen
  pub unsynced : file.synced ≡ false → IsLeft file.least file.most left

-- a folder that has room for one log: its path, its bytes if it is there, whether its name is on the disk, the fault of the call that has failed, and whether the log was opened or made
pub record OneLog : Type 0 where
  pub path : List ℕ
  pub bytes : Option (List ℕ)
  pub named : Bool
  pub fault : Option FileFault
  pub given : Bool

-- the logs that are there
abbrev pub logs_at : List ℕ → Option (List ℕ) → Bool → List NamedLog
logs_at path None named = []
logs_at path (Some bytes) named = record { path = path; bytes = bytes; named = named } ∷ []

abbrev pub folder_of : OneLog → Folder
folder_of one = record { logs = Some (logs_at one.path one.bytes one.named); fault = one.fault; given = one.given; outputs = Some [] }
