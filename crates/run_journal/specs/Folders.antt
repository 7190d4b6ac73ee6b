-- The logs that are in a folder, and what was done there.
use Rattle.std.specs.Prelude.{◌≡◌, ◌⊎◌, ℕ, if◌then◌else◌, Bool, true, false, List, [], ◌∷◌, Option, None, Some, option_map, bytes_eq}
use Rattle.run_journal.specs.declared.file_fault.FileFault.{FileFault}
use Rattle.run_journal.specs.declared.file_fault.FileFault.TheVariants.{Log, InUse, Memory}

-- a log: its path, its bytes as it was opened or made, and whether its name is on the disk, so that every crash leaves it
pub record NamedLog : Type 0 where
  pub path : List ℕ
  pub bytes : List ℕ
  pub named : Bool

-- the logs that are there, where they are known; the fault of the last call that has failed, if one has; whether a log was opened or made; and the paths of the files that the standard output goes to, where they are known
pub record Folder : Type 0 where
  pub logs : Option (List NamedLog)
  pub fault : Option FileFault
  pub given : Bool
  pub outputs : Option (List (List ℕ))

-- whether a path is one of these
abbrev pub is_one_of : List (List ℕ) → List ℕ → Bool
is_one_of [] path = false
is_one_of (one ∷ others) path = if bytes_eq one path then true else is_one_of others path

-- the bytes of the log of a path, if there is one
abbrev pub held : List NamedLog → List ℕ → Option (List ℕ)
held [] path = None
held (log ∷ logs) path = if bytes_eq log.path path then Some log.bytes else held logs path

-- whether the name of the log of a path is on the disk
abbrev pub is_named : List NamedLog → List ℕ → Bool
is_named [] path = false
is_named (log ∷ logs) path = if bytes_eq log.path path then log.named else is_named logs path

-- a log that was just made
abbrev pub made_log : List ℕ → NamedLog
made_log path = record { path = path; bytes = []; named = false }

-- these logs, once the name of the log of a path is on the disk
abbrev pub named_in : List ℕ → List NamedLog → List NamedLog
named_in path [] = []
named_in path (log ∷ logs) = if bytes_eq log.path path then record log { named = true } ∷ logs else log ∷ named_in path logs

-- the folder once a log was opened or made
abbrev pub handed : Folder → Folder
handed folder = record folder { given = true }

-- if one was
abbrev pub handed_if : Bool → Folder → Folder
handed_if true folder = handed folder
handed_if false folder = folder

-- once a call has failed
abbrev pub with_fault : FileFault → Folder → Folder
with_fault cause folder = record folder { fault = Some cause }

-- with a log of this path that was just made
abbrev pub with_made : List ℕ → Folder → Folder
with_made path folder = record folder { logs = option_map (λ logs. made_log path ∷ logs) folder.logs }

-- with such a log, unless there was one that was opened
abbrev pub with_log : Bool → List ℕ → Folder → Folder
with_log true path folder = folder
with_log false path folder = handed (with_made path folder)

-- once the name of the log of this path is on the disk
abbrev pub with_name : List ℕ → Folder → Folder
with_name path folder = record folder { logs = option_map (named_in path) folder.logs }

-- why a log isn't opened or made: it can't be, another process has it, or memory ran out
abbrev pub IsOpenFault : FileFault → Type 0
IsOpenFault cause = (cause ≡ Log) ⊎ (cause ≡ InUse) ⊎ (cause ≡ Memory)

-- why a name isn't put onto the disk
abbrev pub IsDiskFault : FileFault → Type 0
IsDiskFault cause = (cause ≡ Log) ⊎ (cause ≡ Memory)
