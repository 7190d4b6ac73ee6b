-- What a crash may leave of a file that is appended to.
use Rattle.std.specs.Prelude.{◌≡◌, ◌⊎◌, ℕ, zero, suc, ◌≤◌, List, [], ◌∷◌, ◌++◌, take, Option, Some, IfSome}
use Rattle.run_journal.specs.declared.file_fault.FileFault.{FileFault}
use Rattle.run_journal.specs.declared.file_fault.FileFault.TheVariants.{Log, Read, TooLong, Memory}

-- so many zero bytes, as a disk leaves them where it hadn't written yet
abbrev pub zeros : ℕ → List ℕ
zeros zero = []
zeros (suc n) = 0 ∷ zeros n

-- the first of these bytes are left, so many of them at least, and perhaps zeros behind them
pub record IsLeft (least : ℕ) (most left : List ℕ) : Type 0 where
  pub count : ℕ
  pub at_least : least ≤ count
  pub unwritten : ℕ
  pub is : left ≡ take count most ++ zeros unwritten

-- a crash leaves the first of these bytes, so many of them at least
abbrev pub Leaves : (List ℕ → Type 0) → ℕ → List ℕ → Type 0
Leaves crash_states least most = (left : List ℕ) → crash_states left → IsLeft least most left

-- where the bytes of the file are known, a crash leaves just these
abbrev pub IsDurable : Option (List ℕ) → (List ℕ → Type 0) → Type 0
IsDurable seen crash_states = IfSome seen (λ file. (left : List ℕ) → crash_states left → left ≡ file)

-- a crash leaves nothing that it couldn't have left before
abbrev pub LeavesNoMore : (List ℕ → Type 0) → (List ℕ → Type 0) → Type 0
LeavesNoMore before after = (left : List ℕ) → after left → before left

-- why a file isn't read
abbrev pub IsReadFault : FileFault → Type 0
IsReadFault cause = (cause ≡ Read) ⊎ (cause ≡ TooLong) ⊎ (cause ≡ Memory)

-- it wasn't written, cut or synced, and says so
abbrev pub HasFailed : Option FileFault → FileFault → Type 0
HasFailed fault cause = (cause ≡ Log) × (fault ≡ Some Log)
