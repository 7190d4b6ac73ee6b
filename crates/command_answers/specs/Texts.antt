-- Files that are asked for.
use Rattle.std.specs.Prelude.{ℕ, ◌<◌, List, length, Result, Ok, Err, Vec}
use Rattle.std.specs.declared.alloc.Global.{Global}
use Rattle.text_lines.specs.declared.limits.TheConstants.{MAX_INPUT}
use Rattle.command_answers.specs.declared.command_fault.CommandFault.{CommandFault}
use Rattle.command_answers.specs.declared.command_fault.CommandFault.TheVariants.{Read, InputTooLong, Memory}

-- more bytes than a file or the input may have
abbrev pub AreTooMany : List ℕ → Type 0
AreTooMany bytes = MAX_INPUT < length bytes

-- the bytes of a text that came, or why there are none
abbrev pub text_of : {F : Type 0} → Result (Vec ℕ Global) F → Result (List ℕ) F
text_of (Ok text) = Ok text.items
text_of (Err fault) = Err fault

-- a file can't be read, or has too many bytes, or memory ran out
abbrev pub IsFileFault : CommandFault → Type 0
IsFileFault Read = Unit {0}
IsFileFault InputTooLong = Unit {0}
IsFileFault Memory = Unit {0}
IsFileFault other = ⊥

-- the file of a path is asked for, and gives this text or fault, which leads to another state
abbrev pub Asks : {W : Type 0} → (W → List ℕ → Result (List ℕ) CommandFault → W → Type 0) → List ℕ → W → Result (List ℕ) CommandFault → W → Type 0
Asks gives path before (Ok text) after = gives before path (Ok text) after
Asks gives path before (Err fault) after = IsFileFault fault × gives before path (Err fault) after
