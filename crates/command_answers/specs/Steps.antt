-- Steps of a command, one after another. A step leads from a state of what is outside to another one, and has an outcome.
use Rattle.std.specs.Prelude.{◌≡◌, Result, Ok, Err}
use Rattle.command_answers.specs.declared.command_fault.CommandFault.{CommandFault}
use Rattle.command_answers.specs.declared.command_fault.CommandFault.TheVariants.{Memory}

-- a fault ends all; else the next step follows
abbrev pub AndThen : {W A B : Type 0} → (A → W → Result B CommandFault → W → Type 0) → Result A CommandFault → W → Result B CommandFault → W → Type 0
AndThen next (Ok a) mid outcome after = next a mid outcome after
AndThen next (Err fault) mid outcome after = (outcome ≡ Err fault) × (after ≡ mid)

-- one step, and then another one with what it gave
pub record Then {W A B : Type 0} (first : W → Result A CommandFault → W → Type 0) (next : A → W → Result B CommandFault → W → Type 0)
    (before : W) (outcome : Result B CommandFault) (after : W) : Type 0 where
  pub came : Result A CommandFault
  pub mid : W
  pub is : first before came mid
  pub goes_on : AndThen next came mid outcome after

-- a step that asks for nothing outside
abbrev pub Concludes : {W A : Type 0} → (Result A CommandFault → Type 0) → W → Result A CommandFault → W → Type 0
Concludes Is before outcome after = Is outcome × (after ≡ before)

-- the answer is one of these, or memory ran out
abbrev pub IsOrMemory : {A : Type 0} → (A → Type 0) → Result A CommandFault → Type 0
IsOrMemory Is (Ok a) = Is a
IsOrMemory Is (Err fault) = fault ≡ Memory
