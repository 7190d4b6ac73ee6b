-- What the reader of names answers.
use Rattle.std.specs.Prelude.{◌≡◌, ◌≢◌, List, [], Result, Ok, Err}
use Rattle.toml.specs.declared.de.error.Error.{Error}
use Rattle.toml.specs.Errors.{IsMemory}
use Rattle.people_names.specs.declared.names_fault.NamesFault.{NamesFault}
use Rattle.people_names.specs.declared.names_fault.NamesFault.TheVariants.{NotToml, Memory}
use Rattle.people_names.specs.NameBooks.{NameBook}
use Rattle.people_names.specs.Documents.{IsFirstOf}

-- the answer are these names, unless memory ran out
abbrev pub IsReadNames : Result NameBook NamesFault → NameBook → Type 0
IsReadNames (Ok answered) names = answered ≡ names
IsReadNames (Err fault) names = fault ≡ Memory

-- the answer is this fault, unless memory ran out
abbrev pub IsRefusedNames : Result NameBook NamesFault → NamesFault → Type 0
IsRefusedNames (Ok answered) fault = ⊥
IsRefusedNames (Err answered) fault = answered ≢ Memory → answered ≡ fault

-- a check that takes no memory, of which these are the faults, passes where there is none, and else answers the first
abbrev pub PassesExactly : {A : Type 0} → List NamesFault → Result A NamesFault → Type 0
PassesExactly faults (Ok x) = faults ≡ []
PassesExactly faults (Err fault) = IsFirstOf faults fault

-- the same where memory is allocated: unless it ran out
abbrev pub Passes : {A : Type 0} → List NamesFault → Result A NamesFault → Type 0
Passes faults (Ok x) = faults ≡ []
Passes faults (Err fault) = fault ≢ Memory → IsFirstOf faults fault

-- the fault that an error of the reader of TOML is: out of memory where it says so, and else that the text is no document
pub record IsFaultOf (error : Error) (fault : NamesFault) : Type 0 where
  pub memory : IsMemory error → fault ≡ Memory
  pub no_document : ¬ (IsMemory error) → fault ≡ NotToml
