-- An instance as a command reads it, and the command's fault where it can't.
use Rattle.std.specs.Prelude.{◌≡◌, ◌≢◌, ℕ, List, Option, None, Some, Result, Ok, Err}
use Rattle.shop_base.specs.Shop.{JobShop}
use Rattle.orlib_read.specs.declared.or_fault.OrFault.{OrFault}
use Rattle.orlib_read.specs.declared.or_fault.OrFault.TheVariants.{Memory as OutOfMemory}
use Rattle.orlib_read.specs.Instance.{IsInstance, IsInstanceOf}
use Rattle.orlib_read.specs.Faults.{IsInstanceFault, IsInstanceOfFault}
use Rattle.command_answers.specs.declared.command_fault.CommandFault.{CommandFault}
use Rattle.command_answers.specs.declared.command_fault.CommandFault.TheVariants.{Instance, Memory}

-- the text gives this description and this shop: as one instance, or as a collection under a name
abbrev pub ParsesAs : List ℕ → Option (List ℕ) → List ℕ → JobShop → Type 0
ParsesAs text None description shop = IsInstance text description shop
ParsesAs text (Some name) description shop = IsInstanceOf text name description shop

-- this is what is wrong first with the text: as one instance, or as a collection under a name
abbrev pub IsFirstInstanceFault : List ℕ → Option (List ℕ) → OrFault → Type 0
IsFirstInstanceFault text None fault = IsInstanceFault text fault
IsFirstInstanceFault text (Some name) fault = IsInstanceOfFault text name fault

-- the fault of a reader of instances as a command's
abbrev pub instance_command_fault : OrFault → CommandFault
instance_command_fault OutOfMemory = Memory
instance_command_fault fault = Instance fault

-- the fault is the text's, or that memory ran out
abbrev pub IsRightInstanceFault : List ℕ → Option (List ℕ) → CommandFault → Type 0
IsRightInstanceFault text name (Instance fault) = (fault ≢ OutOfMemory) × IsFirstInstanceFault text name fault
IsRightInstanceFault text name Memory = Unit {0}
IsRightInstanceFault text name other = ⊥

-- the answer holds to the property, unless memory ran out
abbrev pub Holds : {A : Type 0} → Result A CommandFault → (A → Type 0) → Type 0
Holds (Ok a) P = P a
Holds (Err fault) P = fault ≡ Memory

-- the answer is this fault of the instance, unless memory ran out
abbrev pub IsInstanceRefusal : {A : Type 0} → Result A CommandFault → OrFault → Type 0
IsInstanceRefusal (Ok a) fault = ⊥
IsInstanceRefusal (Err (Instance answered)) fault = answered ≡ fault
IsInstanceRefusal (Err Memory) fault = Unit {0}
IsInstanceRefusal (Err other) fault = ⊥
