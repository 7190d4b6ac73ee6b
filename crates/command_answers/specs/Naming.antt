-- The names by which a command prints for people, and the command's fault where there are none to be read.
use Rattle.std.specs.Prelude.{◌≡◌, ◌≢◌, ℕ, List, Option, None, Some, Result, Ok, Err, IfOk, IfErr}
use Rattle.shop_base.specs.Plan.{PlannedShop, jobs, machines}
use Rattle.people_names.specs.declared.names_fault.NamesFault.{NamesFault}
use Rattle.people_names.specs.declared.names_fault.NamesFault.TheVariants.{Memory as OutOfMemory}
use Rattle.people_names.specs.NameBooks.{NameBook, no_names}
use Rattle.people_names.specs.Documents.{IsNamesText, IsFirstNamesFault}
use Rattle.command_answers.specs.declared.command_fault.CommandFault.{CommandFault}
use Rattle.command_answers.specs.declared.command_fault.CommandFault.TheVariants.{Names, Memory}
use Rattle.command_answers.specs.Instances.{Holds}
use Rattle.command_answers.specs.Steps.{Then, Concludes}
use Rattle.command_answers.specs.Texts.{Asks}

-- the fault of the reader of names as a command's
abbrev pub names_command_fault : NamesFault → CommandFault
names_command_fault OutOfMemory = Memory
names_command_fault fault = Names fault

-- the fault is that of the text for a shop with so many jobs and machines, or that memory ran out
abbrev pub IsRightNamesFault : PlannedShop → List ℕ → CommandFault → Type 0
IsRightNamesFault p text (Names fault) = (fault ≢ OutOfMemory) × IsFirstNamesFault (jobs p) (machines p) text fault
IsRightNamesFault p text Memory = Unit {0}
IsRightNamesFault p text other = ⊥

-- the answer is this fault of the names, unless memory ran out
abbrev pub IsNamesRefusal : {A : Type 0} → Result A CommandFault → NamesFault → Type 0
IsNamesRefusal (Ok a) fault = ⊥
IsNamesRefusal (Err (Names answered)) fault = answered ≡ fault
IsNamesRefusal (Err Memory) fault = Unit {0}
IsNamesRefusal (Err other) fault = ⊥

-- the text is read as the names that it has for the plan's shop, or refused by its first fault, unless memory ran out
pub record AreNamesRead (p : PlannedShop) (text : List ℕ) (read : Result NameBook CommandFault) : Type 0 where
  pub found : IfOk read (IsNamesText (jobs p) (machines p) text)
  pub only : (names : NameBook) → IsNamesText (jobs p) (machines p) text names → Holds read (λ found. found ≡ names)
  pub fault : IfErr read (IsRightNamesFault p text)
  pub first : (fault : NamesFault) → IsFirstNamesFault (jobs p) (machines p) text fault → IsNamesRefusal read fault

module _ {W : Type 0} (gives : W → List ℕ → Result (List ℕ) CommandFault → W → Type 0) where
  -- the file of names is asked for, and then read
  abbrev pub ReadsNamesOf : List ℕ → PlannedShop → W → Result NameBook CommandFault → W → Type 0
  ReadsNamesOf path p = Then (Asks gives path) (λ text. Concludes (AreNamesRead p text))

  -- so where one is given; else there are no names
  abbrev pub ReadsNames : Option (List ℕ) → PlannedShop → W → Result NameBook CommandFault → W → Type 0
  ReadsNames None p = Concludes (λ read. read ≡ Ok no_names)
  ReadsNames (Some path) p = ReadsNamesOf path p
