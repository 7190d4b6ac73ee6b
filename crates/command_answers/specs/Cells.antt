-- What loading the plans of several cells comes to.
use Rattle.std.specs.Prelude.{◌≡◌, ◌⊎◌, ◌++◌, ◌∷◌, [], ℕ, List, map, Option, None, Some, Result, Ok, Err, String, string_bytes, length, codes, decimal}
use Rattle.shop_base.specs.Shop.{JobShop}
use Rattle.orlib_read.specs.declared.named.Named.{Named}
use Rattle.plan_verifier.specs.Accepted.{VerifiedPlan}
use Rattle.command_answers.specs.declared.answer.Answer.{Answer}
use Rattle.command_answers.specs.declared.cells.Cells.{Cells}
use Rattle.command_answers.specs.declared.cells.Cells.TheVariants.{Accepted as AllAccepted, Line}
use Rattle.command_answers.specs.declared.command_fault.CommandFault.{CommandFault}
use Rattle.command_answers.specs.declared.command_fault.CommandFault.TheVariants.{Memory}
use Rattle.command_answers.specs.declared.loading.Loaded.{Loaded}
use Rattle.command_answers.specs.Steps.{Then, Concludes, IsOrMemory}
use Rattle.command_answers.specs.Texts.{Asks}
use Rattle.command_answers.specs.Parsed.{IsInstanceRead}
use Rattle.command_answers.specs.Checks.{IsLineOf, IsLoaded, accepted_in}
use Rattle.command_answers.specs.Commands.{ReadsPlan}

-- the line of the plan of this number, which isn't accepted, unless memory ran out
abbrev pub IsCellLine : ℕ → Loaded → Result Cells CommandFault → Type 0
IsCellLine number loaded (Ok (Line answer)) = (line : Answer) × IsLineOf loaded line
    × (answer.text.items ≡ decimal number ++ codes " " ++ line.text.items) × (answer.status ≡ line.status)
IsCellLine number loaded (Ok (AllAccepted cells)) = ⊥
IsCellLine number loaded (Err fault) = fault ≡ Memory

-- all plans are accepted
abbrev pub AreAccepted : List VerifiedPlan → Result Cells CommandFault → Type 0
AreAccepted cells (Ok (AllAccepted all)) = all.items ≡ cells
AreAccepted cells (Ok (Line answer)) = ⊥
AreAccepted cells (Err fault) = ⊥

-- after an accepted plan the next ones follow, unless memory ran out; any other ends it by its line
abbrev pub AfterPlan : {W : Type 0} → List VerifiedPlan → (List VerifiedPlan → W → Result Cells CommandFault → W → Type 0) → Result VerifiedPlan Loaded → W → Result Cells CommandFault → W → Type 0
AfterPlan cells rest (Ok v) before outcome after = rest (cells ++ v ∷ []) before outcome after ⊎ ((outcome ≡ Err Memory) × (after ≡ before))
AfterPlan cells rest (Err other) before outcome after = IsCellLine (length cells) other outcome × (after ≡ before)

-- an accepted plan is put behind these, unless memory ran out; the line of any other ends all
abbrev pub IsAdded : List VerifiedPlan → Result VerifiedPlan Loaded → Option (Result Cells CommandFault) → List VerifiedPlan → Type 0
IsAdded cells (Ok v) None more = more ≡ cells ++ v ∷ []
IsAdded cells (Ok v) (Some outcome) more = outcome ≡ Err Memory
IsAdded cells (Err other) None more = ⊥
IsAdded cells (Err other) (Some outcome) more = IsCellLine (length cells) other outcome

-- the paths, each as its bytes
abbrev pub paths_of : {A : Type 0} → List (String A) → List (List ℕ)
paths_of paths = map string_bytes paths

-- the shop that was read of the text before, if one was
abbrev pub IsReadBefore : List ℕ → Option (List ℕ) → Option JobShop → Type 0
IsReadBefore text name None = Unit {0}
IsReadBefore text name (Some shop) = (named : Named) × IsInstanceRead text name (Ok named) × (named.shop ≡ shop)

-- the shop of an instance that is read, or the fault
abbrev pub IsShopOf : Result Named CommandFault → Result JobShop CommandFault → Type 0
IsShopOf (Ok named) (Ok shop) = named.shop ≡ shop
IsShopOf (Ok named) (Err fault) = ⊥
IsShopOf (Err fault) (Ok shop) = ⊥
IsShopOf (Err fault) (Err same) = fault ≡ same

-- the shop of the instance in the text is read, or refused as that is
abbrev pub IsShopRead : List ℕ → Option (List ℕ) → Result JobShop CommandFault → Type 0
IsShopRead text name read = (came : Result Named CommandFault) × IsInstanceRead text name came × IsShopOf came read

module _ {W : Type 0} (gives : W → List ℕ → Result (List ℕ) CommandFault → W → Type 0) where
  -- for this shop the plan's file is asked for
  abbrev pub LoadsFor : JobShop → List ℕ → W → Result Loaded CommandFault → W → Type 0
  LoadsFor shop path = Then (ReadsPlan gives path) (λ plan. Concludes (IsOrMemory (IsLoaded (record { shop = shop; plan = plan }))))

  -- the instance is read from its text, and then the plan's file is asked for
  abbrev pub LoadsOne : List ℕ → Option (List ℕ) → List ℕ → W → Result Loaded CommandFault → W → Type 0
  LoadsOne text name path = Then (Concludes (IsInstanceRead text name)) (λ named. LoadsFor named.shop path)

  -- the plans are loaded one after another, after these
  abbrev pub LoadsEach : List ℕ → Option (List ℕ) → List VerifiedPlan → List (List ℕ) → W → Result Cells CommandFault → W → Type 0
  LoadsEach text name cells [] before outcome after = AreAccepted cells outcome × (after ≡ before)
  LoadsEach text name cells (path ∷ paths) before outcome after =
      Then (LoadsOne text name path) (λ loaded. AfterPlan cells (λ more. LoadsEach text name more paths) (accepted_in loaded)) before outcome after

  -- the plan of a path is loaded after these: what the next ones come to then, they come to with it; or this comes of all, whatever the next ones are
  abbrev pub AddsCell : List ℕ → Option (List ℕ) → List VerifiedPlan → List ℕ → W → Option (Result Cells CommandFault) → List VerifiedPlan → W → Type 0
  AddsCell text name cells path before None more mid = (paths : List (List ℕ)) (outcome : Result Cells CommandFault) (after : W)
      → LoadsEach text name more paths mid outcome after → LoadsEach text name cells (path ∷ paths) before outcome after
  AddsCell text name cells path before (Some outcome) more after = (paths : List (List ℕ)) → LoadsEach text name cells (path ∷ paths) before outcome after

  -- the instance's file is asked for, then each plan's once the plan before it is accepted
  abbrev pub LoadsCells : List ℕ → Option (List ℕ) → List (List ℕ) → W → Result Cells CommandFault → W → Type 0
  LoadsCells path name plans = Then (Asks gives path) (λ text. LoadsEach text name [] plans)
