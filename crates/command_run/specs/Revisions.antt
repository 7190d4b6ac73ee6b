-- What `revise` is asked for by the words of a command line.
use Rattle.std.specs.Prelude.{◌≡◌, ◌⊎◌, ℕ, List, [], ◌∷◌, Option, Result, Err, map, option_map}
use Rattle.std.specs.List.{after_first}
use Rattle.std.specs.String.{string_bytes}
use Rattle.plan_revise.specs.declared.change.Change.{Change}
use Rattle.plan_revise.specs.declared.change.Change.TheVariants.{Until, Add, Route, Release, Budget, Scrap, Down, Hold}
use Rattle.command_words.specs.Changes.{is_equals}
use Rattle.command_words.specs.declared.words.changes.AskedChange.{AskedChange}
use Rattle.command_words.specs.declared.words.changes.ChangeKind.{ChangeKind}
use Rattle.command_words.specs.declared.words.changes.ChangeKind.TheVariants.{Until as Lasts, Add as Adds, Route as Leads, Release as Dates, Budget as Promises, Hold as Holds, Scrap as Scraps, Down as Stops}
use Rattle.command_answers.specs.declared.answer.Answer.{Answer}
use Rattle.command_answers.specs.declared.command_fault.CommandFault.{CommandFault}
use Rattle.command_answers.specs.declared.command_fault.CommandFault.TheVariants.{Memory}
use Rattle.command_words.specs.declared.words.printed.Prints.{Prints}
use Rattle.command_words.specs.declared.words.printed.Prints.TheVariants.{Plan, File, Log}
use Rattle.command_answers.specs.declared.revises.Revised.{Revised}
use Rattle.command_answers.specs.declared.revises.Revised.TheVariants.{PlanText, InstanceText, LogText}
use Rattle.command_answers.specs.Asked.{AskedRevision}
use Rattle.command_answers.specs.Commands.{InputPaths, RunsRevise}

-- the change that a value and what it asks for stand for; the value of a job that is added is its route, of one that goes another way what stands behind the first equals sign is
abbrev pub IsChangeOf : List ℕ → ChangeKind → Change → Type 0
IsChangeOf value (Lasts machine moment) (Until m to) = (m ≡ machine) × (to ≡ moment)
IsChangeOf value (Adds release budget) (Add route r b) = (route.now ≡ value) × (r ≡ release) × (b ≡ budget)
IsChangeOf value (Leads job) (Route j words) = (j ≡ job) × (words.now ≡ after_first is_equals value)
IsChangeOf value (Dates job moment) (Release j r) = (j ≡ job) × (r ≡ moment)
IsChangeOf value (Promises job moment) (Budget j b) = (j ≡ job) × (b ≡ moment)
IsChangeOf value (Holds machine moment) (Hold m to) = (m ≡ machine) × (to ≡ moment)
IsChangeOf value (Scraps job) (Scrap j) = j ≡ job
IsChangeOf value (Stops machine) (Down m) = m ≡ machine
IsChangeOf value kind change = ⊥

-- the changes that are asked for, one for one
abbrev pub AreChangesOf : List AskedChange → List Change → Type 0
AreChangesOf [] [] = Unit {0}
AreChangesOf (asked ∷ more) (change ∷ changes) = IsChangeOf (string_bytes asked.value) asked.kind change × AreChangesOf more changes
AreChangesOf asked changes = ⊥

-- the values that were given for them
abbrev pub values_asked : List AskedChange → List (List ℕ)
values_asked = map (λ asked. string_bytes asked.value)

-- the names of the jobs that they make, where they are given
abbrev pub names_asked : List AskedChange → List (Option (List ℕ))
names_asked = map (λ asked. option_map string_bytes asked.name)

-- what is printed
abbrev pub printed_for : Prints → Revised
printed_for Plan = PlanText
printed_for File = InstanceText
printed_for (Log pruned hand_over) = LogText pruned hand_over

-- what is asked for by words and these changes
abbrev pub revision_asked : Prints → Option (List ℕ) → Option ℕ → List AskedChange → List Change → AskedRevision
revision_asked prints names at asked changes = record { prints = printed_for prints; names = names; at = at; changes = changes; values = values_asked asked; called = names_asked asked }

module _ {W : Type 0} (gives : W → List ℕ → Result (List ℕ) CommandFault → W → Type 0) where
  -- these changes are made of what the files hold
  pub record IsRevisedFromFiles (prints : Prints) (names : Option (List ℕ)) (at : Option ℕ) (asked : List AskedChange) (inputs : InputPaths) (log : List ℕ) (before : W) (outcome : Result Answer CommandFault) (after : W) : Type 0 where
    pub changes : List Change
    pub are : AreChangesOf asked changes
    pub runs : RunsRevise gives (revision_asked prints names at asked changes) inputs log before outcome after

  -- so, unless memory runs out before any file is asked for
  abbrev pub Revises : Prints → Option (List ℕ) → Option ℕ → List AskedChange → InputPaths → List ℕ → W → Result Answer CommandFault → W → Type 0
  Revises prints names at asked inputs log before outcome after =
      IsRevisedFromFiles prints names at asked inputs log before outcome after ⊎ ((outcome ≡ Err Memory) × (after ≡ before))
