-- The name of a job that comes behind the others.
use Rattle.std.specs.Prelude.{◌≡◌, ℕ, Bool, true, if◌then◌else◌, List, [], ◌∷◌, ◌++◌, Option, None, Some, codes}
use Rattle.toml.specs.Data.{Items, array, item, no_items, string}
use Rattle.people_names.specs.declared.keys.NamesKey.TheVariants.{Jobs}
use Rattle.people_names.specs.declared.unnamed.JobNameFault.{JobNameFault}
use Rattle.people_names.specs.declared.unnamed.JobNameFault.TheVariants.{BadName, NameTwice, NoNames}
use Rattle.people_names.specs.declared.unnamed.NotNamed.{NotNamed}
use Rattle.people_names.specs.declared.unnamed.NotNamed.TheVariants.{Refused, Memory}
use Rattle.people_names.specs.Faults.{is_among, list_faults}
use Rattle.people_names.specs.NameBooks.{NameBook}
use Rattle.people_names.specs.NameTexts.{is_name}

-- the name of a fault
abbrev pub job_name_fault_name : JobNameFault → List ℕ
job_name_fault_name BadName = codes "BadName"
job_name_fault_name NameTwice = codes "NameTwice"
job_name_fault_name NoNames = codes "NoNames"

-- why a job behind others, of which the first have these names, or all, doesn't get this one: the first reason, if there is one
abbrev pub why_unnamed : List (List ℕ) → Bool → List ℕ → Option JobNameFault
why_unnamed names all name = if is_name name then (if is_among name names then Some NameTwice else (if all then None else Some NoNames)) else Some BadName

-- that is the fault, unless memory ran out
abbrev pub IsWhyUnnamed : Option JobNameFault → NotNamed → Type 0
IsWhyUnnamed why (Refused fault) = why ≡ Some fault
IsWhyUnnamed why Memory = Unit {0}

-- the names with that of the job behind all that have one
abbrev pub with_job : NameBook → List ℕ → NameBook
with_job book name = record book { jobs = book.jobs ++ name ∷ []; lists_jobs = true }

-- each of these texts, as an element of an array
abbrev pub text_items : List (List ℕ) → Items
text_items [] = no_items
text_items (text ∷ texts) = item (string text) (text_items texts)

-- an array of these texts is one of names of jobs: none of them has a fault
abbrev pub AreJobNames : List (List ℕ) → Type 0
AreJobNames names = list_faults Jobs (Some (array (text_items names))) ≡ []
