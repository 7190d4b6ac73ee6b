-- The law that a driven hub writes the same.
use Rattle.std.specs.Prelude.{◌≡◌, ℕ, ◌≤◌, List, [], drop, length, get_or, Option, Result, Ok}
use Rattle.shop_base.specs.Plan.{PlannedShop}
use Rattle.text_lines.specs.declared.limits.TheConstants.{MAX_INPUT}
use Rattle.command_words.specs.declared.words.CommandName.TheVariants.{Hub}
use Rattle.command_words.specs.Choice.{command_word_of, word_found, rows_found, files_in, instance_in, reasons_in, found_in}
use Rattle.command_answers.specs.declared.command_fault.CommandFault.{CommandFault}
use Rattle.command_run.specs.Laws.{ParseAsAcceptedPlans, RunsWell}

-- the words ask for `hub` with these files: the instance, its name in the collection, and the plans
pub record AskForHub (words : List (List ℕ)) (path : List ℕ) (name : Option (List ℕ)) (plans : List (List ℕ)) : Type 0 where
  pub accepted : reasons_in words ≡ []
  pub hub : word_found (found_in words) ≡ command_word_of Hub
  pub path_is : path ≡ get_or (files_in (rows_found (found_in words))) 0 []
  pub name_is : name ≡ instance_in (rows_found (found_in words))
  pub plans_are : plans ≡ drop 1 (files_in (rows_found (found_in words)))

-- `hub` with accepted plans writes the same, and ends with the same status, whenever it is run on the same words, files and input, of no more bytes than the limit
abbrev pub HubWritesTheSame : Type 0
HubWritesTheSame = (content : List ℕ → Result (List ℕ) CommandFault) (words : List (List ℕ)) (path instance : List ℕ) (name : Option (List ℕ)) (files : List (List ℕ)) (plans : List PlannedShop) (input : List ℕ) (status other_status : ℕ)
    (written other : List ℕ) → AskForHub words path name files → content path ≡ Ok instance → ParseAsAcceptedPlans content instance name files plans → length input ≤ MAX_INPUT
    → RunsWell content words input status written → RunsWell content words input other_status other → (other_status ≡ status) × (other ≡ written)
