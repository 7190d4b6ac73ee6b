-- The text of an instance as an answer.
use Rattle.std.specs.Prelude.{◌≡◌, ◌⊎◌, ℕ, List, [], Result, Ok, Err}
use Rattle.shop_base.specs.Shop.{JobShop}
use Rattle.orlib_read.specs.Instance.{IsInstance}
use Rattle.orlib_read.specs.Lines.{instance_lines, written_description}
use Rattle.orlib_read.specs.declared.document.NotWritten.{NotWritten}
use Rattle.orlib_read.specs.declared.document.NotWritten.TheVariants.{NotReadBack as NotRead, Memory as OutOfMemory}
use Rattle.plan_text.specs.declared.plan_fault.PlanFault.TheVariants.{NotReadBack}
use Rattle.command_answers.specs.declared.answer.Answer.{Answer}
use Rattle.command_answers.specs.declared.command_fault.CommandFault.{CommandFault}
use Rattle.command_answers.specs.declared.command_fault.CommandFault.TheVariants.{Plan, Memory}

-- the fault of a command where no instance is written
abbrev pub unwritten_fault : NotWritten → CommandFault
unwritten_fault OutOfMemory = Memory
unwritten_fault NotRead = Plan NotReadBack

-- the text of an instance, which is read as this instance with the description that is written
pub record IsInstanceText (description : List ℕ) (shop : JobShop) (answer : Answer) : Type 0 where
  pub lines : answer.text.items ≡ instance_lines description shop
  pub read_back : IsInstance (instance_lines description shop) (written_description description shop) shop
  pub good : answer.status ≡ 0

-- the lines of an instance aren't read as this instance
abbrev pub IsUnread : List ℕ → JobShop → Type 0
IsUnread description shop = IsInstance (instance_lines description shop) (written_description description shop) shop → ⊥

-- the text of an instance, without the description where that isn't read back; that this isn't either; or out of memory
abbrev pub IsInstanceAnswer : List ℕ → JobShop → Result Answer CommandFault → Type 0
IsInstanceAnswer description shop (Ok answer) = IsInstanceText description shop answer ⊎ (IsUnread description shop × IsInstanceText [] shop answer)
IsInstanceAnswer description shop (Err Memory) = Unit {0}
IsInstanceAnswer description shop (Err (Plan fault)) = (fault ≡ NotReadBack) × IsUnread description shop × IsUnread [] shop
IsInstanceAnswer description shop (Err other) = ⊥
