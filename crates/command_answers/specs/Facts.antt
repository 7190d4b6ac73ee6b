-- The line that answers `facts`.
use Rattle.std.specs.Prelude.{◌≡◌, ℕ, ◌+◌, List, ◌++◌, length, codes, decimal, Option}
use Rattle.shop_base.specs.Shop.{JobShop, operations_of}
use Rattle.shop_base.specs.Work.{work_of}
use Rattle.command_answers.specs.declared.answer.Answer.{Answer}
use Rattle.command_answers.specs.Instances.{ParsesAs}

-- the line of an instance's facts
unfoldable pub facts_line : JobShop → List ℕ
facts_line shop =
    codes "jobs " ++ decimal (length shop.routes)
    ++ codes " machines " ++ decimal shop.machines
    ++ codes " operations " ++ decimal (operations_of shop)
    ++ codes " reports " ++ decimal (length shop.routes + operations_of shop)
    ++ codes " work " ++ decimal (work_of shop)
    ++ codes "\n"

-- the answer is the line of the shop's facts
pub record AreFacts (answer : Answer) (shop : JobShop) : Type 0 where
  pub line : answer.text.items ≡ facts_line shop
  pub good : answer.status ≡ 0

-- the answer is the line of the facts of a shop that the text gives
pub record AreFactsOfText (text : List ℕ) (name : Option (List ℕ)) (answer : Answer) : Type 0 where
  pub description : List ℕ
  pub shop : JobShop
  pub parsed : ParsesAs text name description shop
  pub facts : AreFacts answer shop
