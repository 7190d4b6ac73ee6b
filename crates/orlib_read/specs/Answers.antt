-- What a reader of instance texts answers.
use Rattle.std.specs.Prelude.{◌≡◌, ◌≢◌, ◌⊎◌, ℕ, List, Vec, Result, Ok, Err}
use Rattle.std.specs.declared.alloc.Global.{Global}
use Rattle.shop_base.specs.declared.shop.Step.{Step}
use Rattle.shop_base.specs.declared.shop_fault.ShopFault.{ShopFault}
use Rattle.shop_base.specs.Shop.{JobShop, IsShop}
use Rattle.shop_base.specs.ShopFault.{IsFirstFault}
use Rattle.orlib_read.specs.declared.named.Named.{Named}
use Rattle.orlib_read.specs.declared.or_fault.OrFault.{OrFault}
use Rattle.orlib_read.specs.declared.or_fault.OrFault.TheVariants.{Shop, Memory}
use Rattle.orlib_read.specs.Reading.{Content}

-- the answer is this description and shop, unless memory ran out
abbrev pub IsReadInstance : Result Named OrFault → List ℕ → JobShop → Type 0
IsReadInstance (Ok named) description shop = (named.description.items ≡ description) × (named.shop ≡ shop)
IsReadInstance (Err fault) description shop = fault ≡ Memory

-- each description and shop of which this holds is the answer, unless memory ran out
abbrev pub ReadsEach : Result Named OrFault → (List ℕ → JobShop → Type 0) → Type 0
ReadsEach answer Is = (description : List ℕ) (shop : JobShop) → Is description shop → IsReadInstance answer description shop

-- each route of which this holds is the answer, unless memory ran out
abbrev pub ReadsRoute : Result (Vec Step Global) OrFault → (List Step → Type 0) → Type 0
ReadsRoute (Ok steps) Is = (route : List Step) → Is route → steps.items ≡ route
ReadsRoute (Err fault) Is = (route : List Step) → Is route → fault ≡ Memory

-- the answer is this fault, unless memory ran out
abbrev pub IsRefusedInstance : Result Named OrFault → OrFault → Type 0
IsRefusedInstance (Ok named) fault = ⊥
IsRefusedInstance (Err answered) fault = answered ≢ Memory → answered ≡ fault

-- the content of an instance with this description and shop
abbrev pub content_with : List ℕ → JobShop → Content
content_with description shop = record { description = description; shop = shop }

-- what reading gives makes no shop, and this is the fault
pub record GivesNoShop (reading : Result Content OrFault) (fault : OrFault) : Type 0 where
  pub content : Content
  pub reason : ShopFault
  pub gives : reading ≡ Ok content
  pub wrong : IsFirstFault content.shop.machines content.shop.recirculates content.shop.routes reason
  pub is : fault ≡ Shop reason

-- the answer is the shop that reading gives, or else the fault of reading or of the shop, unless memory ran out
abbrev pub Answers : Result Named OrFault → Result Content OrFault → Type 0
Answers (Ok named) reading = (reading ≡ Ok (content_with named.description.items named.shop)) × IsShop named.shop
Answers (Err fault) reading = fault ≢ Memory → (reading ≡ Err fault) ⊎ GivesNoShop reading fault
