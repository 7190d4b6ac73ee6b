-- What was read, without where it lies in memory.
use Rattle.std.specs.Prelude.{ℕ, Bool, List}
use Rattle.shop_base.specs.declared.shop.Step.{Step}
use Rattle.shop_base.specs.Vectors.{lists_of}
use Rattle.shop_base.specs.ShopFault.{IsFirstFault}
use Rattle.orlib_read.specs.declared.named.Head.{Head}
use Rattle.orlib_read.specs.declared.named.Draft.{Draft}
use Rattle.orlib_read.specs.declared.or_fault.OrFault.{OrFault}
use Rattle.orlib_read.specs.declared.or_fault.OrFault.TheVariants.{Shop}
use Rattle.orlib_read.specs.Reading as readings

-- the head of an instance
abbrev pub head_of : Head → readings.Head
head_of head = record { description = head.description.now; sizes = head.sizes }

-- the content of an instance
abbrev pub content_of : Draft → readings.Content
content_of draft = record { description = draft.description.now; shop = record { machines = draft.machines; routes = lists_of draft.routes.items; recirculates = draft.recirculates } }

-- the machines and routes make no shop, for this reason first
abbrev pub IsShopFault : ℕ → Bool → List (List Step) → OrFault → Type 0
IsShopFault machines again routes (Shop reason) = IsFirstFault machines again routes reason
IsShopFault machines again routes fault = ⊥
