-- The routes of a shop, its own or shared with other shops.
use Rattle.std.specs.Prelude.{◌≡◌, List, [], Option, None, Some, Vec}
use Rattle.std.specs.declared.alloc.Global.{Global}
use Rattle.std.specs.declared.sync.Arc.{Arc}
use Rattle.std.specs.Arc.{arc_value}
use Rattle.shop_base.specs.{declared.shop.Step.Step, Vectors.lists_of}

-- rows of steps that several shops read
abbrev pub Shared : Type 0
Shared = Arc (Vec (Vec Step Global) Global) Global

-- each job's route, whoever holds it
abbrev pub routes_of : List (Vec Step Global) → Option Shared → List (List Step)
routes_of own None = lists_of own
routes_of own (Some rows) = lists_of (arc_value rows).items

-- a shop that shares its routes has none of its own
abbrev pub AreNoneBeside : List (Vec Step Global) → Option Shared → Type 0
AreNoneBeside own None = Unit {0}
AreNoneBeside own (Some rows) = own ≡ []
