-- The keys of a plan text.
use Rattle.std.specs.Prelude.{ℕ, ◌^◌, List, codes, Option}
use Rattle.toml.specs.Data.{Data, Members, get_member}
use Rattle.plan_text.specs.declared.keys.PlanKey.{PlanKey}
use Rattle.plan_text.specs.declared.keys.PlanKey.TheVariants.{Release, Budget, Order, Clean}

-- the key as it stands in a text
abbrev pub key_name : PlanKey → List ℕ
key_name Release = codes "release"
key_name Budget = codes "budget"
key_name Order = codes "order"
key_name Clean = codes "clean"

-- what the numbers of a list are below: a moment has 64 bits, the number of a job 32
abbrev pub number_limit : PlanKey → ℕ
number_limit Release = 2 ^ 64
number_limit Budget = 2 ^ 64
number_limit Order = 2 ^ 32
number_limit Clean = 2 ^ 64

-- the value of a key, if the table has one
abbrev pub plan_value_at : Members → PlanKey → Option Data
plan_value_at table key = get_member (key_name key) table

-- the key of the version
abbrev pub version_key : List ℕ
version_key = codes "version"

-- the version that a table states, if it states one
abbrev pub version_in : Members → Option Data
version_in table = get_member version_key table
