-- Which plan a text is, and what is wrong first with a text that is none.
use Rattle.std.specs.Prelude.{◌≡◌, ℕ, ◌⊎◌, List, Some, IsUtf8}
use Rattle.shop_base.specs.Plan.{ShopPlan}
use Rattle.toml.specs.Data.{Members}
use Rattle.toml.specs.Parse.{parse_document}
use Rattle.plan_text.specs.declared.plan_fault.PlanFault.{PlanFault}
use Rattle.plan_text.specs.declared.plan_fault.PlanFault.TheVariants.{NotToml}
use Rattle.plan_text.specs.Plans.{IsPlanTable}
use Rattle.plan_text.specs.Faults.{IsFirstTableFault}

-- the text is a TOML document with this table (TOML 1.1, as the library `toml` reads it)
pub record IsDocument (text : List ℕ) (table : Members) : Type 0 where
  pub utf8 : IsUtf8 text
  pub read : parse_document text ≡ Some table

-- the text is a document whose table is the plan
pub record IsPlanText (text : List ℕ) (plan : ShopPlan) : Type 0 where
  pub table : Members
  pub document : IsDocument text table
  pub is : IsPlanTable table plan

-- the text is no document
pub record IsNoDocument (text : List ℕ) (fault : PlanFault) : Type 0 where
  pub none : (table : Members) → IsDocument text table → ⊥
  pub is : fault ≡ NotToml

-- the text is a document, and this is the first fault of its table
pub record IsDocumentFault (text : List ℕ) (fault : PlanFault) : Type 0 where
  pub table : Members
  pub document : IsDocument text table
  pub is : IsFirstTableFault table fault

-- what is wrong first with a text as a plan
abbrev pub IsFirstPlanFault : List ℕ → PlanFault → Type 0
IsFirstPlanFault text fault = IsNoDocument text fault ⊎ IsDocumentFault text fault
