-- The chain that is printed, and the lines behind a verdict's first one, while they are made.
use Rattle.std.specs.Prelude.{◌≡◌, ℕ, List}
use Rattle.shop_base.specs.{declared.node.Node.Node, Plan.PlannedShop, Cell.Cell}
use Rattle.alt_graph.specs.Times.{NodeTimes}
use Rattle.people_names.specs.NameBooks.{NameBook}
use Rattle.plan_verifier.specs.Leavings.{leaves_in}
use Rattle.plan_explain.specs.{Parts.AreBoth, Chains.IsChainOrNone, Chains.AreChainLines, Leavings.leaves_lines}

-- the nodes are such a chain by the earliest moments, and lines can be written of it
pub record IsFound (p : PlannedShop) (c : Cell) (t : ℕ) (times : NodeTimes) (Is : (ℕ → ℕ) → List Node → Type 0) (nodes : List Node) : Type 0 where
  pub is : Is (leaves_in p times) nodes
  pub fit : IsChainOrNone p c t nodes

-- the lines of the jobs, and then those of this chain
abbrev pub AreLinesOf : NameBook → PlannedShop → Cell → ℕ → (ℕ → ℕ) → List Node → List ℕ → Type 0
AreLinesOf names p c t leaves chain = AreBoth (λ jobs. jobs ≡ leaves_lines names p c leaves) (AreChainLines names p c t chain)
