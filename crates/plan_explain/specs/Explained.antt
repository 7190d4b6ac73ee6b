-- The explanations of verdicts.
use Rattle.std.specs.Prelude.{◌≡◌, ℕ, ◌<◌, ◌⊎◌, List, [], Option, None, Some}
use Rattle.shop_base.specs.{declared.node.Node.Node, Plan.PlannedShop, Plan.jobs, Cell.Cell, Cell.IsGone, Graph.leaving, Ahead.PathAhead}
use Rattle.people_names.specs.NameBooks.{NameBook}
use Rattle.plan_verifier.specs.declared.verdict.Judged.{Judged}
use Rattle.plan_verifier.specs.declared.verdict.Judged.TheVariants.{Accepted, Refused}
use Rattle.plan_verifier.specs.{declared.verdict.Why.TheVariants.Cycle, declared.verdict.Why.TheVariants.Late}
use Rattle.plan_verifier.specs.{Leavings.AreLeavingsAhead, Leavings.LeavesLast}
use Rattle.plan_explain.specs.{FirstLines.IsFirstLine, Leavings.leaves_lines, Cycles.cycle_lines, Chains.AreChainLines, Parts.AreBoth}

module _ (p : PlannedShop) (c : Cell) (t : ℕ) where
  -- along the nodes leads a longest path ahead to the leaving of job j; there are none where it is gone
  abbrev pub IsChainTo : ℕ → (ℕ → ℕ) → List Node → Type 0
  IsChainTo j leaves chain = (IsGone p c j × (chain ≡ [])) ⊎ ((IsGone p c j → ⊥) × PathAhead p c t chain (leaving p j) (leaves j))

  -- so to that of the least job that leaves last of those that aren't gone; there are none where all are
  abbrev pub IsChainToLast : (ℕ → ℕ) → List Node → Type 0
  IsChainToLast leaves chain = (((j : ℕ) → j < jobs p → IsGone p c j) × (chain ≡ [])) ⊎ ((j : ℕ) × LeavesLast p c leaves j × PathAhead p c t chain (leaving p j) (leaves j))

  -- which chain is printed: where one is asked for, that to the leaving of this job, else one of which Else holds
  abbrev pub IsChosen : Option ℕ → ((ℕ → ℕ) → List Node → Type 0) → (ℕ → ℕ) → List Node → Type 0
  IsChosen None Else leaves chain = Else leaves chain
  IsChosen (Some j) Else leaves chain = IsChainTo j leaves chain

module _ (names : NameBook) (p : PlannedShop) (c : Cell) (t : ℕ) where
  -- a line for each job's leaving, and then those of such a chain
  pub record AreMomentLines (Is : (ℕ → ℕ) → List Node → Type 0) (lines : List ℕ) : Type 0 where
    pub leaves : ℕ → ℕ
    pub leavings : AreLeavingsAhead p c t leaves
    pub chain : List Node
    pub is : Is leaves chain
    pub are : AreBoth (λ jobs. jobs ≡ leaves_lines names p c leaves) (AreChainLines names p c t chain) lines

  -- the lines behind the first one of a verdict: the arcs of the cycle; or the leavings, and the arcs of a chain: the one that is asked for, else of what is accepted that to the last, of a late one that which the first line gives
  abbrev pub AreLinesBehind : Option ℕ → Judged → List ℕ → Type 0
  AreLinesBehind asked (Accepted times) lines = AreMomentLines (IsChosen p c t asked (IsChainToLast p c t)) lines
  AreLinesBehind asked (Refused (Cycle nodes)) lines = lines ≡ cycle_lines names p nodes.items
  AreLinesBehind asked (Refused (Late job leaves chain times)) lines = AreMomentLines (IsChosen p c t asked (λ moments nodes. nodes ≡ chain.items)) lines

  -- the explanation of a verdict, by names, with the chain to the leaving of a job, where one is asked for: its first line, and then those behind it
  abbrev pub IsExplained : Option ℕ → Judged → List ℕ → Type 0
  IsExplained asked verdict = AreBoth (IsFirstLine p c t verdict) (AreLinesBehind asked verdict)
