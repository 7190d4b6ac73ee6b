-- Texts of chains and first lines from their parts.
use Rattle.std.proofs.Common.{◌≡◌, ℕ, ◌<◌, ◌^◌, List, [], ◌∷◌, ◌++◌, inl, inr, Result, Ok, Err, OnOk, refl, ap, subst, ◌∙◌}
use Rattle.std.proofs.lemmas.List.{append_assoc}
use Rattle.shop_base.specs.{declared.node.Node.Node, Plan.{PlannedShop, jobs}, Cell.{Cell, IsGone}, Graph.leaving, Ahead.PathAhead}
use Rattle.alt_graph.specs.Times.{NodeTimes, IsPathFromBy}
use Rattle.people_names.specs.NameBooks.{NameBook}
use Rattle.plan_verifier.specs.{Leavings.{leaves_in, LeavesLast}, Rest.AreOrderedAhead}
use Rattle.plan_verifier.specs.{declared.node_bound.NodeBound.NodeBound, declared.verdict.Judged.Judged}
use Rattle.plan_verifier.specs.{declared.verdict.Judged.TheVariants.{Accepted, Refused}, Held.IsBoundOf}
use Rattle.plan_verifier.specs.RestVerdicts.{IsAcceptedAhead}
use Rattle.plan_verifier.proofs.GoingOn.{leavings_ahead}
use Rattle.plan_explain.specs.{Added.Adds, Chains.{reached_lines, IsLongest, IsChainOrNone, AreChainLines}}
use Rattle.plan_explain.specs.{ChainsFound.{AreLinesOf, IsFound}, Explained.{IsChainTo, IsChainToLast, AreMomentLines}}
use Rattle.plan_explain.specs.{FirstLines.{IsLineByTimes, IsFirstLine}, Holds.node_bound_line}
use Rattle.plan_explain.proofs.AheadPaths.{leaving_chain}

-- the lines of a chain are that of its first node and those of the others
pub chain_parts : {T E : Type 0} (names : NameBook) (p : PlannedShop) (c : Cell) (t : ℕ) (first : Node) (rest : List Node) (b : NodeBound) (r : Result T E) (old mid new : List ℕ) → IsBoundOf p c t first b
    → mid ≡ old ++ node_bound_line names p.shop first b → OnOk r (new ≡ mid ++ reached_lines names p b.moment first rest) → OnOk r (Adds (AreChainLines names p c t (first ∷ rest)) old new)
chain_parts names p c t first rest b (Ok x) old mid new is one two = (
  node_bound_line names p.shop first b ++ reached_lines names p b.moment first rest,
  (b, is, refl),
  two ∙ ap (λ l. l ++ reached_lines names p b.moment first rest) one ∙ append_assoc old (node_bound_line names p.shop first b) (reached_lines names p b.moment first rest),
)
chain_parts names p c t first rest b (Err e) old mid new is one two = tt

-- by the earliest moments, and of the chain that is printed, the lines are those behind the first one
pub moment_lines_of : (names : NameBook) (p : PlannedShop) (c : Cell) (t : ℕ) (times : NodeTimes) (chain : List Node) (Is : (ℕ → ℕ) → List Node → Type 0) → AreOrderedAhead p c t times → Is (leaves_in p times) chain
    → (lines : List ℕ) → AreLinesOf names p c t (leaves_in p times) chain lines → AreMomentLines names p c t Is lines
moment_lines_of names p c t times chain Is ordered is lines are = record { leaves = leaves_in p times; leavings = leavings_ahead p c t times ordered; chain = chain; is = is; are = are }

-- ---- the chain that is printed

pub some_chain : (p : PlannedShop) (c : Cell) (t : ℕ) (nodes : List Node) → IsLongest p c t nodes → IsChainOrNone p c t nodes
some_chain p c t [] is = tt
some_chain p c t (u ∷ us) is = is

module _ (p : PlannedShop) (c : Cell) (t : ℕ) (times : NodeTimes) where
  pub chain_found : (j n : ℕ) (nodes : List Node) → AreOrderedAhead p c t times → j < jobs p → (IsGone p c j → ⊥) → IsPathFromBy times (leaving p j) nodes → n ≡ leaves_in p times j → n < 2 ^ 64
      → IsFound p c t times (IsChainTo p c t j) nodes
  chain_found j n nodes ordered inside still by is small =
      let (path, chain) = leaving_chain p c t n j times nodes ordered inside still by is small in
      record { is = inr (still, subst (λ (m : ℕ). PathAhead p c t nodes (leaving p j) m) is path); fit = some_chain p c t nodes chain }

  pub last_found : (j : ℕ) (nodes : List Node) → LeavesLast p c (leaves_in p times) j → IsFound p c t times (IsChainTo p c t j) nodes → IsFound p c t times (IsChainToLast p c t) nodes
  last_found j nodes last found = record {
    is = elim found.is [
      | inl (gone, none) ↦ absurd (last.here gone)
      | inr (still, path) ↦ inr (j, last, path)
    ];
    fit = found.fit;
  }

  pub nobody_found : ((j : ℕ) → j < jobs p → IsGone p c j) → IsFound p c t times (IsChainToLast p c t) []
  nobody_found gone = record { is = inl (gone, refl); fit = tt }

-- the line of a verdict is of the rest
pub first_line_by_times : (p : PlannedShop) (c : Cell) (t : ℕ) (verdict : Judged) (line : List ℕ) → IsAcceptedAhead p c t verdict → IsLineByTimes p verdict line → IsFirstLine p c t verdict line
first_line_by_times p c t (Accepted times) line accepted is = record { leaves = leaves_in p times; leavings = leavings_ahead p c t times accepted.0; text = is }
first_line_by_times p c t (Refused why) line accepted is = is
