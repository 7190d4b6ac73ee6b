-- The evidence of a cycle, from what is checked of it.
use Rattle.std.proofs.Common.{◌≡◌, List, [], ◌∷◌, Bool, true, false, IsTrue, All, refl, sym, subst}
use Rattle.std.specs.Bool.{OnTrue}
use Rattle.shop_base.specs.declared.node.Node.{Node}
use Rattle.shop_base.specs.Plan.{PlannedShop, IsWellShaped}
use Rattle.shop_base.specs.Graph.{IsNode, ArcsLead, AreDistinct, IsSimpleCycle}
use Rattle.shop_base.proofs.CycleLaw.{cycle_never_made, cycle_never_done}
use Rattle.alt_graph.specs.Evidence.{IsNodeBefore, IsCycle}
use Rattle.shop_base.specs.CycleLaw.{IsNeverDone, AreNeverMade}

-- what is checked of nodes that are a first one and others
pub record AreCycleParts (p : PlannedShop) (nodes : List Node) (first : Node) (rest : List Node) : Type 0 where
  pub of_shop : All (IsNode p) nodes
  pub least : All (IsNodeBefore first) rest
  pub arcs : ArcsLead p first rest first
  pub distinct : AreDistinct nodes

module _ (p : PlannedShop) (nodes : List Node) (first : Node) (rest : List Node) (are : nodes ≡ first ∷ rest) where
  pub cycle_parts : IsCycle p nodes → AreCycleParts p nodes first rest
  cycle_parts cycle =
      let (simple, of_shop, least) = (let all : IsCycle p (first ∷ rest) = subst (IsCycle p) are cycle in all) in
      record { of_shop = subst (All (IsNode p)) (sym are) of_shop; least = least; arcs = simple.1; distinct = subst AreDistinct (sym are) simple.0 }

  pub cycle_from_parts : AreCycleParts p nodes first rest → IsCycle p nodes
  cycle_from_parts parts =
      subst (IsCycle p) (sym are) ((subst AreDistinct are parts.distinct, parts.arcs), subst (All (IsNode p)) are parts.of_shop, parts.least)

pub cycle_simple : (p : PlannedShop) (nodes : List Node) → IsCycle p nodes → IsSimpleCycle p nodes
cycle_simple p [] cycle = absurd cycle
cycle_simple p (u ∷ us) cycle = cycle.0

-- no run makes a move of a cycle, and none ends
pub cycle_stops : (p : PlannedShop) (nodes : List Node) → IsWellShaped p → IsCycle p nodes → AreNeverMade p nodes × IsNeverDone p
cycle_stops p nodes shaped cycle = let simple = cycle_simple p nodes cycle in (cycle_never_made p nodes shaped simple, cycle_never_done p nodes shaped simple)

pub untrue : false ≡ true → ⊥
untrue bad = cc

pub on_yes : (yes : Bool) (P : Type 0) → (IsTrue yes → P) → OnTrue yes P
on_yes true P holds = holds refl
on_yes false P holds = tt
