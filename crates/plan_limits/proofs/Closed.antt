-- Walks backwards along arcs: in a plan without a cycle no node comes twice, so a walk has no more nodes than there are numbers.
use Rattle.std.proofs.Common.{ℕ, zero, suc, ◌<◌, ◌≤◌, ◌⊎◌, inl, inr, List, [], ◌∷◌, ◌++◌, length, arith, sym, subst}
use Rattle.shop_base.specs.declared.node.Node.{Node}
use Rattle.shop_base.specs.Plan.{PlannedShop, IsWellShaped}
use Rattle.shop_base.specs.Graph.{HasArc, ArcsLead, IsNew, AreDistinct, IsNode}
use Rattle.shop_base.proofs.Cycles.{IsAmong, source_node}
use Rattle.alt_graph.specs.Places.{node_at}
use Rattle.alt_graph.proofs.ClosedWalks.{new_or_among, leads_append, no_way_back}
use Rattle.plan_verifier.specs.Accepted.{HasNoCycle}
use Rattle.plan_limits.proofs.Counts.{number_count, nodes_few}

-- an arc leads to v from the first node of the list, and to each from the next
abbrev pub Back : PlannedShop → Node → List Node → Type 0
Back p v [] = Unit {0}
Back p v (u ∷ us) = HasArc p u v × Back p u us

module _ (p : PlannedShop) (acyclic : HasNoCycle p) where
  back_leads : (v : Node) (us : List Node) (x : Node) → Back p v us → IsAmong x us → (ws : List Node) × ArcsLead p x ws v
  back_leads v [] x back among = absurd among
  back_leads v (u ∷ us) x (arc, back) (inl same) = ([], subst (λ (y : Node). HasArc p y v) (sym same) arc)
  back_leads v (u ∷ us) x (arc, back) (inr among) = let found = back_leads u us x back among in (found.0 ++ u ∷ [], leads_append p x found.0 u [] v found.1 arc)

  back_distinct : (v : Node) (us : List Node) → Back p v us → AreDistinct (v ∷ us)
  back_distinct v [] back = (tt, tt)
  back_distinct v (u ∷ us) (arc, back) = go (back_distinct u us back) (new_or_among v (u ∷ us))
    where
      go : AreDistinct (u ∷ us) → IsNew v (u ∷ us) ⊎ IsAmong v (u ∷ us) → AreDistinct (v ∷ u ∷ us)
      go rest (inl new) = (new, rest)
      go rest (inr among) = let found = back_leads v (u ∷ us) v (arc, back) among in absurd (no_way_back p v found.0 acyclic found.1)

  back_nodes : (v : Node) (us : List Node) → IsNode p v → Back p v us → (i : ℕ) → i < length (v ∷ us) → IsNode p (node_at (v ∷ us) i)
  back_nodes v [] is back zero within = is
  back_nodes v [] is back (suc i) within = absurd (omega arith)
  back_nodes v (u ∷ us) is back zero within = is
  back_nodes v (u ∷ us) is back (suc i) within = back_nodes u us (source_node p u v back.0.0 back.0.1) back.1 i (omega arith)

-- a walk has no more nodes than there are numbers
pub back_few : (p : PlannedShop) → IsWellShaped p → HasNoCycle p → (v : Node) (us : List Node) → IsNode p v → Back p v us → length (v ∷ us) ≤ number_count p
back_few p shaped acyclic v us is back = nodes_few p shaped (v ∷ us) (back_distinct p acyclic v us back) (back_nodes p acyclic v us is back)
