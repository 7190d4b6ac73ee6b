-- Closed walks along arcs: a plan without a cycle has none.
use Rattle.std.proofs.Common.{◌≡◌, ◌≢◌, ℕ, zero, suc, ◌<◌, ◌≤◌, ◌⊎◌, inl, inr, List, [], ◌∷◌, ◌++◌, length, arith, sym, ap, subst}
use Rattle.std.proofs.lemmas.Bool.{cases_eq}
use Rattle.shop_base.specs.declared.node.Node.{Node}
use Rattle.shop_base.specs.Plan.{PlannedShop}
use Rattle.shop_base.specs.Graph.{HasArc, ArcsLead, IsNew, AreDistinct, IsSimpleCycle}
use Rattle.shop_base.proofs.Cycles.{IsAmong}
use Rattle.alt_graph.proofs.NodeNumbers.{node_same}

-- a closed walk, with fewer than n nodes between its ends
record IsClosed (p : PlannedShop) (n : ℕ) : Type 0 where
  at : Node
  along : List Node
  leads : ArcsLead p at along at
  short : length along < n

same_node : (u v : Node) → (u ≡ v) ⊎ (u ≢ v)
same_node u v = go (cases_eq u.job v.job) (cases_eq u.place v.place)
  where
    go : (u.job ≡ v.job) ⊎ (u.job ≢ v.job) → (u.place ≡ v.place) ⊎ (u.place ≢ v.place) → (u ≡ v) ⊎ (u ≢ v)
    go (inl job) (inl place) = inl (node_same u v job place)
    go (inl job) (inr place) = inr λ same. place (ap (λ (w : Node). w.place) same)
    go (inr job) _ = inr λ same. job (ap (λ (w : Node). w.job) same)

-- a node is in the list or not
pub new_or_among : (u : Node) (ws : List Node) → IsNew u ws ⊎ IsAmong u ws
new_or_among u [] = inl tt
new_or_among u (w ∷ ws) = go (same_node u w) (new_or_among u ws)
  where
    go : (u ≡ w) ⊎ (u ≢ w) → IsNew u ws ⊎ IsAmong u ws → IsNew u (w ∷ ws) ⊎ IsAmong u (w ∷ ws)
    go (inl same) _ = inr (inl same)
    go (inr apart) (inl new) = inl (apart, new)
    go (inr apart) (inr among) = inr (inr among)

-- arcs that lead to w and from there to v lead to v
pub leads_append : (p : PlannedShop) (u : Node) (xs : List Node) (w : Node) (ys : List Node) (v : Node) → ArcsLead p u xs w → ArcsLead p w ys v → ArcsLead p u (xs ++ w ∷ ys) v
leads_append p u [] w ys v arc rest = (arc, rest)
leads_append p u (x ∷ xs) w ys v (arc, more) rest = (arc, leads_append p x xs w ys v more rest)

module _ (p : PlannedShop) where
  -- arcs that lead along a list lead to each of its nodes, along fewer
  leads_to : (u : Node) (ws : List Node) (v x : Node) → ArcsLead p u ws v → IsAmong x ws → (ys : List Node) × (ArcsLead p u ys x × (length ys < length ws))
  leads_to u [] v x leads among = absurd among
  leads_to u (w ∷ ws) v x (arc, rest) (inl same) = ([], (subst (λ (y : Node). HasArc p u y) (sym same) arc, omega arith))
  leads_to u (w ∷ ws) v x (arc, rest) (inr among) = let found = leads_to w ws v x rest among in (w ∷ found.0, ((arc, found.1.0), omega (arith, found.1.1)))

  weaker : (n k : ℕ) → n ≤ k → IsClosed p n → IsClosed p k
  weaker n k le c = record { at = c.at; along = c.along; leads = c.leads; short = omega (arith, c.short) }

  distinct_or_closed : (u : Node) (ws : List Node) (v : Node) → ArcsLead p u ws v → AreDistinct ws ⊎ IsClosed p (length ws)
  distinct_or_closed u [] v leads = inl tt
  distinct_or_closed u (w ∷ ws) v (arc, rest) = go (new_or_among w ws) (distinct_or_closed w ws v rest)
    where
      go : IsNew w ws ⊎ IsAmong w ws → AreDistinct ws ⊎ IsClosed p (length ws) → AreDistinct (w ∷ ws) ⊎ IsClosed p (length (w ∷ ws))
      go (inl new) (inl distinct) = inl (new, distinct)
      go (inl new) (inr closed) = inr (weaker (length ws) (length (w ∷ ws)) (omega arith) closed)
      go (inr among) _ = let found = leads_to w ws v w rest among in inr (record { at = w; along = found.0; leads = found.1.0; short = omega (arith, found.1.1) })

  module _ (acyclic : (nodes : List Node) → IsSimpleCycle p nodes → ⊥) where
    no_closed : (n : ℕ) → IsClosed p n → ⊥
    no_closed zero c = omega (arith, c.short)
    no_closed (suc n) c = go (no_closed n) (new_or_among c.at c.along) (distinct_or_closed c.at c.along c.at c.leads)
      where
        go : (IsClosed p n → ⊥) → IsNew c.at c.along ⊎ IsAmong c.at c.along → AreDistinct c.along ⊎ IsClosed p (length c.along) → ⊥
        go again (inl new) (inl distinct) = acyclic (c.at ∷ c.along) ((new, distinct), c.leads)
        go again (inl new) (inr closed) = again (weaker (length c.along) n (omega (arith, c.short)) closed)
        go again (inr among) _ = let found = leads_to c.at c.along c.at c.at c.leads among in
            again (record { at = c.at; along = found.0; leads = found.1.0; short = omega (arith, found.1.1, c.short) })

-- arcs lead from no node back to it
pub no_way_back : (p : PlannedShop) (u : Node) (ws : List Node) → ((nodes : List Node) → IsSimpleCycle p nodes → ⊥) → ArcsLead p u ws u → ⊥
no_way_back p u ws acyclic leads = no_closed p acyclic (suc (length ws)) (record { at = u; along = ws; leads = leads; short = omega arith })

-- where each arc of plan q is a way in plan p, and p has no cycle, q has none
pub no_cycle_by_ways : (p q : PlannedShop) → ((u v : Node) → HasArc q u v → (ws : List Node) × ArcsLead p u ws v) → ((nodes : List Node) → IsSimpleCycle p nodes → ⊥)
    → (nodes : List Node) → IsSimpleCycle q nodes → ⊥
no_cycle_by_ways p q way acyclic [] cycle = cycle
no_cycle_by_ways p q way acyclic (u ∷ us) (distinct, leads) = let found = along u us u leads in no_way_back p u found.0 acyclic found.1
  where
    along : (u : Node) (ws : List Node) (v : Node) → ArcsLead q u ws v → (ys : List Node) × ArcsLead p u ys v
    along u [] v arc = way u v arc
    along u (w ∷ ws) v (arc, rest) =
        let first = way u w arc in
        let others = along w ws v rest in
        (first.0 ++ w ∷ others.0, leads_append p u first.0 w others.0 v first.1 others.1)
