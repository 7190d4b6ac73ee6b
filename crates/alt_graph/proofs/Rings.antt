-- Lists whose neighbours are joined by arcs, by places, and the simple cycles that they are.
use Rattle.std.proofs.Common.{◌≡◌, ◌≢◌, ℕ, suc, ◌+◌, ◌<◌, ◌≤◌, List, [], ◌∷◌, length, All, arith, refl, sym, ap, ◌∙◌, subst, ◌⊎◌, inl, inr}
use Rattle.std.proofs.lemmas.Bool.{cases_lt, cases_order}
use Rattle.std.proofs.lemmas.List.{get_or_default}
use Rattle.shop_base.specs.declared.node.Node.{Node}
use Rattle.shop_base.specs.Plan.{PlannedShop}
use Rattle.shop_base.proofs.Cycles.{source_node}
use Rattle.shop_base.specs.Graph.{node, IsNode, HasArc, ArcsLead}
use Rattle.alt_graph.specs.declared.cycles.Trail.{Trail}
use Rattle.alt_graph.proofs.NodeLists.{distinct_from}
use Rattle.alt_graph.proofs.NodeNumbers.{node_same}
use Rattle.alt_graph.specs.Evidence.{IsNodeBefore, IsCycle}
use Rattle.alt_graph.specs.Trails.{IsTrail, IsPlaceAfter, IsLeastPlace, AreFrom, trail_at, trail_length}
use Rattle.alt_graph.specs.Places.{node_at}

-- distinct nodes, each with an arc to the next and the last with one to the first, which is the least
pub record IsRing (p : PlannedShop) (nodes : List Node) : Type 0 where
  pub some : 0 < length nodes
  pub arcs : (i : ℕ) → suc i < length nodes → HasArc p (node_at nodes i) (node_at nodes (suc i))
  pub closes : (i : ℕ) → suc i ≡ length nodes → HasArc p (node_at nodes i) (node_at nodes 0)
  pub apart : (i j : ℕ) → i < j → j < length nodes → node_at nodes i ≢ node_at nodes j
  pub least : (i : ℕ) → i < length nodes → IsNodeBefore (node_at nodes i) (node_at nodes 0) → ⊥

lead_from : (p : PlannedShop) (u : Node) (us : List Node) (v : Node)
    → ((i : ℕ) → suc i < length (u ∷ us) → HasArc p (node_at (u ∷ us) i) (node_at (u ∷ us) (suc i)))
    → ((i : ℕ) → suc i ≡ length (u ∷ us) → HasArc p (node_at (u ∷ us) i) v) → ArcsLead p u us v
lead_from p u [] v arcs closes = closes 0 refl
lead_from p u (w ∷ ws) v arcs closes = (arcs 0 (omega arith), lead_from p w ws v (λ i lt. arcs (suc i) (omega arith)) (λ i same. closes (suc i) (omega arith)))

-- another node that isn't before the first one is behind it
behind_first : (u v : Node) → u ≢ v → (IsNodeBefore v u → ⊥) → IsNodeBefore u v
behind_first u v apart least = elim (cases_order u.job v.job) [
  | inl same ↦ elim (cases_order u.place v.place) [
    | inl equal ↦ absurd (apart (node_same u v same equal))
    | inr (inl lower) ↦ inr (same, lower)
    | inr (inr higher) ↦ absurd (least (inr (sym same, higher)))
  ]
  | inr (inl less) ↦ inl less
  | inr (inr more) ↦ absurd (least (inl more))
]

-- such a list is a cycle, its least node first
pub ring_cycle : (p : PlannedShop) (nodes : List Node) → IsRing p nodes → IsCycle p nodes
ring_cycle p [] ring = absurd (omega (arith, ring.some))
ring_cycle p (u ∷ us) ring = ((distinct_from (u ∷ us) (λ j within i lt. ring.apart i j lt within), lead_from p u us u ring.arcs ring.closes), of_shop, least)
  where
    least : All (IsNodeBefore u) us
    least = λ k d lt. subst (IsNodeBefore u) (get_or_default us k (node 0 0) d lt)
        (behind_first u (node_at us k) (ring.apart 0 (suc k) (omega arith) (omega arith)) (ring.least (suc k) (omega arith)))

    source_at : (i : ℕ) → i < length (u ∷ us) → (v : Node) × HasArc p (node_at (u ∷ us) i) v
    source_at i lt = elim (cases_lt (suc i) (length (u ∷ us))) [
      | inl lower ↦ (node_at (u ∷ us) (suc i), ring.arcs i lower)
      | inr higher ↦ (node_at (u ∷ us) 0, ring.closes i (omega arith))
    ]

    of_shop : All (IsNode p) (u ∷ us)
    of_shop = λ k d lt. subst (IsNode p) (get_or_default (u ∷ us) k (node 0 0) d lt)
        (let found = source_at k lt in source_node p (node_at (u ∷ us) k) found.0 found.1.0 found.1.1)

module _ (p : PlannedShop) (trail : Trail) (is : IsTrail p trail) (place : ℕ) (least : IsLeastPlace trail place) (nodes : List Node) (from : AreFrom trail place nodes) where
  abbrev start : ℕ
  start = trail.start

  abbrev count : ℕ
  count = trail_length trail

  arc_between : (u v : Node) (a b : ℕ) → u ≡ trail_at trail a → v ≡ trail_at trail b → HasArc p (trail_at trail a) (trail_at trail b) → HasArc p u v
  arc_between u v a b one other arc = subst (λ (w : Node). HasArc p w v) (sym one) (subst (λ (w : Node). HasArc p (trail_at trail a) w) (sym other) arc)

  -- from a place to the one before, or from the start to the last
  arc_back : (a b : ℕ) → b + 1 ≡ a → a < count → HasArc p (trail_at trail a) (trail_at trail b)
  arc_back a b same within = subst (λ (n : ℕ). HasArc p (trail_at trail n) (trail_at trail b)) same (is.back b (omega arith))

  arc_over : (a b : ℕ) → a ≡ start → b + 1 ≡ count → HasArc p (trail_at trail a) (trail_at trail b)
  arc_over a b first last = subst (λ (n : ℕ). HasArc p (trail_at trail n) (trail_at trail b)) (sym first) (is.closes b last)

  next_arc : (i a b : ℕ) → suc i < length nodes → IsPlaceAfter trail place i a → IsPlaceAfter trail place (suc i) b → HasArc p (trail_at trail a) (trail_at trail b)
  next_arc i a b within (inl (le, one)) (inl (le', other)) = arc_back a b (omega (arith, least.after)) (omega (arith, least.within))
  next_arc i a b within (inl (le, one)) (inr (gt, other)) = arc_over a b (omega (arith, least.after)) (omega (arith, least.after, least.within))
  next_arc i a b within (inr (gt, one)) (inl (le, other)) = absurd (omega arith)
  next_arc i a b within (inr (gt, one)) (inr (gt', other)) = arc_back a b (omega arith) (omega (arith, least.after, least.within, from.size))

  last_arc : (i a b : ℕ) → suc i ≡ length nodes → IsPlaceAfter trail place i a → IsPlaceAfter trail place 0 b → HasArc p (trail_at trail a) (trail_at trail b)
  last_arc i a b last (inl (le, one)) (inl (le', other)) = arc_over a b (omega (arith, least.after, least.within, from.size, is.start)) (omega (arith, least.after, least.within, from.size, is.start))
  last_arc i a b last (inr (gt, one)) (inl (le', other)) = arc_back a b (omega (arith, least.after, least.within, from.size, is.start)) (omega (arith, least.after, least.within, from.size, is.start))
  last_arc i a b last one (inr (gt', other)) = absurd (omega (arith, least.after))

  places_apart : (i j a b : ℕ) → i < j → j < length nodes → IsPlaceAfter trail place i a → IsPlaceAfter trail place j b → (a < b) ⊎ (b < a)
  places_apart i j a b lt within (inl (le, one)) (inl (le', other)) = inr (omega arith)
  places_apart i j a b lt within (inl (le, one)) (inr (gt, other)) = inl (omega (arith, least.after, least.within, from.size, is.start))
  places_apart i j a b lt within (inr (gt, one)) (inl (le', other)) = absurd (omega arith)
  places_apart i j a b lt within (inr (gt, one)) (inr (gt', other)) = inr (omega arith)

  place_within : (i a : ℕ) → i < length nodes → IsPlaceAfter trail place i a → (start ≤ a) × (a < count)
  place_within i a within (inl (le, one)) = (omega (arith, least.after), omega (arith, least.within))
  place_within i a within (inr (gt, one)) = (omega (arith, least.after, least.within, from.size, is.start), omega (arith, least.after, least.within, from.size, is.start))

  -- the nodes of the cycle from its least place on
  pub turned_ring : IsRing p nodes
  turned_ring = record {
    some = omega (arith, from.size, is.start);
    arcs = λ i lt.
        let one = from.there i (omega arith) in
        let other = from.there (suc i) lt in
        arc_between _ _ one.0 other.0 one.2 other.2 (next_arc i one.0 other.0 lt one.1 other.1);
    closes = λ i last.
        let one = from.there i (omega arith) in
        let other = from.there 0 (omega arith) in
        arc_between _ _ one.0 other.0 one.2 other.2 (last_arc i one.0 other.0 last one.1 other.1);
    apart = λ i j lt within same.
        let one = from.there i (omega arith) in
        let other = from.there j within in
        let at : trail_at trail one.0 ≡ trail_at trail other.0 = sym one.2 ∙ same ∙ other.2 in
        differ one.0 other.0 (place_within i one.0 (omega arith) one.1).1 (place_within j other.0 within other.1).1 (places_apart i j one.0 other.0 lt within one.1 other.1) at;
    least = λ i within before.
        let first = from.there 0 (omega arith) in
        let here = from.there i within in
        let inside = place_within i here.0 within here.1 in
        least.least here.0 inside.0 inside.1 (subst (λ (w : Node). IsNodeBefore w (trail_at trail place)) here.2
        (subst (λ (w : Node). IsNodeBefore (node_at nodes i) w) (first.2 ∙ ap (trail_at trail) (first_place first.0 first.1)) before));
  }
    where
      differ : (a b : ℕ) → a < count → b < count → (a < b) ⊎ (b < a) → trail_at trail a ≡ trail_at trail b → ⊥
      differ a b in_a in_b (inl less) same = is.apart a b less in_b same
      differ a b in_a in_b (inr more) same = is.apart b a more in_a (sym same)

      first_place : (a : ℕ) → IsPlaceAfter trail place 0 a → a ≡ place
      first_place a (inl (le, one)) = omega arith
      first_place a (inr (gt, one)) = absurd (omega (arith, least.after))
