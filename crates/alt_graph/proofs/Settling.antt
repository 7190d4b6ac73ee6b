-- Nodes that are settled: ranked, or waiting for another.
use Rattle.std.proofs.Common.{◌≡◌, ℕ, ◌+◌, ◌-◌, ◌<◌, ◌≤◌, Option, None, Some, MatchOption, length, arith, refl, sym, ap, ◌∙◌, subst, ◌⊎◌, inl, inr}
use Rattle.std.proofs.lemmas.Bool.{cases_lt, cases_eq}
use Rattle.shop_base.specs.declared.node.Node.{Node}
use Rattle.shop_base.specs.Plan.{PlannedShop, jobs, steps, nominal}
use Rattle.shop_base.specs.Graph.{node, IsNode, Arc, job_arc}
use Rattle.shop_base.proofs.Cycles.{source_node}
use Rattle.alt_graph.specs.declared.times.NodeTime.{NodeTime}
use Rattle.alt_graph.specs.declared.times.TheConstants.{UNRANKED}
use Rattle.alt_graph.specs.Sources.{IsJobArc, IsBlockingArc}
use Rattle.alt_graph.specs.Times.{time_at, rank_of}
use Rattle.alt_graph.specs.Ranking.{PlanRanking, IsRanked, AreRanked, Grows, IsSettled, AreSettled}
use Rattle.alt_graph.specs.Places.{node_at}
use Rattle.alt_graph.proofs.NodeNumbers.{node_same}
use Rattle.alt_graph.proofs.ArcKinds.{arc_kind, target_node}

-- nothing has changed
pub grows_none : (r : PlanRanking) → Grows r r
grows_none r = record { plan = refl; bounds = refl; longer = omega arith; known = λ v is. inl refl }

pub grows_on : (r s q : PlanRanking) → Grows r s → Grows s q → Grows r q
grows_on r s q one other = record {
  plan = other.plan ∙ one.plan;
  bounds = other.bounds ∙ one.bounds;
  longer = omega (arith, one.longer, other.longer);
  known = λ v is. go v (one.known v is) (other.known v (rw one.plan is));
}
  where
    go : (v : Node) → (time_at s.times v ≡ time_at r.times v) ⊎ ((rank_of r.times v ≡ UNRANKED) × (length r.done ≤ rank_of s.times v))
        → (time_at q.times v ≡ time_at s.times v) ⊎ ((rank_of s.times v ≡ UNRANKED) × (length s.done ≤ rank_of q.times v))
        → (time_at q.times v ≡ time_at r.times v) ⊎ ((rank_of r.times v ≡ UNRANKED) × (length r.done ≤ rank_of q.times v))
    go v (inl same) (inl same') = inl (same' ∙ same)
    go v (inl same) (inr (free, after)) = inr (sym (ap (λ (row : NodeTime). row.rank) same) ∙ free, omega (arith, one.longer))
    go v (inr (free, after)) (inl same') = inr (free, omega (arith, ap (λ (row : NodeTime). row.rank) same'))
    go v (inr (free, after)) (inr (free', after')) = inr (free, omega (arith, one.longer))

-- a settled node stays settled
pub settled_still : (r s : PlanRanking) (n : ℕ) (v : Node) → IsNode r.plan v → Grows r s → n ≤ length r.done → IsSettled r n v → IsSettled s n v
settled_still r s n v is grows le (inl ranked) = go (grows.known v is)
  where
    go : (time_at s.times v ≡ time_at r.times v) ⊎ ((rank_of r.times v ≡ UNRANKED) × (length r.done ≤ rank_of s.times v)) → IsSettled s n v
    go (inl same) = inl (λ free. ranked (sym (ap (λ (row : NodeTime). row.rank) same) ∙ free))
    go (inr (free, after)) = absurd (ranked free)
settled_still r s n v is grows le (inr (u, d, arc, after)) = go (grows.known u (source_node r.plan u v d arc))
  where
    go : (time_at s.times u ≡ time_at r.times u) ⊎ ((rank_of r.times u ≡ UNRANKED) × (length r.done ≤ rank_of s.times u)) → IsSettled s n v
    go (inl same) = inr (u, d, rw grows.plan arc, omega (arith, ap (λ (row : NodeTime). row.rank) same))
    go (inr (free, after')) = inr (u, d, rw grows.plan arc, omega arith)

-- what is settled at a later rank is settled at an earlier one
pub settled_earlier : (r : PlanRanking) (n m : ℕ) (v : Node) → n ≤ m → IsSettled r m v → IsSettled r n v
settled_earlier r n m v le (inl ranked) = inl ranked
settled_earlier r n m v le (inr (u, d, arc, after)) = inr (u, d, arc, omega arith)

-- the node to which the one arc of a kind leads is settled
pub target_settled : (Kind : Node → Node → ℕ → Type 0) → ((u v w : Node) (d e : ℕ) → Kind u v d → Kind u w e → v ≡ w)
    → (r : PlanRanking) (n : ℕ) (u : Node) (o : Option Node) → MatchOption o ((v : Node) (d : ℕ) → Kind u v d → ⊥) (λ v. (d : ℕ) × Kind u v d)
    → ((x : Node) → o ≡ Some x → IsSettled r n x) → (v : Node) (d : ℕ) → Kind u v d → IsSettled r n v
target_settled Kind once r n u None none settled v d arc = absurd (none v d arc)
target_settled Kind once r n u (Some x) (e, other) settled v d arc = subst (λ (w : Node). IsSettled r n w) (once u x v e d other arc) (settled x refl)

-- and is a node of the plan
pub target_in : (p : PlannedShop) (Kind : Node → Node → ℕ → Type 0) (u : Node) → ((v : Node) (d : ℕ) → Kind u v d → Arc p u v d)
    → (o : Option Node) → MatchOption o ((v : Node) (d : ℕ) → Kind u v d → ⊥) (λ v. (d : ℕ) × Kind u v d) → (x : Node) → o ≡ Some x → IsNode p x
target_in p Kind u arcs None none x is = absurd cc
target_in p Kind u arcs (Some y) (d, arc) x is = (let same : y ≡ x = cc in subst (λ (w : Node). IsNode p w) same (target_node p u y d (arcs y d arc)))

-- after the n-th ranked node's targets are settled, all nodes are, one rank later
pub settled_next : (r s : PlanRanking) (n : ℕ) → AreRanked r → n < length r.done → length r.done < UNRANKED → Grows r s → AreSettled r n
    → ((v : Node) (d : ℕ) → IsJobArc r.plan (node_at r.done n) v d → IsSettled s (n + 1) v)
    → ((v : Node) (d : ℕ) → IsBlockingArc r.plan (node_at r.done n) v d → IsSettled s (n + 1) v)
    → AreSettled s (n + 1)
settled_next r s n sound within few grows settled job blocking v is = go (settled v here)
  where
    here : IsNode r.plan v
    here = rw grows.plan at is

    kind : (u : Node) (d : ℕ) → node_at r.done n ≡ u → IsJobArc r.plan u v d ⊎ IsBlockingArc r.plan u v d → IsSettled s (n + 1) v
    kind u d same (inl arc) = job v d (subst (λ (w : Node). IsJobArc r.plan w v d) (sym same) arc)
    kind u d same (inr arc) = blocking v d (subst (λ (w : Node). IsBlockingArc r.plan w v d) (sym same) arc)

    waits : (u : Node) (d : ℕ) → Arc r.plan u v d → (n < rank_of r.times u) ⊎ (rank_of r.times u ≤ n) → n ≤ rank_of r.times u → IsSettled s (n + 1) v
    waits u d arc (inl later) after = settled_still r s (n + 1) v here grows (omega arith) (inr (u, d, arc, omega arith))
    waits u d arc (inr at) after =
        let same : rank_of r.times u ≡ n = omega arith in
        let ranked : IsRanked r.times u = λ free. omega (arith, same, free) in
        kind u d (sym (ap (node_at r.done) same) ∙ sound.places u (source_node r.plan u v d arc) ranked) (arc_kind r.plan u v d arc)

    go : IsSettled r n v → IsSettled s (n + 1) v
    go (inl ranked) = settled_still r s (n + 1) v here grows (omega arith) (inl ranked)
    go (inr (u, d, arc, after)) = waits u d arc (cases_lt n (rank_of r.times u)) after

-- after the first places are settled, all nodes are, at the first rank
pub settled_first : (r : PlanRanking) → ((j : ℕ) → j < jobs r.plan → IsSettled r 0 (node j 0)) → AreSettled r 0
settled_first r first v is = elim (cases_eq v.place 0) [
  | inl same ↦ subst (λ (w : Node). IsSettled r 0 w) (node_same (node v.job 0) v refl (sym same)) (first v.job is.job)
  | inr other ↦ (
      let within : v.place - 1 < steps r.plan v.job = omega (arith, is.place) in
      let above : (v.place - 1) + 1 ≡ v.place = omega arith in
      inr (node v.job (v.place - 1), nominal r.plan v.job (v.place - 1), subst (λ (k : ℕ). Arc r.plan (node v.job (v.place - 1)) (node v.job k) (nominal r.plan v.job (v.place - 1))) above (job_arc v.job (v.place - 1) within), omega arith))
]

-- once all ranked nodes are seen, what waits does so for a node without a rank
pub settled_all : (r : PlanRanking) (n : ℕ) → AreRanked r → length r.done ≤ n → AreSettled r n → AreSettled r UNRANKED
settled_all r n sound all settled v is = go (settled v is)
  where
    waits : (u : Node) (d : ℕ) → Arc r.plan u v d → n ≤ rank_of r.times u → (rank_of r.times u ≡ UNRANKED) ⊎ (rank_of r.times u ≡ UNRANKED → ⊥) → IsSettled r UNRANKED v
    waits u d arc after (inl free) = inr (u, d, arc, omega arith)
    waits u d arc after (inr ranked) = absurd (omega (arith, sound.within u (source_node r.plan u v d arc) ranked))

    go : IsSettled r n v → IsSettled r UNRANKED v
    go (inl ranked) = inl ranked
    go (inr (u, d, arc, after)) = waits u d arc after (cases_eq (rank_of r.times u) UNRANKED)
