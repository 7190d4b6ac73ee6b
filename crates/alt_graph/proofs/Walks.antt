-- Walks backwards along arcs, among nodes without a rank.
use Rattle.std.proofs.Common.{◌≡◌, ◌≢◌, ℕ, zero, suc, ◌+◌, ◌<◌, ◌++◌, ◌∷◌, [], List, replicate, Option, None, Some, length, get_or, set, arith, refl, sym, ap, ◌∙◌, subst, ◌⊎◌, inl, inr, get_or-set_same, get_or-set_other}
use Rattle.std.specs.Prelude.{◌==◌, if◌then◌else◌}
use Rattle.std.proofs.lemmas.Bool.{cases_lt}
use Rattle.std.proofs.lemmas.Bool.Decides.{eqb_tells}
use Rattle.std.proofs.lemmas.List.{get_or_append_left, get_or_push, length_push, length-set, get_or-replicate, length-replicate}
use Rattle.std.proofs.lemmas.List.Sums.{sum_by-set, sum_by-cons}
use Rattle.shop_base.specs.declared.node.Node.{Node}
use Rattle.shop_base.specs.Plan.{PlannedShop, jobs}
use Rattle.shop_base.specs.Graph.{node, IsNode, HasArc}
use Rattle.alt_graph.specs.declared.times.NodeTime.{NodeTime}
use Rattle.alt_graph.specs.declared.times.TheConstants.{UNRANKED}
use Rattle.alt_graph.specs.declared.sources.ArcIn.{ArcIn}
use Rattle.alt_graph.specs.declared.cycles.Trail.{Trail}
use Rattle.alt_graph.specs.Sources.{IsArcIn}
use Rattle.alt_graph.specs.Lookups.{AreFirsts}
use Rattle.alt_graph.specs.Times.{NodeTimes, rank_of}
use Rattle.alt_graph.specs.Layout.{number_of, by_job}
use Rattle.alt_graph.specs.Ranking.{IsRanked}
use Rattle.alt_graph.specs.Trails.{IsTrail, IsWalk, unseen, trail_at}
use Rattle.alt_graph.specs.Places.{node_at}
use Rattle.alt_graph.proofs.NodeNumbers.{number_inside, cases_node, number_same}

-- ---- sources

-- the arc of one kind comes from a ranked node, where that one is
pub source_ranked : (Kind : Node → Node → ℕ → Type 0) → ((u w v : Node) (d e : ℕ) → Kind u v d → Kind w v e → (u ≡ w) × (d ≡ e))
    → (t : NodeTimes) (v : Node) (o : Option ArcIn) → IsArcIn Kind v o → ((s : ArcIn) → o ≡ Some s → IsRanked t s.node) → (u : Node) (d : ℕ) → Kind u v d → IsRanked t u
source_ranked Kind once t v None none ranked u d arc = absurd (none u d arc)
source_ranked Kind once t v (Some s) is ranked u d arc = subst (IsRanked t) (sym ((once u s.node v d s.length arc is).0)) (ranked s refl)

-- ---- the numbers that are seen

abbrev mark : ℕ → ℕ
mark place = if place == UNRANKED then 1 else 0

mark_free : (place : ℕ) → place ≡ UNRANKED → mark place ≡ 1
mark_free place is = elim (eqb_tells place UNRANKED) [
  | inl same ↦ rw same.0 refl
  | inr other ↦ absurd (other.1 is)
]

mark_placed : (place : ℕ) → place ≢ UNRANKED → mark place ≡ 0
mark_placed place placed = elim (eqb_tells place UNRANKED) [
  | inl same ↦ absurd (placed same.1)
  | inr other ↦ rw other.0 refl
]

unseen_all : (n : ℕ) → unseen (replicate n UNRANKED) ≡ n
unseen_all zero = refl
unseen_all (suc n) =
    let more : unseen (replicate (suc n) UNRANKED) ≡ 1 + unseen (replicate n UNRANKED) = sum_by-cons mark UNRANKED (replicate n UNRANKED) in
    omega (arith, more, unseen_all n)

pub unseen_less : (seen : List ℕ) (i place : ℕ) → i < length seen → get_or seen i 0 ≡ UNRANKED → place ≢ UNRANKED → unseen (set seen i place) + 1 ≡ unseen seen
unseen_less seen i place inside free placed =
    omega (arith, sum_by-set mark seen i place 0 inside, mark_free (get_or seen i 0) free, mark_placed place placed)

-- ---- walks

module _ (p : PlannedShop) (firsts : List ℕ) (are : AreFirsts p firsts) (rows : List NodeTime) (size : length rows ≡ get_or firsts (jobs p) 0) where
  abbrev times : NodeTimes
  times = by_job firsts rows

  -- a walk begins
  pub walk_none : (v : Node) → IsNode p v → rank_of times v ≡ UNRANKED → IsWalk p firsts rows [] (replicate (length rows) UNRANKED) v
  walk_none v is free = record {
    size = length-replicate (length rows) UNRANKED;
    next_node = is;
    next_free = free;
    nodes_in = λ i lt. absurd (omega arith);
    back = λ i lt. absurd (omega arith);
    last = λ i same. absurd (omega arith);
    marks = λ i lt. absurd (omega arith);
    marked_in = λ u other seen. absurd (seen (none u other));
    marked = λ u other seen. absurd (seen (none u other));
    count = omega (arith, unseen_all (length rows), length-replicate (length rows) UNRANKED);
  }
    where
      none : (u : Node) → IsNode p u → get_or (replicate (length rows) UNRANKED) (number_of firsts u) 0 ≡ UNRANKED
      none u other = get_or-replicate (length rows) (number_of firsts u) UNRANKED 0 (omega (arith, size, number_inside p firsts are u other))

  module _ (nodes : List Node) (seen : List ℕ) (v : Node) (walk : IsWalk p firsts rows nodes seen v) where
    pub inside : number_of firsts v < length seen
    inside = omega (arith, walk.size, size, number_inside p firsts are v walk.next_node)

    pub few_nodes : length nodes < UNRANKED
    few_nodes = omega (arith, walk.count, walk.size, size, are.few)

    module _ (free : get_or seen (number_of firsts v) 0 ≡ UNRANKED) where
      abbrev more : List Node
      more = nodes ++ v ∷ []

      abbrev after : List ℕ
      after = set seen (number_of firsts v) (length nodes)

      earlier : (i : ℕ) → i < length nodes → node_at more i ≡ node_at nodes i
      earlier i lt = get_or_append_left nodes (v ∷ []) (node 0 0) i lt

      newest : (i : ℕ) → length nodes ≡ i → node_at more i ≡ v
      newest i same = get_or_push nodes v (node 0 0) i same

      cases_place : (i : ℕ) → i < length more → (i < length nodes) ⊎ (length nodes ≡ i)
      cases_place i lt = elim (cases_lt i (length nodes)) [
        | inl lower ↦ inl lower
        | inr higher ↦ inr (omega (arith, length_push nodes v))
      ]

      seen_new : get_or after (number_of firsts v) 0 ≡ length nodes
      seen_new = get_or-set_same seen (number_of firsts v) (length nodes) 0 inside

      seen_other : (u : Node) → IsNode p u → u ≢ v → get_or after (number_of firsts u) 0 ≡ get_or seen (number_of firsts u) 0
      seen_other u other apart =
          let numbers_apart : number_of firsts u ≢ number_of firsts v = λ same. apart (number_same p firsts are u v other walk.next_node same) in
          get_or-set_other seen (number_of firsts v) (number_of firsts u) (length nodes) 0 numbers_apart

      nodes_more : (i : ℕ) → (i < length nodes) ⊎ (length nodes ≡ i) → IsNode p (node_at more i)
      nodes_more i (inl lower) = subst (IsNode p) (sym (earlier i lower)) (walk.nodes_in i lower)
      nodes_more i (inr same) = subst (IsNode p) (sym (newest i same)) walk.next_node

      back_more : (i : ℕ) → (i + 1 < length nodes) ⊎ (length nodes ≡ i + 1) → HasArc p (node_at more (i + 1)) (node_at more i)
      back_more i (inl lower) =
          subst (λ (w : Node). HasArc p w (node_at more i)) (sym (earlier (i + 1) lower))
          (subst (λ (w : Node). HasArc p (node_at nodes (i + 1)) w) (sym (earlier i (omega arith))) (walk.back i lower))
      back_more i (inr same) =
          subst (λ (w : Node). HasArc p w (node_at more i)) (sym (newest (i + 1) same))
          (subst (λ (w : Node). HasArc p v w) (sym (earlier i (omega arith))) (walk.last i (sym same)))

      marks_more : (i : ℕ) → (i < length nodes) ⊎ (length nodes ≡ i) → get_or after (number_of firsts (node_at more i)) 0 ≡ i
      marks_more i (inl lower) =
          let apart : node_at nodes i ≢ v = λ same. omega (arith, walk.marks i lower, ap (λ (w : Node). get_or seen (number_of firsts w) 0) same, free, few_nodes) in
          ap (λ (w : Node). get_or after (number_of firsts w) 0) (earlier i lower) ∙ seen_other (node_at nodes i) (walk.nodes_in i lower) apart ∙ walk.marks i lower
      marks_more i (inr same) = ap (λ (w : Node). get_or after (number_of firsts w) 0) (newest i same) ∙ seen_new ∙ same

      marked_in_more : (u : Node) → IsNode p u → (u ≡ v) ⊎ (u ≢ v) → get_or after (number_of firsts u) 0 ≢ UNRANKED → get_or after (number_of firsts u) 0 < length more
      marked_in_more u other (inl same) placed = omega (arith, ap (λ (w : Node). get_or after (number_of firsts w) 0) same, seen_new, length_push nodes v)
      marked_in_more u other (inr apart) placed =
          let was : get_or seen (number_of firsts u) 0 ≢ UNRANKED = λ is. placed (seen_other u other apart ∙ is) in
          omega (arith, seen_other u other apart, walk.marked_in u other was, length_push nodes v)

      marked_more : (u : Node) → IsNode p u → (u ≡ v) ⊎ (u ≢ v) → get_or after (number_of firsts u) 0 ≢ UNRANKED → node_at more (get_or after (number_of firsts u) 0) ≡ u
      marked_more u other (inl same) placed = newest _ (sym (ap (λ (w : Node). get_or after (number_of firsts w) 0) same ∙ seen_new)) ∙ sym same
      marked_more u other (inr apart) placed =
          let was : get_or seen (number_of firsts u) 0 ≢ UNRANKED = λ is. placed (seen_other u other apart ∙ is) in
          ap (node_at more) (seen_other u other apart) ∙ earlier _ (walk.marked_in u other was) ∙ walk.marked u other was

      -- the walk goes on
      pub walk_more : (u : Node) → IsNode p u → rank_of times u ≡ UNRANKED → HasArc p u v → IsWalk p firsts rows more after u
      walk_more u other unranked arc = record {
        size = length-set seen (number_of firsts v) (length nodes) ∙ walk.size;
        next_node = other;
        next_free = unranked;
        nodes_in = λ i lt. nodes_more i (cases_place i lt);
        back = λ i lt. back_more i (cases_place (i + 1) lt);
        last = λ i same. subst (λ (w : Node). HasArc p u w) (sym (newest i (omega (arith, length_push nodes v)))) arc;
        marks = λ i lt. marks_more i (cases_place i lt);
        marked_in = λ w is placed. marked_in_more w is (cases_node p firsts are w v is walk.next_node) placed;
        marked = λ w is placed. marked_more w is (cases_node p firsts are w v is walk.next_node) placed;
        count = omega (arith, length_push nodes v, length-set seen (number_of firsts v) (length nodes), unseen_less seen (number_of firsts v) (length nodes) inside free (λ same. omega (arith, few_nodes, same)), walk.count);
      }

      pub walk_shorter : unseen after < unseen seen
      walk_shorter = omega (arith, unseen_less seen (number_of firsts v) (length nodes) inside free (λ same. omega (arith, few_nodes, same)))

  -- where a node comes again
  pub walk_trail : (trail : Trail) (seen : List ℕ) (v : Node) → IsWalk p firsts rows trail.nodes.items seen v → get_or seen (number_of firsts v) 0 ≢ UNRANKED
      → trail.start ≡ get_or seen (number_of firsts v) 0 → IsTrail p trail
  walk_trail trail seen v walk placed is = record {
    start = omega (arith, is, walk.marked_in v walk.next_node placed);
    back = walk.back;
    closes = λ i same.
        let at : trail_at trail trail.start ≡ v = ap (trail_at trail) is ∙ walk.marked v walk.next_node placed in
        subst (λ (w : Node). HasArc p w (trail_at trail i)) (sym at) (walk.last i same);
    apart = λ i j lt within same. omega (arith, walk.marks i (omega arith), walk.marks j within, ap (λ (w : Node). get_or seen (number_of firsts w) 0) same);
  }
