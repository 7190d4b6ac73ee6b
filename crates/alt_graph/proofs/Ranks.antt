-- One more ranked node.
use Rattle.std.proofs.Common.{◌≡◌, ◌≢◌, ℕ, zero, suc, replicate, ◌+◌, ◌<◌, ◌≤◌, ◌++◌, ◌∷◌, [], List, length, get_or, set, sum_by, Option, None, Some, arith, refl, sym, ap, ◌∙◌, subst, ◌⊎◌, inl, inr}
use Rattle.std.proofs.lemmas.Bool.{cases_lt}
use Rattle.std.proofs.lemmas.Bool.Decides.{eqb_tells}
use Rattle.std.proofs.lemmas.List.{get_or_append_left, get_or_push, length_push, length-set, get_or_past, get_or-replicate, length-replicate}
use Rattle.std.proofs.lemmas.List.Sums.{sum_by-set, sum_by-cons, get_or-le-sum_by}
use Rattle.shop_base.specs.declared.node.Node.{Node}
use Rattle.shop_base.specs.Plan.{PlannedShop, jobs, IsWellShaped}
use Rattle.shop_base.specs.Graph.{node, IsNode, Arc}
use Rattle.shop_base.proofs.Cycles.{source_node}
use Rattle.alt_graph.specs.declared.times.NodeTime.{NodeTime}
use Rattle.alt_graph.specs.declared.times.TheConstants.{UNRANKED}
use Rattle.alt_graph.specs.declared.ranking.Longest.{Longest}
use Rattle.alt_graph.specs.Evidence.{node_count}
use Rattle.alt_graph.specs.Lookups.{AreFirsts}
use Rattle.alt_graph.specs.Times.{NodeTimes, no_time, time_at, rank_of, earliest_of, before_of, IsAttainedFrom}
use Rattle.alt_graph.specs.Bounds.{NodeBounds, AreRooted}
use Rattle.alt_graph.specs.Layout.{number_of, by_job}
use Rattle.alt_graph.specs.PlanGraph.{PlanGraph, IsSoundGraph}
use Rattle.alt_graph.specs.Ranking.{PlanRanking, IsRanked, IsUnranked, IsPlaced, IsLongest, AreRanked, AreAllRanked, ranking_of, IsRanking, Grows, blank}
use Rattle.alt_graph.specs.Places.{node_at}
use Rattle.alt_graph.proofs.NodeNumbers.{numbers_count, number_inside, node_time, time_same, time_other, cases_node}

pub blank_unranked : (row : NodeTime) → row.rank ≡ UNRANKED → blank row ≡ 1
blank_unranked row is = elim (eqb_tells row.rank UNRANKED) [
  | inl same ↦ rw same.0 refl
  | inr other ↦ absurd (other.1 is)
]

pub blank_ranked : (row : NodeTime) → row.rank ≢ UNRANKED → blank row ≡ 0
blank_ranked row ranked = elim (eqb_tells row.rank UNRANKED) [
  | inl same ↦ absurd (ranked same.1)
  | inr other ↦ rw other.0 refl
]

-- a node stays placed where neither its row nor those of its sources change
pub placed_still : (p : PlannedShop) (b : NodeBounds) (t s : NodeTimes) (v : Node) → time_at s v ≡ time_at t v
    → ((u : Node) (d : ℕ) → Arc p u v d → time_at s u ≡ time_at t u) → IsPlaced p b t v → IsPlaced p b s v
placed_still p b t s v same sources placed = record {
  rises = λ u d arc. omega (arith, ap (λ (row : NodeTime). row.rank) (sources u d arc), ap (λ (row : NodeTime). row.rank) same, placed.rises u d arc);
  fits = λ u d arc ahead. omega (arith, ap (λ (row : NodeTime). row.earliest) (sources u d arc), ap (λ (row : NodeTime). row.earliest) same, placed.fits u d arc ahead);
  bound = λ n recorded. omega (arith, ap (λ (row : NodeTime). row.earliest) same, placed.bound n recorded);
  attained = subst (λ (row : NodeTime). IsAttainedFrom p b s v row.earliest row.before) (sym same) (still (before_of t v) placed.attained);
  bounded = omega (arith, ap (λ (row : NodeTime). row.earliest) same, ap (λ (row : NodeTime). row.rank) same, placed.bounded);
}
  where
    still : (o : Option Node) → IsAttainedFrom p b t v (earliest_of t v) o → IsAttainedFrom p b s v (earliest_of t v) o
    still None attained = attained
    still (Some u) (d, arc, is, ahead) = (d, arc, ap (λ (row : NodeTime). row.earliest + d) (sources u d arc) ∙ is, ahead)

-- ---- no node is ranked at first

sum_blank : (n : ℕ) → sum_by blank (replicate n no_time) ≡ n
sum_blank zero = refl
sum_blank (suc n) =
    let more : sum_by blank (replicate (suc n) no_time) ≡ 1 + sum_by blank (replicate n no_time) = sum_by-cons blank no_time (replicate n no_time) in
    omega (arith, more, sum_blank n)

no_rank : (n i : ℕ) → (get_or (replicate n no_time) i no_time).rank ≡ UNRANKED
no_rank n i = elim (cases_lt i n) [
  | inl inside ↦ ap (λ (row : NodeTime). row.rank) (get_or-replicate n i no_time no_time inside)
  | inr past ↦ ap (λ (row : NodeTime). row.rank) (get_or_past (replicate n no_time) i no_time (omega (arith, length-replicate n no_time)))
]

-- at first
pub none_ranked : (graph : PlanGraph) (q : PlannedShop) (b : NodeBounds) (n room : ℕ) → IsSoundGraph graph → q ≡ graph.plan → AreRooted graph.plan b
    → n ≡ get_or graph.firsts (jobs graph.plan) 0 → n ≤ room → IsRanking graph q b [] (replicate n no_time) room
none_ranked graph q b n room sound planned rooted is le = record {
  sound = sound;
  planned = planned;
  rooted = rooted;
  ranked = record {
    few = omega arith;
    listed = λ i lt. absurd (omega arith);
    ranks = λ i lt. absurd (omega arith);
    within = λ v is ranked. absurd (ranked (free v is));
    places = λ v is ranked. absurd (ranked (free v is));
    placed = λ v is ranked. absurd (ranked (free v is));
  };
  count = omega (arith, sum_blank n, length-replicate n no_time);
  size = length-replicate n no_time ∙ is;
  fits = omega (arith, length-replicate n no_time);
}
  where
    free : (v : Node) → IsNode graph.plan v → rank_of (by_job graph.firsts (replicate n no_time)) v ≡ UNRANKED
    free v is = ap (λ (row : NodeTime). row.rank) (node_time graph.plan graph.firsts sound.firsts (replicate n no_time) v is) ∙ no_rank n (number_of graph.firsts v)

-- ---- one more

module _ (graph : PlanGraph) (q : PlannedShop) (b : NodeBounds) (done : List Node) (rows : List NodeTime) (room : ℕ) (is_ranking : IsRanking graph q b done rows room) where
  abbrev p : PlannedShop
  p = graph.plan

  abbrev firsts : List ℕ
  firsts = graph.firsts

  abbrev now : NodeTimes
  now = by_job firsts rows

  are : AreFirsts p firsts
  are = is_ranking.sound.firsts

  sound : AreRanked (ranking_of graph b done rows)
  sound = is_ranking.ranked

  -- where as many nodes are done as have rows, all are ranked
  pub full_ranked : length done ≡ length rows → AreAllRanked (ranking_of graph b done rows)
  full_ranked full v is free =
      let inside : number_of firsts v < length rows = omega (arith, is_ranking.size, number_inside p firsts are v is) in
      omega (
        arith,
        full,
        is_ranking.count,
        get_or-le-sum_by blank rows (number_of firsts v) no_time inside,
        blank_unranked (get_or rows (number_of firsts v) no_time) (ap (λ (row : NodeTime). row.rank) (sym (node_time p firsts are rows v is)) ∙ free),
      )

  module _ (v : Node) (unranked : IsUnranked (ranking_of graph b done rows) v) (longest : Longest)
      (best : IsLongest (ranking_of graph b done rows) (Arc p) v longest) where
    abbrev pub next_row : NodeTime
    next_row = record { rank = length done; earliest = longest.length; before = longest.before }

    abbrev pub next_rows : List NodeTime
    next_rows = set rows (number_of firsts v) next_row

    abbrev next_times : NodeTimes
    next_times = by_job firsts next_rows

    is : IsNode p v
    is = unranked.node

    at_new : time_at next_times v ≡ next_row
    at_new = time_same p firsts are rows is_ranking.size v is next_row

    at_other : (u : Node) → IsNode p u → u ≢ v → time_at next_times u ≡ time_at now u
    at_other u other apart = time_other p firsts are rows is_ranking.size v is next_row u other apart

    -- a ranked node keeps its row
    keeps : (u : Node) → IsNode p u → IsRanked now u → time_at next_times u ≡ time_at now u
    keeps u other ranked = at_other u other (λ same. ranked (ap (rank_of now) same ∙ unranked.free))

    rank_new : rank_of next_times v ≡ length done
    rank_new = ap (λ (row : NodeTime). row.rank) at_new

    pub new_ranked : IsRanked next_times v
    new_ranked same = omega (arith, sound.few, rank_new, same)

    -- all other nodes keep their rows
    pub grows : Grows (ranking_of graph b done rows) (ranking_of graph b (done ++ v ∷ []) next_rows)
    grows = record {
      plan = refl;
      bounds = refl;
      longer = omega (arith, length_push done v);
      known = λ u other. elim (cases_node p firsts are u v other is) [
        | inl same ↦ inr (ap (rank_of now) same ∙ unranked.free, omega (arith, ap (rank_of next_times) same, rank_new))
        | inr apart ↦ inl (at_other u other apart)
      ];
    }

    sources_keep : (w u : Node) (d : ℕ) → IsPlaced p b now w → rank_of now w < UNRANKED → Arc p u w d → time_at next_times u ≡ time_at now u
    sources_keep w u d placed few arc = keeps u (source_node p u w d arc) (λ same. omega (arith, placed.rises u d arc, same))

    ranked_few : (u : Node) → IsNode p u → IsRanked now u → rank_of now u < UNRANKED
    ranked_few u other ranked = omega (arith, sound.within u other ranked, sound.few)

    last_is : (o : Option Node) → IsAttainedFrom p b now v longest.length o → ((u : Node) (d : ℕ) → Arc p u v d → time_at next_times u ≡ time_at now u) → IsAttainedFrom p b next_times v longest.length o
    last_is None attained sources = attained
    last_is (Some u) (d, arc, same, ahead) sources = (d, arc, ap (λ (row : NodeTime). row.earliest + d) (sources u d arc) ∙ same, ahead)

    new_placed : IsPlaced p b next_times v
    new_placed =
        let sources : (u : Node) (d : ℕ) → Arc p u v d → time_at next_times u ≡ time_at now u = λ u d arc. keeps u (source_node p u v d arc) (best.ranked u d arc) in
        record {
          rises = λ u d arc. omega (arith, ap (λ (row : NodeTime). row.rank) (sources u d arc), rank_new, sound.within u (source_node p u v d arc) (best.ranked u d arc));
          fits = λ u d arc ahead. omega (arith, ap (λ (row : NodeTime). row.earliest) (sources u d arc), ap (λ (row : NodeTime). row.earliest) at_new, best.fits u d arc ahead);
          bound = λ n recorded. omega (arith, ap (λ (row : NodeTime). row.earliest) at_new, best.bound n recorded);
          attained = subst (λ (row : NodeTime). IsAttainedFrom p b next_times v row.earliest row.before) (sym at_new) (last_is longest.before best.attained sources);
          bounded = omega (arith, ap (λ (row : NodeTime). row.earliest) at_new, rank_new, best.bounded);
        }

    earlier : (i : ℕ) → i < length done → node_at (done ++ v ∷ []) i ≡ node_at done i
    earlier i lt = get_or_append_left done (v ∷ []) (node 0 0) i lt

    newest : (i : ℕ) → length done ≡ i → node_at (done ++ v ∷ []) i ≡ v
    newest i same = get_or_push done v (node 0 0) i same

    cases_place : (i : ℕ) → i < length (done ++ v ∷ []) → (i < length done) ⊎ (length done ≡ i)
    cases_place i lt = elim (cases_lt i (length done)) [
      | inl lower ↦ inl lower
      | inr higher ↦ inr (omega (arith, length_push done v))
    ]

    listed_more : (i : ℕ) → (i < length done) ⊎ (length done ≡ i) → IsNode p (node_at (done ++ v ∷ []) i)
    listed_more i (inl lower) = subst (IsNode p) (sym (earlier i lower)) (sound.listed i lower)
    listed_more i (inr same) = subst (IsNode p) (sym (newest i same)) is

    ranks_more : (i : ℕ) → (i < length done) ⊎ (length done ≡ i) → rank_of next_times (node_at (done ++ v ∷ []) i) ≡ i
    ranks_more i (inl lower) =
        let ranked : IsRanked now (node_at done i) = λ same. omega (arith, sound.few, sound.ranks i lower, same) in
        ap (rank_of next_times) (earlier i lower) ∙ ap (λ (row : NodeTime). row.rank) (keeps (node_at done i) (sound.listed i lower) ranked) ∙ sound.ranks i lower
    ranks_more i (inr same) = ap (rank_of next_times) (newest i same) ∙ rank_new ∙ same

    -- another node has a rank only if it had one
    had_rank : (u : Node) → IsNode p u → u ≢ v → IsRanked next_times u → IsRanked now u
    had_rank u other apart ranked same = ranked (ap (λ (row : NodeTime). row.rank) (at_other u other apart) ∙ same)

    within_more : (u : Node) → IsNode p u → (u ≡ v) ⊎ (u ≢ v) → IsRanked next_times u → rank_of next_times u < length (done ++ v ∷ [])
    within_more u other (inl same) ranked = omega (arith, ap (rank_of next_times) same, rank_new, length_push done v)
    within_more u other (inr apart) ranked =
        omega (arith, ap (λ (row : NodeTime). row.rank) (at_other u other apart), sound.within u other (had_rank u other apart ranked), length_push done v)

    places_more : (u : Node) → IsNode p u → (u ≡ v) ⊎ (u ≢ v) → IsRanked next_times u → node_at (done ++ v ∷ []) (rank_of next_times u) ≡ u
    places_more u other (inl same) ranked = newest (rank_of next_times u) (sym (ap (rank_of next_times) same ∙ rank_new)) ∙ sym same
    places_more u other (inr apart) ranked =
        let ranked_now = had_rank u other apart ranked in
        let rank_same : rank_of next_times u ≡ rank_of now u = ap (λ (row : NodeTime). row.rank) (at_other u other apart) in
        ap (node_at (done ++ v ∷ [])) rank_same ∙ earlier (rank_of now u) (sound.within u other ranked_now) ∙ sound.places u other ranked_now

    placed_more : (u : Node) → IsNode p u → (u ≡ v) ⊎ (u ≢ v) → IsRanked next_times u → IsPlaced p b next_times u
    placed_more u other (inl same) ranked = subst (λ (w : Node). IsPlaced p b next_times w) (sym same) new_placed
    placed_more u other (inr apart) ranked =
        let ranked_now = had_rank u other apart ranked in
        let placed = sound.placed u other ranked_now in
        placed_still p b now next_times u (at_other u other apart) (λ w d arc. sources_keep u w d placed (ranked_few u other ranked_now) arc) placed

    -- one of the rows is still blank
    count_more : length (done ++ v ∷ []) + sum_by blank next_rows ≡ length next_rows
    count_more =
        let inside : number_of firsts v < length rows = omega (arith, is_ranking.size, number_inside p firsts are v is) in
        omega (
          arith,
          length_push done v,
          length-set rows (number_of firsts v) next_row,
          sum_by-set blank rows (number_of firsts v) next_row no_time inside,
          blank_unranked (get_or rows (number_of firsts v) no_time) (ap (λ (row : NodeTime). row.rank) (sym (node_time p firsts are rows v is)) ∙ unranked.free),
          blank_ranked next_row (λ same. omega (arith, sound.few, same)),
          is_ranking.count,
        )

    size_more : length next_rows ≡ get_or firsts (jobs p) 0
    size_more = length-set rows (number_of firsts v) next_row ∙ is_ranking.size

    -- the node is ranked next
    pub ranked_more : IsRanking graph q b (done ++ v ∷ []) next_rows room
    ranked_more = record {
      sound = is_ranking.sound;
      planned = is_ranking.planned;
      rooted = is_ranking.rooted;
      ranked = record {
        few = omega (arith, count_more, size_more, are.few);
        listed = λ i lt. listed_more i (cases_place i lt);
        ranks = λ i lt. ranks_more i (cases_place i lt);
        within = λ u other ranked. within_more u other (cases_node p firsts are u v other is) ranked;
        places = λ u other ranked. places_more u other (cases_node p firsts are u v other is) ranked;
        placed = λ u other ranked. placed_more u other (cases_node p firsts are u v other is) ranked;
      };
      count = count_more;
      size = size_more;
      fits = omega (arith, length-set rows (number_of firsts v) next_row, is_ranking.fits);
    }

    -- there is room for it
    pub room_left : length done < room
    room_left = omega (arith, count_more, length_push done v, length-set rows (number_of firsts v) next_row, is_ranking.fits)

-- what holds of a ranking's fields holds of the ranking that they are seen as
module _ (graph : PlanGraph) (q : PlannedShop) (b : NodeBounds) (done : List Node) (rows : List NodeTime) (room : ℕ) (r : PlanRanking) (is : ranking_of graph b done rows ≡ r) (is_ranking : IsRanking graph q b done rows room) where
  pub shaped_of : IsWellShaped r.plan
  shaped_of = subst (λ (s : PlanRanking). IsWellShaped s.plan) is is_ranking.sound.shaped

  pub rooted_of : AreRooted r.plan r.bounds
  rooted_of = subst (λ (s : PlanRanking). AreRooted s.plan s.bounds) is is_ranking.rooted

  pub ranks_of : AreRanked r
  ranks_of = subst AreRanked is is_ranking.ranked

  -- there are no more ranked nodes than nodes
  pub most_ranked : length r.done ≤ node_count r.plan
  most_ranked = subst (λ (s : PlanRanking). length s.done ≤ node_count s.plan) is (omega (arith, is_ranking.count, is_ranking.size, numbers_count graph.plan graph.firsts is_ranking.sound.firsts))
