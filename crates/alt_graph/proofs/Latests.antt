-- The latest moments: by the arcs out of a node, filled in backwards over the ranks, and of an accepted plan its deadlines.
use Rattle.std.proofs.Common.{◌≡◌, ◌≢◌, ℕ, zero, suc, ◌+◌, ◌-◌, ◌<◌, ◌≤◌, List, [], length, get_or, set, Option, None, Some, arith, refl, sym, ap, subst, ◌∙◌, ◌⊎◌, inl, inr, get_or-set_same, get_or-set_other}
use Rattle.std.proofs.lemmas.Bool.{cases_eq, cases_lt}
use Rattle.std.proofs.lemmas.List.{length-set}
use Rattle.shop_base.specs.declared.node.Node.{Node}
use Rattle.shop_base.specs.Plan.{PlannedShop, steps, nominal, budget, IsWellShaped}
use Rattle.shop_base.specs.Cell.{Cell, start, IsGone}
use Rattle.shop_base.specs.Sound.{IsSound}
use Rattle.shop_base.specs.Graph.{node, IsNode, leaving, Arc, RanksRise, MeetBudgets}
use Rattle.shop_base.specs.Ahead.{IsAhead, RespectArcs, MeetBudgetsAhead}
use Rattle.shop_base.specs.Deadlines.{IsPressed, AreDeadlines}
use Rattle.shop_base.proofs.Cycles.{source_node}
use Rattle.shop_base.proofs.Keeping.{run-sound}
use Rattle.shop_base.proofs.Ahead.{IsLeftIn, arc_left}
use Rattle.shop_base.proofs.Deadlines.{all_ranks, rank_within}
use Rattle.alt_graph.specs.Sources.{IsJobArc, IsBlockingArc}
use Rattle.alt_graph.specs.Times.{NodeTimes, rank_of, earliest_of, AreRanks, AreTimes}
use Rattle.alt_graph.specs.Layout.{number_of}
use Rattle.alt_graph.specs.Latest.{IsLatest, AreLatest, AreInside}
use Rattle.alt_graph.specs.ByRank.{IsAtItsRank, AreAtTheirRanks}
use Rattle.alt_graph.specs.LatestRows.{moment_in, HasRows, AreLatestFrom}
use Rattle.alt_graph.proofs.ArcKinds.{arc_kind, job_arc_is, blocking_arc_is, target_node, job_target_once, blocking_source_once, blocking_target_once}
use Rattle.alt_graph.proofs.NodeNumbers.{node_same, number_inside, number_same, next_first, cases_node}

-- ---- by the arcs out of a node

module _ (p : PlannedShop) (kept : Node → ℕ) (v : Node) where
  -- without a job arc out of it the node is its job's leaving
  pub latest_leaving : (n : ℕ) → IsNode p v → ((w : Node) (d : ℕ) → IsJobArc p v w d → ⊥) → n ≡ budget p v.job → IsLatest p kept (IsJobArc p) v n
  latest_leaving n is none same = record {
    budgets = λ _. omega (arith, same);
    arcs = λ w d arc. absurd (none w d arc);
    pressed = inl (last, same);
  }
    where
      last : v.place ≡ steps p v.job
      last = elim (cases_lt v.place (steps p v.job)) [
        | inl within ↦ absurd (none (node v.job (v.place + 1)) (nominal p v.job v.place) (record { job = refl; place = refl; within = within; length = refl }))
        | inr past ↦ omega (arith, is.place)
      ]

  -- over the job arc
  pub latest_along : (n d : ℕ) (w : Node) → IsWellShaped p → IsJobArc p v w d → n ≡ kept w - d → IsLatest p kept (IsJobArc p) v n
  latest_along n d w shaped arc same = record {
    budgets = λ last. absurd (omega (arith, arc.within, last));
    arcs = λ x e other. omega (arith, same, ap kept (job_target_once p shaped v x w e d other arc), other.length, arc.length);
    pressed = inr (w, d, arc, same);
  }

  -- without a blocking arc
  pub latest_alone : (n : ℕ) → IsLatest p kept (IsJobArc p) v n → ((w : Node) (d : ℕ) → IsBlockingArc p v w d → ⊥) → IsLatest p kept (Arc p) v n
  latest_alone n along none = record {
    budgets = along.budgets;
    arcs = λ w d arc. fits w d (arc_kind p v w d arc);
    pressed = press along.pressed;
  }
    where
      fits : (w : Node) (d : ℕ) → IsJobArc p v w d ⊎ IsBlockingArc p v w d → n ≤ kept w - d
      fits w d (inl arc) = along.arcs w d arc
      fits w d (inr arc) = absurd (none w d arc)

      press : ((v.place ≡ steps p v.job) × (n ≡ budget p v.job)) ⊎ ((w : Node) × (d : ℕ) × IsJobArc p v w d × (n ≡ kept w - d))
          → ((v.place ≡ steps p v.job) × (n ≡ budget p v.job)) ⊎ ((w : Node) × (d : ℕ) × Arc p v w d × (n ≡ kept w - d))
      press (inl last) = inl last
      press (inr (w, d, arc, same)) = inr (w, d, job_arc_is p v w d arc, same)

  -- the earlier of the two
  pub latest_both : (n m k d : ℕ) (w : Node) → IsWellShaped p → IsLatest p kept (IsJobArc p) v m → IsBlockingArc p v w d → k ≡ kept w - d
      → ((n ≡ m) × (m ≤ k)) ⊎ ((n ≡ k) × (k ≤ m)) → IsLatest p kept (Arc p) v n
  latest_both n m k d w shaped along arc same least = record {
    budgets = λ last. below last least;
    arcs = λ x e other. fits x e least (arc_kind p v x e other);
    pressed = press least along.pressed;
  }
    where
      below : v.place ≡ steps p v.job → ((n ≡ m) × (m ≤ k)) ⊎ ((n ≡ k) × (k ≤ m)) → n ≤ budget p v.job
      below last (inl (is, le)) = omega (arith, is, along.budgets last)
      below last (inr (is, le)) = omega (arith, is, le, along.budgets last)

      blocked : (x : Node) (e : ℕ) → IsBlockingArc p v x e → n ≤ k → n ≤ kept x - e
      blocked x e other le =
          let there : x ≡ w = blocking_target_once p shaped v x w e d other arc in
          let long : e ≡ d = (blocking_source_once p shaped v v w e d (subst (λ (y : Node). IsBlockingArc p v y e) there other) arc).1 in
          omega (arith, le, same, ap kept there, long)

      fits : (x : Node) (e : ℕ) → ((n ≡ m) × (m ≤ k)) ⊎ ((n ≡ k) × (k ≤ m)) → IsJobArc p v x e ⊎ IsBlockingArc p v x e → n ≤ kept x - e
      fits x e (inl (is, le)) (inl other) = omega (arith, is, along.arcs x e other)
      fits x e (inr (is, le)) (inl other) = omega (arith, is, le, along.arcs x e other)
      fits x e (inl (is, le)) (inr other) = blocked x e other (omega (arith, is, le))
      fits x e (inr (is, le)) (inr other) = blocked x e other (omega (arith, is))

      press : ((n ≡ m) × (m ≤ k)) ⊎ ((n ≡ k) × (k ≤ m)) → ((v.place ≡ steps p v.job) × (m ≡ budget p v.job)) ⊎ ((x : Node) × (e : ℕ) × IsJobArc p v x e × (m ≡ kept x - e))
          → ((v.place ≡ steps p v.job) × (n ≡ budget p v.job)) ⊎ ((x : Node) × (e : ℕ) × Arc p v x e × (n ≡ kept x - e))
      press (inl (is, le)) (inl (last, at)) = inl (last, is ∙ at)
      press (inl (is, le)) (inr (x, e, other, at)) = inr (x, e, job_arc_is p v x e other, is ∙ at)
      press (inr (is, le)) _ = inr (w, d, blocking_arc_is p v w d arc, is ∙ same)

-- ---- the nodes by their ranks

module _ (p : PlannedShop) (t : NodeTimes) (are : AreRanks p t) (nodes : List (Option Node)) (u : Node) (is : IsNode p u) (inside : rank_of t u < length nodes) where
  abbrev more : List (Option Node)
  more = set nodes (rank_of t u) (Some u)

  pub ranked_new : IsAtItsRank t more u
  ranked_new = get_or-set_same nodes (rank_of t u) (Some u) None inside

  pub ranked_still : (v : Node) → IsNode p v → IsAtItsRank t nodes v → IsAtItsRank t more v
  ranked_still v inside_v ranked = elim (cases_eq (rank_of t v) (rank_of t u)) [
    | inl same ↦ subst (λ (w : Node). IsAtItsRank t more w) (are.apart u v is inside_v (sym same)) ranked_new
    | inr other ↦ get_or-set_other nodes (rank_of t u) (rank_of t v) (Some u) None other ∙ ranked
  ]

  pub ranked_more : AreAtTheirRanks p t nodes → AreAtTheirRanks p t more
  ranked_more ranked i v at = elim (cases_eq i (rank_of t u)) [
    | inl same ↦ (
        let here : get_or more i None ≡ Some u = ap (λ k. get_or more k None) same ∙ ranked_new in
        let one : u ≡ v = some_same (sym here ∙ at) in
        (subst (IsNode p) one is, ap (rank_of t) (sym one) ∙ sym same))
    | inr other ↦ ranked i v (sym (get_or-set_other nodes (rank_of t u) i (Some u) None other) ∙ at)
  ]
    where
      some_same : {x y : Node} → Some x ≡ Some y → x ≡ y
      some_same same = cc

-- ---- one more moment

-- a latest moment stays one where those of the nodes after it don't change
latest_still : (p : PlannedShop) (kept other : Node → ℕ) (v : Node) (n : ℕ) → ((w : Node) (d : ℕ) → Arc p v w d → other w ≡ kept w) → IsLatest p kept (Arc p) v n → IsLatest p other (Arc p) v n
latest_still p kept other v n same latest = record {
  budgets = latest.budgets;
  arcs = λ w d arc. omega (arith, same w d arc, latest.arcs w d arc);
  pressed = press latest.pressed;
}
  where
    press : ((v.place ≡ steps p v.job) × (n ≡ budget p v.job)) ⊎ ((w : Node) × (d : ℕ) × Arc p v w d × (n ≡ kept w - d))
        → ((v.place ≡ steps p v.job) × (n ≡ budget p v.job)) ⊎ ((w : Node) × (d : ℕ) × Arc p v w d × (n ≡ other w - d))
    press (inl last) = inl last
    press (inr (w, d, arc, at)) = inr (w, d, arc, omega (arith, at, same w d arc))

module _ (p : PlannedShop) (t : NodeTimes) (are : AreRanks p t) (firsts moments : List ℕ) (rows : HasRows p firsts moments) (u : Node) (is : IsNode p u) (n : ℕ) where
  abbrev now : Node → ℕ
  now = moment_in firsts moments

  abbrev after : Node → ℕ
  after = moment_in firsts (set moments (number_of firsts u) n)

  after_new : after u ≡ n
  after_new = get_or-set_same moments (number_of firsts u) n 0 (omega (arith, rows.size, number_inside p firsts rows.numbers u is))

  after_other : (w : Node) → IsNode p w → w ≢ u → after w ≡ now w
  after_other w other apart = get_or-set_other moments (number_of firsts u) (number_of firsts w) n 0 (λ same. apart (number_same p firsts rows.numbers w u other is same))

  pub rows_more : HasRows p firsts (set moments (number_of firsts u) n)
  rows_more = record { numbers = rows.numbers; size = length-set moments (number_of firsts u) n ∙ rows.size }

  pub latest_more : (left : ℕ) → left ≡ rank_of t u → IsLatest p now (Arc p) u n → AreLatestFrom p t now (left + 1) → AreLatestFrom p t after left
  latest_more left at latest below v other le = go (cases_node p firsts rows.numbers v u other is)
    where
      still : (w : Node) (d : ℕ) → Arc p v w d → after w ≡ now w
      still w d arc = after_other w (target_node p v w d arc) (λ same. omega (arith, are.rise v w d arc, ap (rank_of t) same, at, le))

      higher : v ≢ u → (rank_of t v ≡ left) ⊎ (rank_of t v ≢ left) → left + 1 ≤ rank_of t v
      higher apart (inl same) = absurd (apart (are.apart v u other is (same ∙ at)))
      higher apart (inr more) = omega (arith, le)

      go : (v ≡ u) ⊎ (v ≢ u) → IsLatest p after (Arc p) v (after v)
      go (inl same) =
          let here : IsLatest p now (Arc p) v n = subst (λ (w : Node). IsLatest p now (Arc p) w n) (sym same) latest in
          subst (λ (m : ℕ). IsLatest p after (Arc p) v m) (sym (ap after same ∙ after_new)) (latest_still p now after v n still here)
      go (inr apart) =
          let above : left + 1 ≤ rank_of t v = higher apart (cases_eq (rank_of t v) left) in
          subst (λ (m : ℕ). IsLatest p after (Arc p) v m) (sym (after_other v other apart)) (latest_still p now after v (now v) still (below v other above))

-- ---- the deadlines

module _ (p : PlannedShop) (rank early kept : Node → ℕ) (c : Cell) (rises : RanksRise p rank) (sound : IsSound p c)
    (respects : RespectArcs p c early) (meets : MeetBudgetsAhead p c early) (latest : AreLatest p kept) where
  -- no moment that fits is later, of a node with at most n ranks above it
  above_below : (n : ℕ) (v : Node) → IsLeftIn p c v → all_ranks p rank < rank v + n → early v ≤ kept v
  above_below zero v left few = absurd (omega (arith, rank_within p rank v left.job left.place))
  above_below (suc n) v left few = go (λ w more. above_below n w more) (latest v (record { job = left.job; place = left.place })).pressed
    where
      go : ((w : Node) → IsLeftIn p c w → all_ranks p rank < rank w + n → early w ≤ kept w)
          → ((v.place ≡ steps p v.job) × (kept v ≡ budget p v.job)) ⊎ ((w : Node) × (d : ℕ) × Arc p v w d × (kept v ≡ kept w - d)) → early v ≤ kept v
      go below (inl (end, is)) =
          let same : leaving p v.job ≡ v = node_same (leaving p v.job) v refl (sym end) in
          let here : IsGone p c v.job → ⊥ = λ gone. omega (arith, left.ahead, end) in
          omega (arith, is, ap early same, meets v.job left.job here)
      go below (inr (w, d, arc, is)) =
          let further = arc_left p c v w d sound arc left.ahead in
          omega (arith, is, respects v w d left.ahead arc, below w further (omega (arith, rises v w d arc)))

  early_kept : (v : Node) → IsLeftIn p c v → early v ≤ kept v
  early_kept v left = above_below (suc (all_ranks p rank)) v left (omega arith)

  -- so no arc ahead is longer than the moment of its end
  arc_kept : (u v : Node) (d : ℕ) → IsAhead c u → Arc p u v d → d ≤ kept v
  arc_kept u v d ahead arc = omega (arith, respects u v d ahead arc, early_kept v (arc_left p c u v d sound arc ahead))

  -- the latest moments are the deadlines
  pub latest_deadlines : AreDeadlines p c kept
  latest_deadlines = record {
    budgets = λ j inside here. (latest (leaving p j) (record { job = inside; place = omega arith })).budgets refl;
    arcs = λ u v d ahead arc. omega (arith, (latest u (source_node p u v d arc)).arcs v d arc, arc_kept u v d ahead arc);
    pressed = λ v is ahead. press v ahead (latest v is).pressed;
  }
    where
      press : (v : Node) → IsAhead c v → ((v.place ≡ steps p v.job) × (kept v ≡ budget p v.job)) ⊎ ((w : Node) × (d : ℕ) × Arc p v w d × (kept v ≡ kept w - d)) → IsPressed p kept v
      press v ahead (inl end) = inl end
      press v ahead (inr (w, d, arc, is)) = inr (w, d, arc, omega (arith, is, arc_kept v w d ahead arc))

-- of a plan without a cycle whose earliest moments meet the budgets
pub start_deadlines : (p : PlannedShop) (t : NodeTimes) (kept : Node → ℕ) → AreTimes p t → MeetBudgets p (earliest_of t) → AreLatest p kept → AreDeadlines p (start p) kept
start_deadlines p t kept are meets latest =
    latest_deadlines p (rank_of t) (earliest_of t) kept (start p) are.schedule.ranks (run-sound p [] are.schedule.shaped tt)
    (λ u v d ahead arc. are.schedule.moments.arcs u v d arc) (λ j inside here. meets j inside) latest

-- ---- which nodes have moments

module _ (p : PlannedShop) (firsts moments : List ℕ) (rows : HasRows p firsts moments) where
  pub are_inside : AreInside (record { firsts = firsts; moments = moments })
  are_inside j lt = omega (arith, rows.size, next_first p firsts rows.numbers j (omega (arith, lt, rows.numbers.size)))

-- the row of a node is one of those
pub row_inside : (p : PlannedShop) (firsts moments : List ℕ) (v : Node) → HasRows p firsts moments → IsNode p v → number_of firsts v < length moments
row_inside p firsts moments v rows is = omega (arith, rows.size, number_inside p firsts rows.numbers v is)
