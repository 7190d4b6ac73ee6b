-- The greatest lengths where everything takes longer, as they are filled in in an order in which arcs lead forward.
use Rattle.std.proofs.Common.{◌≡◌, ◌≢◌, ℕ, zero, suc, ◌+◌, ◌-◌, ◌*◌, ◌<◌, ◌≤◌, ◌⊎◌, inl, inr, List, [], ◌∷◌, ◌++◌, length, get_or, set, max, Option, None, Some, MatchOption}
use Rattle.std.proofs.Common.{arith, refl, sym, ap, ◌∙◌, subst, le_refl, get_or-set_same, get_or-set_other}
use Rattle.std.proofs.lemmas.Bool.{cases_lt}
use Rattle.std.proofs.lemmas.List.{length-set, get_or_past}
use Rattle.shop_base.specs.declared.node.Node.{Node}
use Rattle.shop_base.specs.Plan.{PlannedShop, jobs, steps, release, nominal, IsWellShaped}
use Rattle.shop_base.specs.Graph.{Arc, IsNode, node, leaving}
use Rattle.shop_base.proofs.Cycles.{source_node}
use Rattle.alt_graph.specs.Layout.{number_of}
use Rattle.alt_graph.specs.LatestRows.{moment_in, HasRows}
use Rattle.alt_graph.specs.Sources.{IsJobArc, IsBlockingArc}
use Rattle.alt_graph.proofs.ArcKinds.{arc_kind, arc_short, job_arc_is, blocking_arc_is, target_node, job_source_once, blocking_source_once}
use Rattle.alt_graph.proofs.NodeNumbers.{node_same, number_inside, number_same}
use Rattle.plan_margin.specs.Longer.{longer, LongerPath, sets_out, goes_along, IsFirstPast}
use Rattle.plan_margin.specs.Lengths.{IsLength, AreLengths, AreShort, AreLengthsBelow, AreReached, AreAllWithin, IsFirstOver, HasLongerSchedule}
use Rattle.plan_margin.specs.Order.{IsAt, IsInOrder}
use Rattle.plan_margin.proofs.LongerPaths.{longer_most, path_kept}

-- ---- by the arcs into a node

module _ (p : PlannedShop) (s : ℕ) (kept : Node → ℕ) (v : Node) where
  -- without a job arc into it the node is its job's first place
  pub length_first : (n : ℕ) → IsNode p v → ((u : Node) (d : ℕ) → IsJobArc p u v d → ⊥) → n ≡ release p v.job * 1000 → IsLength p s kept (IsJobArc p) v n
  length_first n is none same = record {
    begins = λ first. omega (arith, same);
    arcs = λ u d arc. absurd (none u d arc);
    attained = inl (first, same);
  }
    where
      first : v.place ≡ 0
      first = elim (cases_lt 0 v.place) [
        | inl more ↦ absurd (none (node v.job (v.place - 1)) (nominal p v.job (v.place - 1))
            (record { job = refl; place = omega (arith, more); within = omega (arith, more, is.place); length = refl }))
        | inr none_before ↦ omega (arith, none_before)
      ]

  -- over the job arc
  pub length_along : (n d : ℕ) (u : Node) → IsWellShaped p → IsJobArc p u v d → n ≡ kept u + longer s d → IsLength p s kept (IsJobArc p) v n
  length_along n d u shaped arc same = record {
    begins = λ first. absurd (omega (arith, arc.place, first));
    arcs = λ w e other. (let (one, long) = job_source_once p shaped w u v e d other arc in omega (arith, same, ap kept one, ap (longer s) long));
    attained = inr (u, d, arc, same);
  }

  -- without a blocking arc
  pub length_alone : (n : ℕ) → IsLength p s kept (IsJobArc p) v n → ((u : Node) (d : ℕ) → IsBlockingArc p u v d → ⊥) → IsLength p s kept (Arc p) v n
  length_alone n along none = record {
    begins = along.begins;
    arcs = λ u d arc. fits u d (arc_kind p u v d arc);
    attained = reach along.attained;
  }
    where
      fits : (u : Node) (d : ℕ) → IsJobArc p u v d ⊎ IsBlockingArc p u v d → kept u + longer s d ≤ n
      fits u d (inl arc) = along.arcs u d arc
      fits u d (inr arc) = absurd (none u d arc)

      reach : ((v.place ≡ 0) × (n ≡ release p v.job * 1000)) ⊎ ((u : Node) × (d : ℕ) × IsJobArc p u v d × (n ≡ kept u + longer s d))
          → ((v.place ≡ 0) × (n ≡ release p v.job * 1000)) ⊎ ((u : Node) × (d : ℕ) × Arc p u v d × (n ≡ kept u + longer s d))
      reach (inl first) = inl first
      reach (inr (u, d, arc, same)) = inr (u, d, job_arc_is p u v d arc, same)

  -- the greater of the two
  pub length_both : (n m k d : ℕ) (u : Node) → IsWellShaped p → IsLength p s kept (IsJobArc p) v m → IsBlockingArc p u v d → k ≡ kept u + longer s d
      → ((n ≡ m) × (k ≤ m)) ⊎ ((n ≡ k) × (m ≤ k)) → IsLength p s kept (Arc p) v n
  length_both n m k d u shaped along arc same greatest = record {
    begins = λ first. omega (arith, along.begins first, both.0);
    arcs = λ w e other. fits w e (arc_kind p w v e other);
    attained = reach greatest along.attained;
  }
    where
      both : (m ≤ n) × (k ≤ n)
      both = elim greatest [ inl (is, le) ↦ (omega (arith, is), omega (arith, is, le)) | inr (is, le) ↦ (omega (arith, is, le), omega (arith, is)) ]

      fits : (w : Node) (e : ℕ) → IsJobArc p w v e ⊎ IsBlockingArc p w v e → kept w + longer s e ≤ n
      fits w e (inl other) = omega (arith, along.arcs w e other, both.0)
      fits w e (inr other) =
          let (one, long) = blocking_source_once p shaped w u v e d other arc in
          omega (arith, same, ap kept one, ap (longer s) long, both.1)

      reach : ((n ≡ m) × (k ≤ m)) ⊎ ((n ≡ k) × (m ≤ k)) → ((v.place ≡ 0) × (m ≡ release p v.job * 1000)) ⊎ ((w : Node) × (e : ℕ) × IsJobArc p w v e × (m ≡ kept w + longer s e))
          → ((v.place ≡ 0) × (n ≡ release p v.job * 1000)) ⊎ ((w : Node) × (e : ℕ) × Arc p w v e × (n ≡ kept w + longer s e))
      reach (inl (is, le)) (inl (first, at)) = inl (first, is ∙ at)
      reach (inl (is, le)) (inr (w, e, other, at)) = inr (w, e, job_arc_is p w v e other, is ∙ at)
      reach (inr (is, le)) _ = inr (u, d, blocking_arc_is p u v d arc, is ∙ same)

-- ---- one more length

-- a length stays one where those of the nodes before it don't change
length_still : (p : PlannedShop) (s : ℕ) (kept other : Node → ℕ) (v : Node) (n : ℕ) → ((u : Node) (d : ℕ) → Arc p u v d → other u ≡ kept u) → IsLength p s kept (Arc p) v n → IsLength p s other (Arc p) v n
length_still p s kept other v n same is = record {
  begins = is.begins;
  arcs = λ u d arc. omega (arith, same u d arc, is.arcs u d arc);
  attained = reach is.attained;
}
  where
    reach : ((v.place ≡ 0) × (n ≡ release p v.job * 1000)) ⊎ ((u : Node) × (d : ℕ) × Arc p u v d × (n ≡ kept u + longer s d))
        → ((v.place ≡ 0) × (n ≡ release p v.job * 1000)) ⊎ ((u : Node) × (d : ℕ) × Arc p u v d × (n ≡ other u + longer s d))
    reach (inl first) = inl first
    reach (inr (u, d, arc, at)) = inr (u, d, arc, omega (arith, at, same u d arc))

module _ (p : PlannedShop) (s : ℕ) (nodes : List (Option Node)) (order : IsInOrder p nodes)
    (firsts lengths : List ℕ) (rows : HasRows p firsts lengths) (at : ℕ) (below : AreLengthsBelow p s (moment_in firsts lengths) nodes at) where
  abbrev pub now : Node → ℕ
  now = moment_in firsts lengths

  -- a place that has a node is one of the places
  place_inside : (i : ℕ) (v : Node) → IsAt nodes i v → i < length nodes
  place_inside i v is = elim (cases_lt i (length nodes)) [
    | inl inside ↦ inside
    | inr past ↦ absurd (let none : get_or nodes i None ≡ None = get_or_past nodes i None past in cc)
  ]

  module _ (u : Node) (here : IsAt nodes at u) where
    -- the nodes from which arcs lead to it are short enough
    pub sources_short : AreShort p now u
    sources_short w d arc =
        let (k, stands) = order.all w (source_node p w u d arc) in
        let before : k < at = order.forward k at w u d arc stands here in
        omega (arith, before, place_inside at u here, order.few, below.short k w before stands)

    module _ (shaped : IsWellShaped p) (few : s ≤ 10000) (n : ℕ) (is : IsLength p s now (Arc p) u n) where
      abbrev pub after : Node → ℕ
      after = moment_in firsts (set lengths (number_of firsts u) n)

      inside : IsNode p u
      inside = order.of_plan at u here

      after_new : after u ≡ n
      after_new = get_or-set_same lengths (number_of firsts u) n 0 (omega (arith, rows.size, number_inside p firsts rows.numbers u inside))

      after_other : (w : Node) → IsNode p w → w ≢ u → after w ≡ now w
      after_other w other apart = get_or-set_other lengths (number_of firsts u) (number_of firsts w) n 0 (λ same. apart (number_same p firsts rows.numbers w u other inside same))

      -- a node at an earlier place is another one
      apart : (i : ℕ) (v : Node) → i < at → IsAt nodes i v → v ≢ u
      apart i v less stands same = absurd (omega (arith, less, order.once i at u (subst (IsAt nodes i) same stands) here))

      earlier_same : (i : ℕ) (v : Node) → i < at → IsAt nodes i v → after v ≡ now v
      earlier_same i v less stands = after_other v (order.of_plan i v stands) (apart i v less stands)

      -- so are the nodes from which arcs lead to a node at that place or before
      sources_same : (i : ℕ) (v : Node) → i ≤ at → IsAt nodes i v → (w : Node) (d : ℕ) → Arc p w v d → after w ≡ now w
      sources_same i v less stands w d arc =
          let (k, there) = order.all w (source_node p w v d arc) in
          earlier_same k w (omega (arith, less, order.forward k i w v d arc there stands)) there

      short_new : n ≤ 1000000000000 + 11000000000 * at
      short_new = go is.attained
        where
          go : ((u.place ≡ 0) × (n ≡ release p u.job * 1000)) ⊎ ((w : Node) × (d : ℕ) × Arc p w u d × (n ≡ now w + longer s d)) → n ≤ 1000000000000 + 11000000000 * at
          go (inl (first, same)) = omega (arith, same, shaped.limits.releases u.job inside.job)
          go (inr (w, d, arc, same)) =
              let (k, there) = order.all w (source_node p w u d arc) in
              let before : k < at = order.forward k at w u d arc there here in
              omega (arith, same, before, below.short k w before there, longer_most s d few (arc_short p w u d shaped arc))

      pub rows_then : HasRows p firsts (set lengths (number_of firsts u) n)
      rows_then = record { numbers = rows.numbers; size = length-set lengths (number_of firsts u) n ∙ rows.size }

      pub below_then : AreLengthsBelow p s after nodes (at + 1)
      below_then = record {
        lengths = λ i v less stands. elim (cases_lt i at) [
          | inl earlier ↦ rw (earlier_same i v earlier stands) (length_still p s now after v (now v) (sources_same i v (omega arith) stands) (below.lengths i v earlier stands))
          | inr last ↦ newest i v (omega arith) stands
        ];
        short = λ i v less stands. elim (cases_lt i at) [
          | inl earlier ↦ omega (arith, earlier_same i v earlier stands, below.short i v earlier stands)
          | inr last ↦ (let same : i ≡ at = omega arith in
              let one : v ≡ u = some_same (sym (subst (λ k. IsAt nodes k v) same stands) ∙ here) in
              omega (arith, ap after one, after_new, short_new, same))
        ];
      }
        where
          some_same : {x y : Node} → Some x ≡ Some y → x ≡ y
          some_same same = cc

          newest : (i : ℕ) (v : Node) → i ≡ at → IsAt nodes i v → IsLength p s after (Arc p) v (after v)
          newest i v same stands =
              let one : u ≡ v = some_same (sym here ∙ subst (λ k. IsAt nodes k v) same stands) in
              subst (λ (w : Node). IsLength p s after (Arc p) w (after w)) one
              (rw after_new (length_still p s now after u n (sources_same at u (omega arith) here) is))

  -- a place without a node adds nothing
  pub below_skip : ((v : Node) → IsAt nodes at v → ⊥) → AreLengthsBelow p s now nodes (at + 1)
  below_skip none = record {
    lengths = λ i v less stands. below.lengths i v (earlier i v less stands) stands;
    short = λ i v less stands. below.short i v (earlier i v less stands) stands;
  }
    where
      earlier : (i : ℕ) (v : Node) → i < at + 1 → IsAt nodes i v → i < at
      earlier i v less stands = elim (cases_lt i at) [
        | inl before ↦ before
        | inr last ↦ (let same : i ≡ at = omega arith in absurd (none v (subst (λ k. IsAt nodes k v) same stands)))
      ]

  -- at the end all nodes have theirs
  pub all_lengths : length nodes ≤ at → AreLengths p s now
  all_lengths over v is = let (i, stands) = order.all v is in below.lengths i v (omega (arith, over, place_inside i v stands)) stands

  -- a node is reached where those are from which arcs lead to it
  reached_next : (i : ℕ) (w : Node) → IsAt nodes i w → ((k : ℕ) (u : Node) → k < i → IsAt nodes k u → (path : List Node) × LongerPath p s path u (now u))
      → IsLength p s now (Arc p) w (now w) → (path : List Node) × LongerPath p s path w (now w)
  reached_next i w stands before is = go is.attained
    where
      go : ((w.place ≡ 0) × (now w ≡ release p w.job * 1000)) ⊎ ((u : Node) × (d : ℕ) × Arc p u w d × (now w ≡ now u + longer s d)) → (path : List Node) × LongerPath p s path w (now w)
      go (inl (first, same)) =
          let one : node w.job 0 ≡ w = node_same (node w.job 0) w refl (sym first) in
          let begins : LongerPath p s (node w.job 0 ∷ []) (node w.job 0) (now w) =
          subst (λ m. LongerPath p s (node w.job 0 ∷ []) (node w.job 0) m) (sym same) (sets_out w.job (order.of_plan i w stands).job) in
          (node w.job 0 ∷ [], subst (λ (x : Node). LongerPath p s (node w.job 0 ∷ []) x (now w)) one begins)
      go (inr (u, d, arc, same)) =
          let (k, there) = order.all u (source_node p u w d arc) in
          let (path, reached) = before k u (order.forward k i u w d arc there stands) there in
          (path ++ w ∷ [], subst (λ m. LongerPath p s (path ++ w ∷ []) w m) (sym same) (goes_along path u w (now u) d reached arc))

  pub all_reached : length nodes ≤ at → AreReached p s now
  all_reached over v is = let (i, stands) = order.all v is in go (suc i) i v (omega arith) stands
    where
      go : (n i : ℕ) (w : Node) → i < n → IsAt nodes i w → (path : List Node) × LongerPath p s path w (now w)
      go zero i w less stands = absurd (omega arith)
      go (suc n) i w less stands = reached_next i w stands (λ k u before there. go n k u (omega arith) there) (all_lengths over w (order.of_plan i w stands))

-- ---- what the lengths of the leavings say

module _ (p : PlannedShop) (s : ℕ) (kept : Node → ℕ) (lengths : AreLengths p s kept) where
  releases_kept : (j : ℕ) → j < jobs p → release p j * 1000 ≤ kept (node j 0)
  releases_kept j inside = (lengths (node j 0) (record { job = inside; place = omega arith })).begins refl

  arcs_kept : (u v : Node) (d : ℕ) → Arc p u v d → kept u + longer s d ≤ kept v
  arcs_kept u v d arc = (lengths v (target_node p u v d arc)).arcs u d arc

  pub late_exact : AreReached p s kept → (o : Option ℕ) → MatchOption o (AreAllWithin p kept) (IsFirstOver p kept) → MatchOption o (HasLongerSchedule p s) (IsFirstPast p s)
  late_exact reached None within = (kept, record { releases = releases_kept; arcs = arcs_kept; budgets = within })
  late_exact reached (Some j) over = record {
    past = record { job = over.job; nodes = (reached (leaving p j) there).0; length = kept (leaving p j); path = (reached (leaving p j) there).1; past = over.over };
    before = λ i less nodes n path. omega (arith, path_kept p s kept nodes (leaving p i) n releases_kept arcs_kept path, over.before i less);
  }
    where
      there : IsNode p (leaving p j)
      there = record { job = over.job; place = le_refl (steps p j) }

-- the greater of two numbers is one of them
pub greater_of : (n a b : ℕ) → n ≡ max a b → ((n ≡ a) × (b ≤ a)) ⊎ ((n ≡ b) × (a ≤ b))
greater_of n a b is = elim (cases_lt a b) [
  | inl less ↦ inr (omega arith, omega arith)
  | inr more ↦ inl (omega arith, omega arith)
]
