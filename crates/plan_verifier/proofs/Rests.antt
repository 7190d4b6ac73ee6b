-- The times from the bounds of a cell are those of the rest of its run.
use Rattle.std.proofs.Common.{◌≡◌, ℕ, ◌<◌, ◌≤◌, List, [], ◌∷◌, ◌++◌, Some, max, arith, refl, sym, subst, ◌∙◌, ◌⊎◌, inl, inr}
use Rattle.shop_base.specs.{declared.node.Node.Node, Plan.{PlannedShop, jobs, IsWellShaped}, Cell.{Cell, job_in, made, since, IsGone}}
use Rattle.shop_base.specs.{Activity.{Activity, Arrival, Operation, Cleaning, GoesOn}, Movers.due_of_job, Sound.IsSound}
use Rattle.shop_base.specs.Graph.{IsNode, leaving}
use Rattle.shop_base.specs.Ahead.{next_node, IsAhead, HoldsUp, PathAhead, now, held, onward, MomentsFitAhead}
use Rattle.shop_base.proofs.{Cycles.source_node, CellFacts.{job_due}}
use Rattle.shop_base.proofs.{Ahead.{IsLeftIn, arc_ahead, held_left}, InTime.path_kept}
use Rattle.alt_graph.specs.Bounds.{NodeBounds, PathFrom, begins_at, goes_along}
use Rattle.alt_graph.specs.{Times.{NodeTimes, earliest_of, AreOrderedFrom}, declared.solving.Solved.Solved}
use Rattle.alt_graph.specs.{declared.solving.Solved.TheVariants.{Ordered, Cyclic}, Solved.OnOrderedFrom}
use Rattle.alt_graph.proofs.NodeNumbers.{node_same}
use Rattle.plan_verifier.specs.CellBounds.{rest_bounds, bound_in, cleaned_at}
use Rattle.plan_verifier.specs.{Held.{later_than, BeginHeldUp}, Rest.{AreOrderedAhead, OnOrderedAhead}}
use Rattle.plan_verifier.proofs.Tables.{bound_passed, bound_next, bound_in_table, ahead_of, of_ahead, later_is, cleaned_holds, bound_kind, bound_from, held_bound}

module _ (p : PlannedShop) (c : Cell) (t : ℕ) (shaped : IsWellShaped p) (sound : IsSound p c) where
  abbrev b : NodeBounds
  b = rest_bounds p c t

  pub some_same : (n m : ℕ) → Some n ≡ Some m → n ≡ m
  some_same n m same = cc

  -- a bound of a node ahead is the length of a path ahead
  later_path : (v : Node) (n m : ℕ) → IsLeftIn p c v → PathAhead p c t (v ∷ []) v n → (m ≡ n) ⊎ ((due : ℕ) × (cleaned_at p c v ≡ Some due) × (m ≡ due)) → PathAhead p c t (v ∷ []) v m
  later_path v n m left path (inl same) = subst (λ k. PathAhead p c t (v ∷ []) v k) (sym same) path
  later_path v n m left path (inr (due, recorded, same)) =
      let (machine, going, holds) = cleaned_holds p c v due recorded in
      subst (λ k. PathAhead p c t (v ∷ []) v k) (sym same) (held (Cleaning machine) due v going holds)

  pub next_path : (v : Node) (n : ℕ) → IsNode p v → made c v.job ≡ v.place → (n ≡ t) ⊎ ((due : ℕ) × (due_of_job p v.job (job_in c v.job) ≡ Some due) × (n ≡ due)) → PathAhead p c t (v ∷ []) v n
  next_path v n is next (inl same) = subst (λ k. PathAhead p c t (v ∷ []) v k) (sym same) (now v is (omega arith))
  next_path v n is next (inr (due, recorded, same)) =
      let here : v ≡ next_node c v.job = node_same v (next_node c v.job) refl (sym next) in
      subst (λ k. PathAhead p c t (v ∷ []) v k) (sym same) (elim (job_due p c v.job due recorded) [
        | inl arrives ↦ held (Arrival v.job) due v arrives here
        | inr (m, works) ↦ held (Operation v.job m) due v works here
      ])

  pub bound_path : (v : Node) (n : ℕ) → IsNode p v → IsAhead c v → bound_in p c t v ≡ Some n → PathAhead p c t (v ∷ []) v n
  bound_path v n is ahead recorded = elim (bound_kind p c t v n ahead recorded) [
    | inl next ↦ (
        let left : IsLeftIn p c v = record { ahead = ahead; job = is.job; place = is.place } in
        let first = later_than t (due_of_job p v.job (job_in c v.job)) in
        let is_bound : later_than first (cleaned_at p c v) ≡ n = some_same _ _ (sym (bound_next p c t v next) ∙ recorded) in
        subst (λ k. PathAhead p c t (v ∷ []) v k) is_bound
        (later_path v first (later_than first (cleaned_at p c v)) left (next_path v first is next (later_is t (due_of_job p v.job (job_in c v.job)))) (later_is first (cleaned_at p c v))))
    | inr (m, due, going, holds, at) ↦ subst (λ k. PathAhead p c t (v ∷ []) v k) (sym at) (elim (later_is t (Some due)) [
      | inl same ↦ subst (λ k. PathAhead p c t (v ∷ []) v k) (sym same) (now v is ahead)
      | inr (k, some, same) ↦ (let first : max t due ≡ due = cc in subst (λ k. PathAhead p c t (v ∷ []) v k) (sym first) (held (Cleaning m) due v going holds))
    ])
  ]

  begin_more : (nodes : List Node) (v : Node) → BeginHeldUp p c nodes → BeginHeldUp p c (nodes ++ v ∷ [])
  begin_more [] v bad = absurd bad
  begin_more (u ∷ us) v begun = begun

  -- so a path from the bounds to a node ahead begins with one
  begin_held : (nodes : List Node) (v : Node) (n : ℕ) → IsAhead c v → PathFrom p b nodes v n → BeginHeldUp p c nodes
  begin_held _ _ _ ahead (begins_at v n is recorded) = (
    is,
    elim (bound_kind p c t v n ahead (sym (bound_in_table p c t sound v is) ∙ recorded)) [
      | inl next ↦ inl next
      | inr (m, due, going, holds, at) ↦ inr (m, due, going, holds)
    ],
  )
  begin_held _ _ _ ahead (goes_along nodes u v n d path from arc) = begin_more nodes v (begin_held nodes u n (of_ahead p c t sound u (source_node p u v d arc).job from) path)

  module _ (times : NodeTimes) (ordered : AreOrderedFrom p b times) where
    abbrev kept : Node → ℕ
    kept = earliest_of times

    at_bound : (v : Node) (n : ℕ) → IsNode p v → bound_in p c t v ≡ Some n → n ≤ kept v
    at_bound v n is recorded = ordered.times.moments.bounds v n is (bound_in_table p c t sound v is ∙ recorded)

    activity_kept : (a : Activity) (due : ℕ) (v : Node) → GoesOn p c a due → HoldsUp p c a v → due ≤ kept v
    activity_kept a due v going holds =
        let left : IsLeftIn p c v = held_left p c a due v sound going holds in
        let (n, is, le) = held_bound p c t a due v sound going holds in
        omega (arith, le, at_bound v n (record { job = left.job; place = left.place }) is)

    moments : MomentsFitAhead p c t kept
    moments = record {
      left = λ j inside gone. at_bound (leaving p j) (since c j) (record { job = inside; place = omega arith }) (bound_passed p c t (leaving p j) gone);
      present = λ j inside here.
          (let is = bound_next p c t (next_node c j) refl in omega (arith, bound_from p c t (next_node c j) _ (omega arith) is, at_bound (next_node c j) _ (record { job = inside; place = here }) is));
      activities = activity_kept;
      arcs = λ u v d ahead arc. ordered.times.moments.arcs u v d (ahead_of p c t sound u (source_node p u v d arc).job ahead) arc;
    }

    -- a path from the bounds to a node ahead is a path ahead
    path_ahead : (nodes : List Node) (v : Node) (n : ℕ) → IsAhead c v → PathFrom p b nodes v n → PathAhead p c t nodes v n
    path_ahead _ _ _ ahead (begins_at v n is recorded) = bound_path v n is ahead (sym (bound_in_table p c t sound v is) ∙ recorded)
    path_ahead _ _ _ ahead (goes_along nodes u v n d path from arc) =
        onward nodes u v n d (path_ahead nodes u n (of_ahead p c t sound u (source_node p u v d arc).job from) path) arc

    none_longer : (nodes : List Node) (v : Node) (n : ℕ) → PathAhead p c t nodes v n → n ≤ kept v
    none_longer nodes v n path = path_kept p c t kept nodes v n sound moments path

    -- a path to a passed node is its bound alone
    passed_path : (nodes : List Node) (v : Node) (n : ℕ) → v.place < made c v.job → PathFrom p b nodes v n → n ≡ since c v.job
    passed_path _ _ _ passed (begins_at v n is recorded) = some_same _ _ (sym recorded ∙ bound_in_table p c t sound v is ∙ bound_passed p c t v passed)
    passed_path _ _ _ passed (goes_along nodes u v n d path from arc) =
        let ahead : made c v.job ≤ v.place = arc_ahead p c u v d sound arc (of_ahead p c t sound u (source_node p u v d arc).job from) in
        absurd (omega arith)

    gone_left : (j : ℕ) → j < jobs p → IsGone p c j → kept (leaving p j) ≡ since c j
    gone_left j inside gone =
        let (nodes, path) = ordered.lengths.reached (leaving p j) (record { job = inside; place = omega arith }) in
        passed_path nodes (leaving p j) (kept (leaving p j)) gone path

    pub ordered_ahead : AreOrderedAhead p c t times
    ordered_ahead = record {
      ranks = ordered.times.ranks;
      schedule = record { shaped = ordered.times.ranks.shaped; ranks = ordered.times.ranks.rise; moments = moments };
      reached = λ v is ahead. (let (nodes, path) = ordered.lengths.reached v is in (nodes, path_ahead nodes v (kept v) ahead path));
      greatest = none_longer;
      chains = λ nodes v is ahead chain. (let path = chain p b ordered.times in (path_ahead nodes v (kept v) ahead path, begin_held nodes v (kept v) ahead path));
      left = gone_left;
    }

  -- where there is no cycle
  pub solved_ahead : (solved : Solved) → OnOrderedFrom p b solved → OnOrderedAhead p c t solved
  solved_ahead (Ordered times) ordered = ordered_ahead times ordered
  solved_ahead (Cyclic nodes) ordered = tt
