-- Paths ahead, measured from where they can begin.
use Rattle.std.proofs.Common.{◌≡◌, ◌↔◌, ℕ, ◌+◌, ◌<◌, ◌≤◌, List, [], ◌∷◌, ◌++◌, length, length-append, if◌then◌else◌, nat_lt, Option, None, Some, arith, refl, sym, ap, subst, ◌∙◌, inl, inr, lt-ltb, le-ltb}
use Rattle.std.specs.Prelude.{IfSome, unwrap_or}
use Rattle.std.proofs.{Math.Seq.get_or-append_seam, lemmas.Bool.cases_lt}
use Rattle.shop_base.specs.{declared.node.Node.Node, Plan.{PlannedShop, IsWellShaped}, Cell.{Cell, job_in, made}}
use Rattle.shop_base.specs.{Movers.due_of_job, Sound.IsSound, Punctual.AreNotEarly}
use Rattle.shop_base.specs.{Graph.{node, IsNode, leaving}, Ahead.{IsAhead, PathAhead, now, held, onward}}
use Rattle.shop_base.proofs.{Cycles.source_node, Ahead.{IsLeftIn, held_left, path_left}}
use Rattle.shop_base.proofs.LowerBounds.{no_continuation_is_faster-holds}
use Rattle.alt_graph.specs.Bounds.{NodeBounds, bound_of, IsAheadOf, PathFrom, begins_at, goes_along, IsChainFrom}
use Rattle.alt_graph.specs.{Evidence.EndsIn, Places.node_at}
use Rattle.plan_verifier.specs.{CellBounds.{rest_bounds, bound_in, held_to, cleaned_at}, FromThere.IsNeverGoneBeforeFrom}
use Rattle.plan_verifier.specs.{Held.later_than, PathBounds.{path_bounds, beginning_in}, Rest.IsChainAhead}
use Rattle.plan_verifier.proofs.{Rests.{some_same, bound_path}, Tables.{bound_next, bound_later, bound_in_table, in_table, ahead_of, of_ahead, bound_from, held_bound}}

-- a path ahead ends with its last node
ahead_ends : (p : PlannedShop) (c : Cell) (t : ℕ) (nodes : List Node) (v : Node) (n i : ℕ) → PathAhead p c t nodes v n → i + 1 ≡ length nodes → node_at nodes i ≡ v
ahead_ends p c t _ _ _ i (now v is ahead) end = let first : i ≡ 0 = omega arith in ap (node_at (v ∷ [])) first
ahead_ends p c t _ _ _ i (held a due v going holds) end = let first : i ≡ 0 = omega arith in ap (node_at (v ∷ [])) first
ahead_ends p c t _ _ _ i (onward nodes u v n d path arc) end =
    let is : i ≡ length nodes = omega (arith, length-append nodes (v ∷ [])) in
    ap (node_at (nodes ++ v ∷ [])) is ∙ get_or-append_seam nodes v [] (node 0 0)

-- it has a node
ahead_some : (p : PlannedShop) (c : Cell) (t : ℕ) (nodes : List Node) (v : Node) (n : ℕ) → PathAhead p c t nodes v n → (i : ℕ) × (i + 1 ≡ length nodes)
ahead_some p c t _ _ _ (now v is ahead) = (0, refl)
ahead_some p c t _ _ _ (held a due v going holds) = (0, refl)
ahead_some p c t _ _ _ (onward nodes u v n d path arc) = (length nodes, omega (arith, length-append nodes (v ∷ [])))

-- so paths ahead along the same nodes end with the same one
pub along_greatest : (p : PlannedShop) (c : Cell) (t : ℕ) (nodes : List Node) (v : Node) (n : ℕ) → PathAhead p c t nodes v n → ((k : ℕ) → PathAhead p c t nodes v k → k ≤ n)
    → (w : Node) (k : ℕ) → PathAhead p c t nodes w k → k ≤ n
along_greatest p c t nodes v n path longest w k other =
    let (i, end) = ahead_some p c t nodes v n path in
    let same : w ≡ v = sym (ahead_ends p c t nodes w k i other end) ∙ ahead_ends p c t nodes v n i path end in
    longest k (subst (λ (u : Node). PathAhead p c t nodes u k) same other)

-- no run that goes on is faster than a path ahead to a leaving
pub path_no_faster : (p : PlannedShop) (c : Cell) (t j : ℕ) (nodes : List Node) (n : ℕ) → IsWellShaped p → PathAhead p c t nodes (leaving p j) n → IsNeverGoneBeforeFrom p c t j n
path_no_faster p c t j nodes n shaped path es fs run end more from late gone =
    no_continuation_is_faster-holds p es t j nodes n fs shaped run (subst (λ (d : Cell). PathAhead p d t nodes (leaving p j) n) (sym end) path) more from
    (subst (λ (d : Cell). AreNotEarly p d fs) (sym end) late) gone

module _ (p : PlannedShop) (c : Cell) (t : ℕ) (v : Node) where
  pub beginning_passed : v.place < made c v.job → beginning_in p c t v ≡ None
  beginning_passed passed = rw (lt-ltb v.place (made c v.job) passed) refl

  pub beginning_here : IsAhead c v → beginning_in p c t v ≡ Some (unwrap_or (bound_in p c t v) t)
  beginning_here ahead = let here : made c v.job ≤ v.place = ahead in rw (le-ltb v.place (made c v.job) here) refl

  -- the present moment or, of its job's next node, when what goes on with the job is due, if that is later
  abbrev pub begun_at : ℕ
  begun_at = if nat_lt (made c v.job) v.place then t else later_than t (due_of_job p v.job (job_in c v.job))

  pub begun_next : made c v.job ≡ v.place → begun_at ≡ later_than t (due_of_job p v.job (job_in c v.job))
  begun_next next = rw (le-ltb (made c v.job) v.place (omega arith)) refl

  held_or : (o : Option ℕ) → unwrap_or (held_to t o) t ≡ later_than t o
  held_or None = refl
  held_or (Some due) = refl

  -- a path begins there then, or when the cleaning that holds the node up is due, if that is later
  pub beginning_ahead : IsAhead c v → beginning_in p c t v ≡ Some (later_than begun_at (cleaned_at p c v))
  beginning_ahead ahead = beginning_here ahead ∙ ap (λ n. Some n) (elim (cases_lt (made c v.job) v.place) [
    | inl later ↦ (let at : begun_at ≡ t = rw (lt-ltb (made c v.job) v.place later) refl in
        ap (λ o. unwrap_or o t) (bound_later p c t v later) ∙ held_or (cleaned_at p c v) ∙ ap (λ n. later_than n (cleaned_at p c v)) (sym at))
    | inr other ↦ (let next : made c v.job ≡ v.place = (let here : made c v.job ≤ v.place = ahead in omega arith) in
        ap (λ o. unwrap_or o t) (bound_next p c t v next) ∙ ap (λ n. later_than n (cleaned_at p c v)) (sym (begun_next next)))
  ])

module _ (p : PlannedShop) (c : Cell) (t : ℕ) (shaped : IsWellShaped p) (sound : IsSound p c) where
  abbrev b : NodeBounds
  b = path_bounds p c t

  pub beginning_in_table : (v : Node) → IsNode p v → bound_of b v ≡ beginning_in p c t v
  beginning_in_table v is = in_table p (beginning_in p c t) v is

  -- by the table of the cell's bounds
  pub none_begins : (v : Node) → IsNode p v → (IsAheadOf (rest_bounds p c t) v → ⊥) → bound_of b v ≡ None
  none_begins v is off = beginning_in_table v is ∙ beginning_passed p c t v (elim (cases_lt v.place (made c v.job)) [
    | inl passed ↦ passed
    | inr here ↦ absurd (off (ahead_of p c t sound v is.job here))
  ])

  pub one_begins : (v : Node) → IsNode p v → IsAheadOf (rest_bounds p c t) v → bound_of b v ≡ Some (unwrap_or (bound_of (rest_bounds p c t) v) t)
  one_begins v is ahead =
      beginning_in_table v is ∙ beginning_here p c t v (of_ahead p c t sound v is.job ahead) ∙ ap (λ o. Some (unwrap_or o t)) (sym (bound_in_table p c t sound v is))

  -- where a path can begin one begins
  pub beginning_path : (v : Node) (n : ℕ) → IsNode p v → bound_of b v ≡ Some n → PathAhead p c t (v ∷ []) v n
  beginning_path v n is recorded = elim (cases_lt v.place (made c v.job)) [
    | inl passed ↦ absurd (differ n (sym (beginning_in_table v is ∙ beginning_passed p c t v passed) ∙ recorded))
    | inr here ↦ subst (λ k. PathAhead p c t (v ∷ []) v k) (some_same p c t shaped sound _ _ (sym (beginning_in_table v is ∙ beginning_here p c t v here) ∙ recorded)) (from here (bound_in p c t v) refl)
  ]
    where
      differ : (m : ℕ) → None ≡ Some m → ⊥
      differ m bad = cc

      from : IsAhead c v → (o : Option ℕ) → bound_in p c t v ≡ o → PathAhead p c t (v ∷ []) v (unwrap_or o t)
      from ahead None none = now v is ahead
      from ahead (Some m) some = bound_path p c t shaped sound v m is ahead some

  -- so each path from there is one ahead
  path_ahead : (nodes : List Node) (v : Node) (n : ℕ) → PathFrom p b nodes v n → PathAhead p c t nodes v n
  path_ahead _ _ _ (begins_at v n is recorded) = beginning_path v n is recorded
  path_ahead _ _ _ (goes_along nodes u v n d path from arc) = onward nodes u v n d (path_ahead nodes u n path) arc

  -- and along the nodes of a path ahead there is one from there that is at least as long
  begin_long : (v : Node) (k : ℕ) → IsLeftIn p c v → k ≤ unwrap_or (bound_in p c t v) t → (n : ℕ) × (k ≤ n) × PathFrom p b (v ∷ []) v n
  begin_long v k left le =
      let is : IsNode p v = record { job = left.job; place = left.place } in
      (unwrap_or (bound_in p c t v) t, le, begins_at v _ is (beginning_in_table v is ∙ beginning_here p c t v left.ahead))

  begin_from : (v : Node) → IsAhead c v → (o : Option ℕ) → bound_in p c t v ≡ o → t ≤ unwrap_or o t
  begin_from v ahead None is = omega arith
  begin_from v ahead (Some n) is = bound_from p c t v n ahead is

  path_long : (nodes : List Node) (v : Node) (k : ℕ) → PathAhead p c t nodes v k → (n : ℕ) × (k ≤ n) × PathFrom p b nodes v n
  path_long _ _ _ (now v is ahead) = begin_long v t (record { ahead = ahead; job = is.job; place = is.place }) (begin_from v ahead (bound_in p c t v) refl)
  path_long _ _ _ (held a due v going holds) =
      let (n, is, le) = held_bound p c t a due v sound going holds in
      begin_long v due (held_left p c a due v sound going holds) (rw is le)
  path_long _ _ _ (onward nodes u v n d path arc) =
      let (m, le, from) = path_long nodes u n path in
      (m + d, omega (arith, le), goes_along nodes u v m d from (ahead_of p c t sound u (source_node p u v d arc).job (path_left p c t nodes u n sound path).ahead) arc)

  module _ (nodes : List Node) (answer : Option ℕ) (exact : (n : ℕ) → (answer ≡ Some n) ↔ IsChainFrom p b nodes n) where
    pub exact_ahead : (n : ℕ) → (answer ≡ Some n) ↔ IsChainAhead p c t nodes n
    exact_ahead n = (there, back)
      where
        there : answer ≡ Some n → IsChainAhead p c t nodes n
        there is =
            let chain = (exact n).0 is in
            record {
              few = chain.few;
              path = (chain.path.0, path_ahead nodes chain.path.0 n chain.path.1);
              greatest = λ w k other. (let (m, le, from) = path_long nodes w k other in omega (arith, le, chain.greatest w m from));
            }

        back : IsChainAhead p c t nodes n → answer ≡ Some n
        back chain =
            let (m, le, from) = path_long nodes chain.path.0 n chain.path.1 in
            let same : m ≡ n = omega (arith, le, chain.greatest chain.path.0 m (path_ahead nodes chain.path.0 m from)) in
            (exact n).1 (record {
              few = chain.few;
              path = (chain.path.0, subst (λ k. PathFrom p b nodes chain.path.0 k) same from);
              greatest = λ w k other. chain.greatest w k (path_ahead nodes w k other);
            })

    pub answer_no_faster : IfSome answer (λ n. (j : ℕ) → EndsIn nodes (leaving p j) → IsNeverGoneBeforeFrom p c t j n)
    answer_no_faster = go answer refl
      where
        go : (o : Option ℕ) → answer ≡ o → IfSome o (λ n. (j : ℕ) → EndsIn nodes (leaving p j) → IsNeverGoneBeforeFrom p c t j n)
        go None is = tt
        go (Some n) is = (let chain = (exact_ahead n).0 is in λ j ends. path_no_faster p c t j nodes n shaped
            (subst (λ (w : Node). PathAhead p c t nodes w n) (ends_at chain.path.0 n chain.path.1 j ends) chain.path.1))
          where
            ends_at : (v : Node) (m : ℕ) → PathAhead p c t nodes v m → (j : ℕ) → EndsIn nodes (leaving p j) → v ≡ leaving p j
            ends_at v m path j (front, same) =
                sym (ahead_ends p c t nodes v m (length front) path (omega (arith, ap length same, length-append front (leaving p j ∷ []))))
                ∙ ap (λ all. node_at all (length front)) same
                ∙ get_or-append_seam front (leaving p j) [] (node 0 0)
