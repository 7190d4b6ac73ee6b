-- Paths from bounds: where they begin and end, their arcs, the longest along a list of nodes, and what is recorded of it.
use Rattle.std.proofs.Common.{◌≡◌, ℕ, ◌+◌, ◌-◌, ◌<◌, ◌≤◌, ◌↔◌, List, [], ◌∷◌, ◌++◌, Option, None, Some, MatchOption, length, take, length-append, inl, inr, refl, sym, ap, subst, ◌∙◌, arith}
use Rattle.std.proofs.Math.Seq.{get_or-append_seam, take-append_seam}
use Rattle.std.proofs.lemmas.Bool.{cases_lt}
use Rattle.std.proofs.lemmas.List.{get_or_append_left, take_more, length-take-le}
use Rattle.shop_base.specs.declared.node.Node.{Node}
use Rattle.shop_base.specs.Plan.{PlannedShop}
use Rattle.shop_base.specs.Graph.{node, IsNode, Arc}
use Rattle.alt_graph.specs.Evidence.{node_count}
use Rattle.alt_graph.specs.Bounds.{NodeBounds, bound_of, IsAheadOf, PathFrom, begins_at, goes_along, IsChainFrom, HasBound, LeadsAhead}
use Rattle.alt_graph.specs.Sources.{IsLongestArc}
use Rattle.alt_graph.specs.Places.{node_at}

-- two lists that end alike are alike before
snoc_same : (xs ys : List Node) (a b : Node) → xs ++ a ∷ [] ≡ ys ++ b ∷ [] → (xs ≡ ys) × (a ≡ b)
snoc_same xs ys a b same =
    let count : length xs ≡ length ys = omega (arith, ap length same, length-append xs (a ∷ []), length-append ys (b ∷ [])) in (
      sym (take-append_seam xs (a ∷ [])) ∙ ap (take (length xs)) same ∙ ap (λ n. take n (ys ++ b ∷ [])) count ∙ take-append_seam ys (b ∷ []),
      sym (get_or-append_seam xs a [] (node 0 0)) ∙ ap (λ nodes. node_at nodes (length xs)) same ∙ ap (node_at (ys ++ b ∷ [])) count ∙ get_or-append_seam ys b [] (node 0 0),
    )

module _ (p : PlannedShop) (b : NodeBounds) where
  -- a path has a node
  pub path_some : (nodes : List Node) (v : Node) (n : ℕ) → PathFrom p b nodes v n → 0 < length nodes
  path_some _ _ _ (begins_at v n is recorded) = omega arith
  path_some _ _ _ (goes_along nodes u v n d path ahead arc) = omega (arith, length-append nodes (v ∷ []))

  -- it begins with a bounded node
  pub path_begins : (nodes : List Node) (v : Node) (n : ℕ) → PathFrom p b nodes v n → (m : ℕ) × HasBound p b (node_at nodes 0) m
  path_begins _ _ _ (begins_at v n is recorded) = (n, (is, recorded))
  path_begins _ _ _ (goes_along nodes u v n d path ahead arc) =
      rw (get_or_append_left nodes (v ∷ []) (node 0 0) 0 (path_some nodes u n path)) (path_begins nodes u n path)

  -- and ends with its last node
  pub path_ends : (nodes : List Node) (v : Node) (n i : ℕ) → PathFrom p b nodes v n → i + 1 ≡ length nodes → node_at nodes i ≡ v
  path_ends _ _ _ i (begins_at v n inside recorded) end = let is : i ≡ 0 = omega arith in ap (node_at (v ∷ [])) is
  path_ends _ _ _ i (goes_along nodes u v n d path ahead arc) end =
      let is : i ≡ length nodes = omega (arith, length-append nodes (v ∷ [])) in
      ap (node_at (nodes ++ v ∷ [])) is ∙ get_or-append_seam nodes v [] (node 0 0)

  -- arcs from nodes ahead lead along it
  pub path_arcs : (nodes : List Node) (v : Node) (n i : ℕ) → PathFrom p b nodes v n → i + 1 < length nodes → LeadsAhead p b (node_at nodes i) (node_at nodes (i + 1))
  path_arcs _ _ _ i (begins_at v n is recorded) lt = absurd (omega arith)
  path_arcs _ _ _ i (goes_along nodes u v n d path ahead arc) lt = elim (cases_lt (i + 1) (length nodes)) [
    | inl before ↦ rw (get_or_append_left nodes (v ∷ []) (node 0 0) i (omega arith), get_or_append_left nodes (v ∷ []) (node 0 0) (i + 1) before) (path_arcs nodes u n i path before)
    | inr past ↦ (let end : i + 1 ≡ length nodes = omega (arith, length-append nodes (v ∷ [])) in
        let from : node_at (nodes ++ v ∷ []) i ≡ u = get_or_append_left nodes (v ∷ []) (node 0 0) i (omega arith) ∙ path_ends nodes u n i path end in
        let to : node_at (nodes ++ v ∷ []) (i + 1) ≡ v = ap (node_at (nodes ++ v ∷ [])) end ∙ get_or-append_seam nodes v [] (node 0 0) in
        rw (from, to) (ahead, (d, arc)))
  ]

  -- a path along a list goes on from one along all but its last node
  path_back : (nodes xs : List Node) (v w : Node) (n : ℕ) → PathFrom p b nodes w n → 0 < length xs → nodes ≡ xs ++ v ∷ []
      → (u : Node) × (m d : ℕ) × PathFrom p b xs u m × Arc p u v d × (n ≡ m + d)
  path_back _ xs v _ _ (begins_at w n is recorded) some same = absurd (omega (arith, ap length same, length-append xs (v ∷ []), some))
  path_back _ xs v _ _ (goes_along nodes u w n d path ahead arc) some same =
      let (front, end) = snoc_same nodes xs w v same in
      (u, n, d, rw front at path, rw end at arc, refl)

  -- a path to v, and none along these nodes is longer
  pub record IsLongestAlong (nodes : List Node) (v : Node) (n : ℕ) : Type 0 where
    pub path : PathFrom p b nodes v n
    pub greatest : (w : Node) (m : ℕ) → PathFrom p b nodes w m → m ≤ n

  -- the first node alone
  first_longest : (nodes : List Node) (v w : Node) (n m : ℕ) → HasBound p b v n → PathFrom p b nodes w m → nodes ≡ v ∷ [] → m ≤ n
  first_longest _ v _ n _ bound (begins_at w m is recorded) same =
      let there : w ≡ v = ap (λ nodes. node_at nodes 0) same in
      let both : Some m ≡ Some n = sym recorded ∙ ap (bound_of b) there ∙ bound.1 in
      let long : m ≡ n = cc in
      omega (arith, long)
  first_longest _ v _ n _ bound (goes_along nodes u w m d path ahead arc) same =
      absurd (omega (arith, ap length same, length-append nodes (w ∷ []), path_some nodes u m path))

  pub start_path : (nodes : List Node) (v : Node) (n : ℕ) → 0 < length nodes → v ≡ node_at nodes 0 → HasBound p b v n → IsLongestAlong (take 1 nodes) (node_at nodes 0) n
  start_path [] v n some is bound = absurd (omega arith)
  start_path (u ∷ us) v n some is bound =
      let here : HasBound p b u n = rw is at bound in
      record { path = begins_at u n here.0 here.1; greatest = λ w m other. first_longest (u ∷ []) u w n m here other refl }

  -- one more arc
  pub path_more : (nodes : List Node) (i n d : ℕ) → 0 < i → i < length nodes
      → IsLongestAlong (take i nodes) (node_at nodes (i - 1)) n → IsAheadOf b (node_at nodes (i - 1)) → IsLongestArc p (node_at nodes (i - 1)) (node_at nodes i) d
      → IsLongestAlong (take (i + 1) nodes) (node_at nodes (i + 1 - 1)) (n + d)
  path_more nodes i n d some inside so_far ahead arc =
      let is : i + 1 - 1 ≡ i = omega arith in
      let all : take (i + 1) nodes ≡ take i nodes ++ node_at nodes i ∷ [] = take_more nodes i (node 0 0) inside in
      let front = length-take-le i nodes (omega arith) in
      rw is (record {
        path = rw all (goes_along (take i nodes) (node_at nodes (i - 1)) (node_at nodes i) n d so_far.path ahead arc.arc);
        greatest = λ w m other. (
            let (u, k, e, path, last, sum) = path_back (take (i + 1) nodes) (take i nodes) (node_at nodes i) w m other (omega (arith, front)) all in
            let end : i - 1 + 1 ≡ length (take i nodes) = omega (arith, front) in
            let here : u ≡ node_at nodes (i - 1) = sym (path_ends (take i nodes) u k (i - 1) path end) ∙ path_ends (take i nodes) (node_at nodes (i - 1)) n (i - 1) so_far.path end in
            omega (arith, sum, so_far.greatest u k path, arc.longest e (rw here at last)));
      })

  -- without an arc from a node ahead between two nodes that follow one another there is no path
  pub arc_missing : (nodes : List Node) (i : ℕ) → 0 < i → i < length nodes
      → (LeadsAhead p b (node_at nodes (i - 1)) (node_at nodes i) → ⊥) → (n : ℕ) → IsChainFrom p b nodes n → ⊥
  arc_missing nodes i some inside none n chain =
      let (v, path) = chain.path in
      let next : i - 1 + 1 ≡ i = omega arith in
      none (subst (λ (k : ℕ). LeadsAhead p b (node_at nodes (i - 1)) (node_at nodes k)) next (path_arcs nodes v n (i - 1) path (omega arith)))

  -- nothing is recorded of what is no chain
  pub no_chain : (nodes : List Node) (answer : Option ℕ) → answer ≡ None → ((n : ℕ) → IsChainFrom p b nodes n → ⊥) → (n : ℕ) → (answer ≡ Some n) ↔ IsChainFrom p b nodes n
  no_chain nodes answer is none n = (λ some. absurd (differ (sym is ∙ some)), λ chain. absurd (none n chain))
    where
      differ : None ≡ Some n → ⊥
      differ bad = cc

  -- the length of a chain is recorded
  pub chain_length : (nodes : List Node) (v : Node) (n : ℕ) → length nodes ≤ node_count p → IsLongestAlong nodes v n → (m : ℕ) → (Some n ≡ Some m) ↔ IsChainFrom p b nodes m
  chain_length nodes v n few longest m = (there, back)
    where
      there : Some n ≡ Some m → IsChainFrom p b nodes m
      there same =
          let is : n ≡ m = cc in
          let chain : IsChainFrom p b nodes n = record { few = few; path = (v, longest.path); greatest = longest.greatest } in
          rw is at chain

      back : IsChainFrom p b nodes m → Some n ≡ Some m
      back chain = (let is : n ≡ m = omega (arith, longest.greatest chain.path.0 m chain.path.1, chain.greatest v n longest.path) in ap (λ k. Some k) is)

-- what is recorded of the first node
pub bound_exact : (p : PlannedShop) (b : NodeBounds) (v : Node) → IsNode p v → (recorded : Option ℕ) → recorded ≡ bound_of b v
    → MatchOption recorded ((n : ℕ) → HasBound p b v n → ⊥) (HasBound p b v)
bound_exact p b v is None same = λ n (inside, bound). differ n (same ∙ bound)
  where
    differ : (n : ℕ) → None ≡ Some n → ⊥
    differ n bad = cc
bound_exact p b v is (Some n) same = (is, sym same)
