-- The nodes of jobs by number, as they are added one by one.
use Rattle.std.proofs.Common.{◌≡◌, ℕ, zero, suc, ◌+◌, ◌<◌, ◌≤◌, ◌⊎◌, inl, inr, List, [], ◌∷◌, ◌++◌, length, get_or, arith, refl, sym, ap, ◌∙◌, subst}
use Rattle.std.proofs.lemmas.Bool.{cases_lt}
use Rattle.std.proofs.lemmas.List.{get_or_append_left, get_or_push, length_push}
use Rattle.shop_base.specs.declared.node.Node.{Node}
use Rattle.shop_base.specs.Cell.{Cell}
use Rattle.shop_base.specs.Graph.{node}
use Rattle.alt_graph.specs.Evidence.{IsNodeBefore}
use Rattle.alt_graph.specs.Places.{node_at}
use Rattle.alt_graph.proofs.NodeNumbers.{node_same}
use Rattle.plan_bounds.specs.Bounds.{ShopTimes, job_count, route_in}
use Rattle.plan_limits.specs.Asked.{IsFollowed, IsLast, IsPlace, AreNumberedTo, AreNumbered}

-- what holds of each item of a list still does with one more
pub pushed : {A : Type 0} (P : ℕ → A → Type 0) (xs : List A) (x d : A) → ((n : ℕ) → n < length xs → P n (get_or xs n d)) → P (length xs) x
    → (n : ℕ) → n < length (xs ++ x ∷ []) → P n (get_or (xs ++ x ∷ []) n d)
pushed P xs x d before here n within = elim (cases_lt n (length xs)) [
  | inl lower ↦ subst (P n) (sym (get_or_append_left xs (x ∷ []) d n lower)) (before n lower)
  | inr higher ↦ (let same : length xs ≡ n = omega (arith, length_push xs x) in subst (P n) (sym (get_or_push xs x d n same)) (subst (λ (k : ℕ). P k x) same here))
]

module _ (t : ShopTimes) (c : Cell) where
  pub numbered_none : (nodes : List Node) → nodes ≡ [] → AreNumberedTo t c 0 0 nodes
  numbered_none nodes is = record {
    inside = λ n within. absurd (omega (arith, within, none));
    before = λ n within. absurd (omega (arith, within, none));
    sorted = λ n l less within. absurd (omega (arith, within, none));
    followed = λ n within place. absurd (omega (arith, within, none));
  }
    where
      none : length nodes ≡ 0
      none = ap length is

  module _ (j k : ℕ) (nodes : List Node) (are : AreNumberedTo t c j k nodes) where
    -- the job's next place is added
    pub numbered_push : IsPlace t c (node j k) → AreNumberedTo t c j (k + 1) (nodes ++ node j k ∷ [])
    numbered_push is = record {
      inside = pushed (λ n v. IsPlace t c v) nodes (node j k) (node 0 0) are.inside is;
      before = pushed (λ n v. IsNodeBefore v (node j (k + 1))) nodes (node j k) (node 0 0) (λ n within. looser (node_at nodes n) (are.before n within)) (inr (refl, omega arith));
      sorted = λ n l less within. subst (λ (v : Node). IsNodeBefore v (node_at (nodes ++ node j k ∷ []) l)) (sym (at_old n (omega (arith, less, within, length_push nodes (node j k))))) (apart n l less within (cases_lt l (length nodes)));
      followed = λ n within place. follow n within place (cases_lt n (length nodes));
    }
      where
        at_old : (n : ℕ) → n < length nodes → node_at (nodes ++ node j k ∷ []) n ≡ node_at nodes n
        at_old n within = get_or_append_left nodes (node j k ∷ []) (node 0 0) n within

        at_new : (n : ℕ) → length nodes ≡ n → node_at (nodes ++ node j k ∷ []) n ≡ node j k
        at_new n same = get_or_push nodes (node j k) (node 0 0) n same

        after : {u v : Node} → u ≡ v → node u.job (u.place + 1) ≡ node v.job (v.place + 1)
        after same = ap (λ (v : Node). node v.job (v.place + 1)) same

        looser : (v : Node) → IsNodeBefore v (node j k) → IsNodeBefore v (node j (k + 1))
        looser v (inl earlier) = inl earlier
        looser v (inr (same, less)) = inr (same, omega (arith, less))

        apart : (n l : ℕ) → n < l → l < length (nodes ++ node j k ∷ []) → (l < length nodes) ⊎ (length nodes ≤ l) → IsNodeBefore (node_at nodes n) (node_at (nodes ++ node j k ∷ []) l)
        apart n l less within (inl lower) = subst (λ (v : Node). IsNodeBefore (node_at nodes n) v) (sym (at_old l lower)) (are.sorted n l less lower)
        apart n l less within (inr higher) =
            let same : length nodes ≡ l = omega (arith, within, higher, length_push nodes (node j k)) in
            subst (λ (v : Node). IsNodeBefore (node_at nodes n) v) (sym (at_new l same)) (are.before n (omega (arith, less, same)))

        follow : (n : ℕ) → n < length (nodes ++ node j k ∷ []) → (node_at (nodes ++ node j k ∷ []) n).place < length (route_in t (node_at (nodes ++ node j k ∷ []) n).job)
            → (n < length nodes) ⊎ (length nodes ≤ n) → IsFollowed (nodes ++ node j k ∷ []) n ⊎ IsLast j (k + 1) (nodes ++ node j k ∷ []) n
        follow n within place (inl lower) = old (are.followed n lower (subst (λ (v : Node). v.place < length (route_in t v.job)) (at_old n lower) place))
          where
            old : IsFollowed nodes n ⊎ IsLast j k nodes n → IsFollowed (nodes ++ node j k ∷ []) n ⊎ IsLast j (k + 1) (nodes ++ node j k ∷ []) n
            old (inl followed) = inl (record {
              within = omega (arith, followed.within, length_push nodes (node j k));
              next = at_old (n + 1) followed.within ∙ followed.next ∙ sym (after (at_old n lower));
            })
            old (inr last) = inl (record {
              within = omega (arith, last.last, length_push nodes (node j k));
              next = at_new (n + 1) (sym last.last) ∙ sym (node_same _ _ last.job last.place) ∙ sym (after (at_old n lower));
            })
        follow n within place (inr higher) =
            let same : length nodes ≡ n = omega (arith, within, higher, length_push nodes (node j k)) in
            inr (record {
              last = omega (arith, same, length_push nodes (node j k));
              job = ap (λ (v : Node). v.job) (at_new n same);
              place = ap (λ (v : Node). v.place + 1) (at_new n same);
            })

    -- places before the first that is added are passed over
    pub numbered_from : (l : ℕ) → k ≡ 0 → AreNumberedTo t c j l nodes
    numbered_from l none = record {
      inside = are.inside;
      before = λ n within. inl (earlier (node_at nodes n) (are.before n within));
      sorted = are.sorted;
      followed = λ n within place. inl (follow n (are.followed n within place));
    }
      where
        earlier : (v : Node) → IsNodeBefore v (node j k) → v.job < j
        earlier v (inl less) = less
        earlier v (inr (same, less)) = absurd (omega (arith, less, none))

        follow : (n : ℕ) → IsFollowed nodes n ⊎ IsLast j k nodes n → IsFollowed nodes n
        follow n (inl followed) = followed
        follow n (inr last) = absurd (omega (arith, last.place, none))

    -- the next job's turn comes, where all places of this one, or none, are numbered
    pub numbered_on : (k ≡ 0) ⊎ (k ≡ length (route_in t j) + 1) → AreNumberedTo t c (j + 1) 0 nodes
    numbered_on done = record {
      inside = are.inside;
      before = λ n within. inl (earlier (node_at nodes n) (are.before n within));
      sorted = are.sorted;
      followed = λ n within place. inl (follow n place done (are.followed n within place));
    }
      where
        earlier : (v : Node) → IsNodeBefore v (node j k) → v.job < j + 1
        earlier v (inl less) = omega (arith, less)
        earlier v (inr (same, less)) = omega (arith, same)

        follow : (n : ℕ) → (node_at nodes n).place < length (route_in t (node_at nodes n).job) → (k ≡ 0) ⊎ (k ≡ length (route_in t j) + 1) → IsFollowed nodes n ⊎ IsLast j k nodes n → IsFollowed nodes n
        follow n place done (inl followed) = followed
        follow n place (inl none) (inr last) = absurd (omega (arith, last.place, none))
        follow n place (inr all) (inr last) = absurd (omega (arith, last.place, all, place, ap (λ (i : ℕ). length (route_in t i)) last.job))

  -- of all nodes of some jobs, one that isn't a leaving is followed by its job's next place
  pub followed_by : (nodes : List Node) (n : ℕ) → AreNumbered t c nodes → n < length nodes → (node_at nodes n).place < length (route_in t (node_at nodes n).job) → IsFollowed nodes n
  followed_by nodes n are within place = go (are.followed n within place)
    where
      go : IsFollowed nodes n ⊎ IsLast (job_count t) 0 nodes n → IsFollowed nodes n
      go (inl followed) = followed
      go (inr last) = absurd (omega (arith, last.place))

  -- and so on, up to its leaving
  pub followed_on : (nodes : List Node) (n d : ℕ) → AreNumbered t c nodes → n < length nodes → (node_at nodes n).place + d ≤ length (route_in t (node_at nodes n).job)
      → (n + d < length nodes) × (node_at nodes (n + d) ≡ node (node_at nodes n).job ((node_at nodes n).place + d))
  followed_on nodes n zero are within place =
      let same : n + 0 ≡ n = omega arith in
      (omega (arith, within), ap (node_at nodes) same ∙ node_same (node_at nodes n) (node (node_at nodes n).job ((node_at nodes n).place + 0)) refl (omega arith))
  followed_on nodes n (suc d) are within place = go (followed_on nodes n d are within (omega (arith, place)))
    where
      v : Node
      v = node_at nodes n

      go : (n + d < length nodes) × (node_at nodes (n + d) ≡ node v.job (v.place + d)) → (n + suc d < length nodes) × (node_at nodes (n + suc d) ≡ node v.job (v.place + suc d))
      go (inside, is) =
          let more : (node_at nodes (n + d)).place < length (route_in t (node_at nodes (n + d)).job) = subst (λ (u : Node). u.place < length (route_in t u.job)) (sym is) (omega (arith, place)) in
          let next = followed_by nodes (n + d) are inside more in
          let number : n + suc d ≡ n + d + 1 = omega arith in
          let place : v.place + d + 1 ≡ v.place + suc d = omega arith in
          (omega (arith, next.within), ap (node_at nodes) number ∙ next.next ∙ ap (λ (u : Node). node u.job (u.place + 1)) is ∙ ap (node v.job) place)
