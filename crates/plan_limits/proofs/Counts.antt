-- How many nodes a shop has at most: a number for each, by its job and its place.
use Rattle.std.proofs.Common.{◌≡◌, ◌≢◌, ℕ, ◌+◌, ◌*◌, ◌/◌, ◌%◌, ◌<◌, ◌≤◌, List, length, map, get_or, true, false, arith, sym, ap, ◌∙◌, subst}
use Rattle.std.proofs.Math.Dec.{eqb}
use Rattle.std.specs.List.{list_any}
use Rattle.std.proofs.lemmas.Bool.{ne_eqb, eqb-true}
use Rattle.std.proofs.lemmas.Nat.{mul-add-lt, div-mul-add, mod-mul-add}
use Rattle.std.proofs.lemmas.List.{get_or-map, length-map}
use Rattle.std.proofs.lemmas.List.Folds.{Any-from_list_any}
use Rattle.std.proofs.lemmas.Map.Keys.{IsDistinct-from_apart}
use Rattle.std.proofs.lemmas.Map.Steps.{length-le_from_distinct_below}
use Rattle.shop_base.specs.declared.limits.TheConstants.{MAX_MACHINES}
use Rattle.shop_base.proofs.Sizes.{steps_few}
use Rattle.shop_base.specs.declared.node.Node.{Node}
use Rattle.shop_base.specs.Plan.{PlannedShop, jobs, IsWellShaped}
use Rattle.shop_base.specs.Graph.{node, AreDistinct, IsNode}
use Rattle.alt_graph.specs.Places.{node_at}
use Rattle.alt_graph.proofs.NodeLists.{distinct_at}
use Rattle.alt_graph.proofs.NodeNumbers.{node_same}

-- how many numbers there are: a job has at most so many steps
abbrev pub number_count : PlannedShop → ℕ
number_count p = jobs p * (MAX_MACHINES + 1)

module _ (p : PlannedShop) (shaped : IsWellShaped p) where
  -- the number of a node
  abbrev number_of : Node → ℕ
  number_of v = v.job * (MAX_MACHINES + 1) + v.place

  number_within : (v : Node) → IsNode p v → number_of v < number_count p
  number_within v is = omega (arith, mul-add-lt v.job (MAX_MACHINES + 1) v.place (jobs p) is.job (omega (arith, steps_few p shaped v.job is.job, is.place)))

  pub numbers_few : number_count p ≤ 200 * 101
  numbers_few = omega (arith, shaped.shop.counts.few_jobs)

  numbers_differ : (u v : Node) → IsNode p u → IsNode p v → u ≢ v → number_of u ≢ number_of v
  numbers_differ u v one other apart same =
      let k : ℕ = MAX_MACHINES + 1 in
      let few : u.place < k = omega (arith, steps_few p shaped u.job one.job, one.place) in
      let few' : v.place < k = omega (arith, steps_few p shaped v.job other.job, other.place) in
      let job : u.job ≡ v.job = sym (div-mul-add u.job k u.place few) ∙ ap (λ (n : ℕ). n / k) same ∙ div-mul-add v.job k v.place few' in
      let place : u.place ≡ v.place = sym (mod-mul-add u.job k u.place few) ∙ ap (λ (n : ℕ). n % k) same ∙ mod-mul-add v.job k v.place few' in
      apart (node_same u v job place)

  module _ (nodes : List Node) (distinct : AreDistinct nodes) (inside : (i : ℕ) → i < length nodes → IsNode p (node_at nodes i)) where
    number_at : (k d : ℕ) → k < length nodes → get_or (map number_of nodes) k d ≡ number_of (node_at nodes k)
    number_at k d within = get_or-map number_of nodes k (node 0 0) d within

    numbers_apart : (i k d : ℕ) → i < k → k < length (map number_of nodes) → eqb (get_or (map number_of nodes) i d) (get_or (map number_of nodes) k d) ≡ false
    numbers_apart i k d less within =
        let here : k < length nodes = omega (arith, length-map nodes number_of) in
        let first : i < length nodes = omega arith in
        rw (number_at i d first, number_at k d here) (ne_eqb _ _ (numbers_differ (node_at nodes i) (node_at nodes k) (inside i first) (inside k here) (distinct_at nodes distinct k here i less)))

    numbers_below : (q : ℕ) → list_any (eqb q) (map number_of nodes) ≡ true → q < number_count p
    numbers_below q found =
        let at = Any-from_list_any (eqb q) (map number_of nodes) found in
        let here : at.0 < length nodes = omega (arith, length-map nodes number_of, at.2) in
        let same : q ≡ at.1 = eqb-true q at.1 at.4 in
        let is : number_of (node_at nodes at.0) ≡ q = sym (number_at at.0 at.1 here) ∙ at.3 ∙ sym same in
        subst (λ (n : ℕ). n < number_count p) is (number_within (node_at nodes at.0) (inside at.0 here))

    -- distinct nodes are no more than there are numbers
    pub nodes_few : length nodes ≤ number_count p
    nodes_few =
        let all = length-le_from_distinct_below (map number_of nodes) (number_count p) (IsDistinct-from_apart eqb (map number_of nodes) numbers_apart) numbers_below in
        omega (arith, all, length-map nodes number_of)
