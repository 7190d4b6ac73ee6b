-- The numbers of nodes: each node of the shop has its own, below the count of all.
use Rattle.std.proofs.Common.{◌≡◌, ◌≢◌, ℕ, zero, suc, ◌+◌, ◌-◌, ◌<◌, ◌≤◌, List, [], length, get_or, set, take, sum_by, arith, sym, ap, ◌∙◌, get_or-set_same, get_or-set_other, ◌⊎◌, inl, inr}
use Rattle.std.proofs.Math.Seq.{take-length}
use Rattle.std.proofs.lemmas.Bool.{cases_order, cases_eq}
use Rattle.std.proofs.lemmas.List.Sums.{sum_by_more}
use Rattle.shop_base.specs.declared.node.Node.{Node}
use Rattle.shop_base.specs.Plan.{PlannedShop, jobs, steps}
use Rattle.shop_base.specs.Graph.{node, IsNode}
use Rattle.alt_graph.specs.declared.times.NodeTime.{NodeTime}
use Rattle.alt_graph.specs.Evidence.{node_count}
use Rattle.alt_graph.specs.Lookups.{AreFirsts}
use Rattle.alt_graph.specs.Times.{NodeTimes, no_time, time_at, IsTimed}
use Rattle.alt_graph.specs.Layout.{number_of, by_job}
use Rattle.alt_graph.proofs.Layouts.{time_by_job, timed_by_job, timed_counted}

-- nodes with the same job and place are one
pub node_same : (u v : Node) → u.job ≡ v.job → u.place ≡ v.place → u ≡ v
node_same u v jobs_same places_same = ap (λ j. node j u.place) jobs_same ∙ ap (λ k. node v.job k) places_same

module _ (p : PlannedShop) (firsts : List ℕ) (are : AreFirsts p firsts) where
  -- the nodes of a later job have greater numbers
  firsts_rise : (i n : ℕ) → i + suc n ≤ jobs p → get_or firsts i 0 + (steps p i + 1) ≤ get_or firsts (i + suc n) 0
  firsts_rise i zero within =
      let one : i + suc zero ≡ i + 1 = omega arith in
      rw one (omega (arith, are.follows i (omega arith)))
  firsts_rise i (suc n) within =
      let more : i + suc (suc n) ≡ (i + suc n) + 1 = omega arith in
      rw more (omega (arith, firsts_rise i n (omega arith), are.follows (i + suc n) (omega arith)))

  pub later_job : (i j : ℕ) → i < j → j ≤ jobs p → get_or firsts i 0 + (steps p i + 1) ≤ get_or firsts j 0
  later_job i j less within =
      let gap : ℕ = j - suc i in
      let is : i + suc gap ≡ j = omega arith in
      rw is at (firsts_rise i gap (omega arith))

  -- the number after the nodes of the first n jobs
  firsts_count : (n : ℕ) → n ≤ jobs p → get_or firsts n 0 ≡ n + sum_by length (take n p.shop.routes)
  firsts_count zero within = are.begins
  firsts_count (suc n) within =
      let next : suc n ≡ n + 1 = omega arith in
      rw next (omega (arith, firsts_count n (omega arith), are.follows n (omega arith), sum_by_more length p.shop.routes n [] (omega arith)))

  -- the number after all nodes is their count
  pub numbers_count : get_or firsts (jobs p) 0 ≡ node_count p
  numbers_count = rw (take-length p.shop.routes) at (firsts_count (jobs p) (omega arith))

  -- a node's number is below the count of nodes
  pub number_inside : (v : Node) → IsNode p v → number_of firsts v < get_or firsts (jobs p) 0
  number_inside v is = omega (arith, later_job v.job (jobs p) is.job (omega arith), is.place)

  -- two nodes have two numbers
  pub number_same : (u v : Node) → IsNode p u → IsNode p v → number_of firsts u ≡ number_of firsts v → u ≡ v
  number_same u v one other same = go (cases_order u.job v.job)
    where
      go : (u.job ≡ v.job) ⊎ ((u.job < v.job) ⊎ (v.job < u.job)) → u ≡ v
      go (inl equal) = node_same u v equal (omega (arith, ap (λ j. get_or firsts j 0) equal))
      go (inr (inl less)) = absurd (omega (arith, later_job u.job v.job less (omega (arith, other.job)), one.place))
      go (inr (inr more)) = absurd (omega (arith, later_job v.job u.job more (omega (arith, one.job)), other.place))

  -- two nodes are one, or not
  pub cases_node : (u v : Node) → IsNode p u → IsNode p v → (u ≡ v) ⊎ (u ≢ v)
  cases_node u v one other = elim (cases_eq (number_of firsts u) (number_of firsts v)) [
    | inl same ↦ inl (number_same u v one other same)
    | inr apart ↦ inr λ same. apart (ap (number_of firsts) same)
  ]

  -- the place of a node's row
  job_inside : (v : Node) → IsNode p v → v.job + 1 < length firsts
  job_inside v is = omega (arith, is.job, are.size)

  place_inside : (v : Node) → IsNode p v → number_of firsts v < get_or firsts (v.job + 1) 0
  place_inside v is = omega (arith, is.place, are.follows v.job is.job)

  pub node_time : (rows : List NodeTime) (v : Node) → IsNode p v → time_at (by_job firsts rows) v ≡ get_or rows (number_of firsts v) no_time
  node_time rows v is = time_by_job firsts rows v (job_inside v is) (place_inside v is)

  -- exactly the nodes of the shop have rows
  pub timed_node : (rows : List NodeTime) (v : Node) → IsTimed (by_job firsts rows) v → IsNode p v
  timed_node rows v timed =
      let counted = timed_counted firsts rows v timed in
      let inside : v.job < jobs p = omega (arith, counted.job, are.size) in
      record { job = inside; place = omega (arith, counted.place, are.follows v.job inside) }

  -- a job's rows end within those of all nodes
  pub next_first : (j : ℕ) → j < jobs p → get_or firsts (j + 1) 0 ≤ get_or firsts (jobs p) 0
  next_first j inside = elim (cases_order (j + 1) (jobs p)) [
    | inl same ↦ omega (arith, ap (λ (i : ℕ). get_or firsts i 0) same)
    | inr (inl less) ↦ omega (arith, later_job (j + 1) (jobs p) less (omega arith))
    | inr (inr more) ↦ absurd (omega arith)
  ]

  pub node_timed : (rows : List NodeTime) (v : Node) → length rows ≡ get_or firsts (jobs p) 0 → IsNode p v → IsTimed (by_job firsts rows) v
  node_timed rows v size is = timed_by_job firsts rows v (job_inside v is) (place_inside v is) (omega (arith, size, next_first v.job is.job))

  -- a row that is written is that of its node alone
  module _ (rows : List NodeTime) (size : length rows ≡ get_or firsts (jobs p) 0) (v : Node) (is : IsNode p v) (row : NodeTime) where
    abbrev before : NodeTimes
    before = by_job firsts rows

    abbrev after : NodeTimes
    after = by_job firsts (set rows (number_of firsts v) row)

    pub time_same : time_at after v ≡ row
    time_same = node_time (set rows (number_of firsts v) row) v is ∙ get_or-set_same rows (number_of firsts v) row no_time (omega (arith, size, number_inside v is))

    pub time_other : (u : Node) → IsNode p u → u ≢ v → time_at after u ≡ time_at before u
    time_other u other apart =
        let numbers_apart : number_of firsts u ≢ number_of firsts v = λ same. apart (number_same u v other is same) in
        node_time (set rows (number_of firsts v) row) u other ∙ get_or-set_other rows (number_of firsts v) (number_of firsts u) row no_time numbers_apart ∙ sym (node_time rows u other)
