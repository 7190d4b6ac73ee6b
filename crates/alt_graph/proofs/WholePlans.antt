-- The bounds of a whole plan: its paths and times are those of the plan.
use Rattle.std.proofs.Common.{◌≡◌, ℕ, zero, suc, ◌+◌, List, [], ◌∷◌, ◌<◌, length, map, get_or, Option, None, Some, arith, refl, sym, ap, subst, ◌∙◌}
use Rattle.shop_base.specs.declared.node.Node.{Node}
use Rattle.shop_base.specs.Plan.{PlannedShop, jobs, release, IsWellShaped}
use Rattle.shop_base.specs.ExactLaw.{IsNeverGoneBefore}
use Rattle.shop_base.specs.Graph.{node, leaving, IsNode, Path, begins, follows}
use Rattle.alt_graph.specs.Bounds.{AreRooted, PathFrom, begins_at, goes_along, bound_of, IsAheadOf, IsChainFrom, whole}
use Rattle.alt_graph.specs.Times.{NodeTimes, earliest_of, before_of, IsAttained, IsAttainedFrom, AreRanks, AreTimes, AreTimesFrom, AreOrdered, AreOrderedFrom, IsPathBy, IsPathFromBy}
use Rattle.std.specs.Prelude.{◌↔◌, Result, Ok, Err, IfOk, IfSome}
use Rattle.alt_graph.specs.Solved.{OnOrdered, OnOrderedFrom, HasCycle}
use Rattle.alt_graph.specs.Evidence.{IsCycle, IsChain, EndsIn}
use Rattle.alt_graph.specs.declared.solving.Solved.{Solved}
use Rattle.alt_graph.specs.declared.solving.Solved.TheVariants.{Ordered, Cyclic}
use Rattle.std.specs.declared.alloc.AllocError.{AllocError}
use Rattle.alt_graph.proofs.NodeNumbers.{node_same}
use Rattle.alt_graph.proofs.Paths.{first_path, chain_no_faster}

-- the times of a whole plan have ranks
pub times_ranks : (p : PlannedShop) (t : NodeTimes) → AreTimes p t → AreRanks p t
times_ranks p t are = record { shaped = are.schedule.shaped; nodes = are.nodes; rise = are.schedule.ranks; few = are.few; apart = are.apart }

abbrev bound_at : ℕ → ℕ → Option ℕ
bound_at r zero = Some r
bound_at r (suc k) = None

bound_some : (r k n : ℕ) → bound_at r k ≡ Some n → (k ≡ 0) × (n ≡ r)
bound_some r zero n is = (refl, cc)
bound_some r (suc k) n is = absurd cc

bound_first : (r k n : ℕ) → k ≡ 0 → n ≡ r → bound_at r k ≡ Some n
bound_first r zero n first is = ap (λ m. Some m) (sym is)
bound_first r (suc k) n first is = absurd (omega arith)

bound_none : (r k : ℕ) → bound_at r k ≡ None → (l : ℕ) × (k ≡ l + 1)
bound_none r zero is = absurd cc
bound_none r (suc k) is = (k, omega arith)

-- a job's places in the table
table_at : (releases : List ℕ) (j k : ℕ) → j < length releases → get_or (get_or (map (λ r. Some r ∷ []) releases) j []) k None ≡ bound_at (get_or releases j 0) k
table_at [] j k lt = absurd (omega arith)
table_at (r ∷ rs) zero zero lt = refl
table_at (r ∷ rs) zero (suc k) lt = refl
table_at (r ∷ rs) (suc j) k lt = table_at rs j k (omega arith)

table_past : (releases : List ℕ) (j k : ℕ) → (k ≡ 0 → ⊥) → get_or (get_or (map (λ r. Some r ∷ []) releases) j []) k None ≡ None
table_past [] j k later = refl
table_past (r ∷ rs) zero zero later = absurd (later refl)
table_past (r ∷ rs) zero (suc k) later = refl
table_past (r ∷ rs) (suc j) k later = table_past rs j k later

pub table_later : (p : PlannedShop) (v : Node) → (v.place ≡ 0 → ⊥) → bound_of (whole p) v ≡ None
table_later p v later = table_past p.plan.release v.job v.place later

pub table_first : (p : PlannedShop) → IsWellShaped p → (v : Node) → IsNode p v → v.place ≡ 0 → bound_of (whole p) v ≡ Some (release p v.job)
table_first p shaped v is first = table_at p.plan.release v.job v.place (omega (arith, is.job, shaped.counts.releases)) ∙ bound_first (release p v.job) v.place (release p v.job) first refl

module _ (p : PlannedShop) (shaped : IsWellShaped p) where
  release_bound : (v : Node) → IsNode p v → bound_of (whole p) v ≡ bound_at (release p v.job) v.place
  release_bound v is = table_at p.plan.release v.job v.place (omega (arith, is.job, shaped.counts.releases))

  pub whole_ahead : (v : Node) → IsAheadOf (whole p) v
  whole_ahead v = omega arith

  whole_first : (v : Node) → IsNode p v → v.place ≡ 0 → bound_of (whole p) v ≡ Some (release p v.job)
  whole_first = table_first p shaped

  -- they are rooted
  pub whole_rooted : AreRooted p (whole p)
  whole_rooted v is free = (let (l, above) = bound_none (release p v.job) v.place (sym (release_bound v is) ∙ free) in (l, above, whole_ahead (node v.job l)))

  first_node : (j : ℕ) → j < jobs p → IsNode p (node j 0)
  first_node j inside = record { job = inside; place = omega arith }

  -- a path of the plan is one from its bounds
  from_path : (nodes : List Node) (v : Node) (n : ℕ) → Path p nodes v n → PathFrom p (whole p) nodes v n
  from_path _ _ _ (begins j inside) = begins_at (node j 0) (release p j) (first_node j inside) (whole_first (node j 0) (first_node j inside) refl)
  from_path _ _ _ (follows nodes u v n d path arc) = goes_along nodes u v n d (from_path nodes u n path) (whole_ahead u) arc

  to_path : (nodes : List Node) (v : Node) (n : ℕ) → PathFrom p (whole p) nodes v n → Path p nodes v n
  to_path _ _ _ (begins_at v n is recorded) =
      let (first, at) = bound_some (release p v.job) v.place n (sym (release_bound v is) ∙ recorded) in
      subst (λ m. Path p (v ∷ []) v m) (sym at) (first_path p v first is.job)
  to_path _ _ _ (goes_along nodes u v n d path ahead arc) = follows nodes u v n d (to_path nodes u n path) arc

  -- and so are its times
  attained_from : (t : NodeTimes) (v : Node) → IsNode p v → (n : ℕ) (o : Option Node) → IsAttained p t v n o → IsAttainedFrom p (whole p) t v n o
  attained_from t v is n None (first, at) = release_bound v is ∙ bound_first (release p v.job) v.place n first at
  attained_from t v is n (Some u) (d, arc, at) = (d, arc, at, whole_ahead u)

  attained_to : (t : NodeTimes) (v : Node) → IsNode p v → (n : ℕ) (o : Option Node) → IsAttainedFrom p (whole p) t v n o → IsAttained p t v n o
  attained_to t v is n None recorded = bound_some (release p v.job) v.place n (sym (release_bound v is) ∙ recorded)
  attained_to t v is n (Some u) (d, arc, at, ahead) = (d, arc, at)

  times_from : (t : NodeTimes) → AreTimes p t → AreTimesFrom p (whole p) t
  times_from t are = record {
    ranks = times_ranks p t are;
    moments = record {
      bounds = λ v n is recorded. (
          let (first, at) = bound_some (release p v.job) v.place n (sym (release_bound v is) ∙ recorded) in
          let same : node v.job 0 ≡ v = node_same (node v.job 0) v refl (sym first) in
          omega (arith, at, ap (earliest_of t) same, are.schedule.moments.releases v.job is.job));
      arcs = λ u v d ahead arc. are.schedule.moments.arcs u v d arc;
    };
    attained = λ v is. attained_from t v is (earliest_of t v) (before_of t v) (are.attained v is);
  }

  times_to : (t : NodeTimes) → AreTimesFrom p (whole p) t → AreTimes p t
  times_to t are = record {
    nodes = are.ranks.nodes;
    schedule = record {
      shaped = are.ranks.shaped;
      ranks = are.ranks.rise;
      moments = record {
        releases = λ j inside. are.moments.bounds (node j 0) (release p j) (first_node j inside) (whole_first (node j 0) (first_node j inside) refl);
        arcs = λ u v d arc. are.moments.arcs u v d (whole_ahead u) arc;
      };
    };
    few = are.ranks.few;
    apart = are.ranks.apart;
    attained = λ v is. attained_to t v is (earliest_of t v) (before_of t v) (are.attained v is);
  }

  pub ordered_to : (t : NodeTimes) → AreOrderedFrom p (whole p) t → AreOrdered p t
  ordered_to t ordered = record {
    times = times_to t ordered.times;
    lengths = record {
      reached = λ v is. (let (nodes, path) = ordered.lengths.reached v is in (nodes, to_path nodes v (earliest_of t v) path));
      greatest = λ nodes v n path. ordered.lengths.greatest nodes v n (from_path nodes v n path);
    };
  }

  -- so are chains
  chain_to : (nodes : List Node) (n : ℕ) → IsChainFrom p (whole p) nodes n → IsChain p nodes n
  chain_to nodes n chain = record {
    few = chain.few;
    path = (chain.path.0, to_path nodes chain.path.0 n chain.path.1);
    greatest = λ v m path. chain.greatest v m (from_path nodes v m path);
  }

  chain_from : (nodes : List Node) (n : ℕ) → IsChain p nodes n → IsChainFrom p (whole p) nodes n
  chain_from nodes n chain = record {
    few = chain.few;
    path = (chain.path.0, from_path nodes chain.path.0 n chain.path.1);
    greatest = λ v m path. chain.greatest v m (to_path nodes v m path);
  }

  module _ (nodes : List Node) (answer : Option ℕ) (exact : (n : ℕ) → (answer ≡ Some n) ↔ IsChainFrom p (whole p) nodes n) where
    pub exact_chain : (n : ℕ) → (answer ≡ Some n) ↔ IsChain p nodes n
    exact_chain n = (λ some. chain_to nodes n ((exact n).0 some), λ chain. (exact n).1 (chain_from nodes n chain))

    pub answer_no_faster : IfSome answer (λ n. (j : ℕ) → EndsIn nodes (leaving p j) → IsNeverGoneBefore p j n)
    answer_no_faster = go answer refl
      where
        go : (o : Option ℕ) → answer ≡ o → IfSome o (λ n. (j : ℕ) → EndsIn nodes (leaving p j) → IsNeverGoneBefore p j n)
        go None is = tt
        go (Some n) is = (let chain = (exact n).0 is in chain_no_faster p nodes chain.path.0 n shaped (to_path nodes chain.path.0 n chain.path.1))

-- a path of any shop and bounds is one of the shop of these times
pub path_by : (t : NodeTimes) (v : Node) (nodes : List Node) → IsPathFromBy t v nodes → IsPathBy t v nodes
path_by t v nodes on p are = to_path p are.schedule.shaped nodes v (earliest_of t v) (on p (whole p) (times_from p are.schedule.shaped t are))

pub solved_to : (p : PlannedShop) → IsWellShaped p → (solved : Result Solved AllocError) → IfOk solved (OnOrderedFrom p (whole p)) → IfOk solved (OnOrdered p)
solved_to p shaped (Ok (Ordered times)) ordered = ordered_to p shaped times ordered
solved_to p shaped (Ok (Cyclic nodes)) ordered = tt
solved_to p shaped (Err e) ordered = tt

-- a cycle that is recorded is one
pub cycle_has : (p : PlannedShop) (nodes : List Node) → IsCycle p nodes → HasCycle p
cycle_has p [] cycle = absurd cycle
cycle_has p (u ∷ us) (simple, inside, least) = (u ∷ us, simple)
