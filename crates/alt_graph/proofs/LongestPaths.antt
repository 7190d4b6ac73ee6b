-- The longest path to a node, from its bound and over the arcs to it.
use Rattle.std.proofs.Common.{◌≡◌, ℕ, ◌+◌, ◌-◌, ◌≤◌, Option, None, Some, arith, refl, sym, ap, subst, ◌∙◌, ◌⊎◌, inl, inr}
use Rattle.std.proofs.lemmas.Bool.{cases_eq}
use Rattle.shop_base.specs.declared.node.Node.{Node}
use Rattle.shop_base.specs.Plan.{nominal, IsWellShaped}
use Rattle.shop_base.specs.Graph.{node, IsNode, Arc}
use Rattle.alt_graph.specs.declared.times.TheConstants.{UNRANKED}
use Rattle.alt_graph.specs.declared.sources.ArcIn.{ArcIn}
use Rattle.alt_graph.specs.declared.ranking.Longest.{Longest}
use Rattle.alt_graph.specs.Bounds.{AreRooted, IsAheadOf, bound_of}
use Rattle.alt_graph.specs.Sources.{IsJobArc, IsBlockingArc}
use Rattle.alt_graph.specs.Times.{rank_of, earliest_of, IsAttainedFrom}
use Rattle.alt_graph.specs.Ranking.{PlanRanking, IsRanked, WaitsFor, IsLongest, IsFromBound, IsOver, IsWith}
use Rattle.alt_graph.proofs.NodeNumbers.{node_same}
use Rattle.alt_graph.proofs.ArcKinds.{arc_kind, job_arc_is, blocking_arc_is, job_source_once, blocking_source_once}

-- one moment is recorded
some_same : (n m : ℕ) (o : Option ℕ) → o ≡ Some n → o ≡ Some m → m ≡ n
some_same n m o one other = let same : Some m ≡ Some n = sym other ∙ one in cc

some_or_none : (n : ℕ) (o : Option ℕ) → o ≡ None → o ≡ Some n → ⊥
some_or_none n o none some = let same : None ≡ Some n = sym none ∙ some in cc

module _ (r : PlanRanking) (shaped : IsWellShaped r.plan) (rooted : AreRooted r.plan r.bounds) (v : Node) (is : IsNode r.plan v) where
  -- only a job's first place has no job arc in
  first_place : ((u : Node) (d : ℕ) → IsJobArc r.plan u v d → ⊥) → v.place ≡ 0
  first_place none = elim (cases_eq v.place 0) [
    | inl same ↦ same
    | inr other ↦ absurd (none (node v.job (v.place - 1)) (nominal r.plan v.job (v.place - 1))
        (record { job = refl; place = omega arith; within = omega (arith, is.place); length = refl }))
  ]

  -- it has a bound
  pub has_bound : ((u : Node) (d : ℕ) → IsJobArc r.plan u v d → ⊥) → bound_of r.bounds v ≡ None → ⊥
  has_bound none free = let (k, above, ahead) = rooted v is free in omega (arith, first_place none, above)

  -- a node without a bound has a job arc in from a node ahead
  ahead_before : (s : ArcIn) → IsJobArc r.plan s.node v s.length → bound_of r.bounds v ≡ None → IsAheadOf r.bounds s.node
  ahead_before s arc free =
      let (k, above, ahead) = rooted v is free in
      let same : node v.job k ≡ s.node = node_same (node v.job k) s.node (sym arc.job) (omega (arith, arc.place)) in
      subst (IsAheadOf r.bounds) same ahead

  at_bound : (longest : Longest) → IsFromBound r v longest → IsAttainedFrom r.plan r.bounds r.times v longest.length longest.before
  at_bound longest base = subst (λ (o : Option Node). IsAttainedFrom r.plan r.bounds r.times v longest.length o) (sym base.before) base.recorded

  -- the bound alone
  pub longest_bound : (longest : Longest) → ((u : Node) (d : ℕ) → IsJobArc r.plan u v d → ⊥) → IsFromBound r v longest → IsLongest r (IsJobArc r.plan) v longest
  longest_bound longest none base = record {
    ranked = λ u d arc. absurd (none u d arc);
    fits = λ u d arc. absurd (none u d arc);
    bound = λ n recorded. omega (arith, some_same longest.length n (bound_of r.bounds v) base.recorded recorded);
    attained = at_bound longest base;
    bounded = omega (arith, base.limited);
  }

  -- the longest path over one arc is over the node that it comes from
  over_last : (s : ArcIn) (longest : Longest) → Arc r.plan s.node v s.length → IsAheadOf r.bounds s.node → IsOver r s longest
      → IsAttainedFrom r.plan r.bounds r.times v longest.length longest.before
  over_last s longest arc ahead over =
      subst (λ (o : Option Node). IsAttainedFrom r.plan r.bounds r.times v longest.length o) (sym over.before) (s.length, arc, sym over.length, ahead)

  -- over the job arc, where there is no bound
  pub longest_along : (s : ArcIn) (longest : Longest) → IsJobArc r.plan s.node v s.length → bound_of r.bounds v ≡ None → IsOver r s longest → IsLongest r (IsJobArc r.plan) v longest
  longest_along s longest arc free over = record {
    ranked = λ u d other. (let once = job_source_once r.plan shaped u s.node v d s.length other arc in subst (IsRanked r.times) (sym once.0) over.ranked);
    fits = λ u d other ahead. (let once = job_source_once r.plan shaped u s.node v d s.length other arc in omega (arith, ap (earliest_of r.times) once.0, once.1, over.length));
    bound = λ n recorded. absurd (some_or_none n (bound_of r.bounds v) free recorded);
    attained = over_last s longest (job_arc_is r.plan s.node v s.length arc) (ahead_before s arc free) over;
    bounded = over.bounded;
  }

  -- a node waits for the source of an arc to it that has no rank
  pub waits_for : (s : ArcIn) → Arc r.plan s.node v s.length → rank_of r.times s.node ≡ UNRANKED → WaitsFor r UNRANKED v
  waits_for s arc free = (s.node, s.length, arc, omega arith)

  -- without a blocking arc
  pub longest_alone : (longest : Longest) → IsLongest r (IsJobArc r.plan) v longest → ((u : Node) (d : ℕ) → IsBlockingArc r.plan u v d → ⊥) → IsLongest r (Arc r.plan) v longest
  longest_alone longest along none = record {
    ranked = λ u d arc. along.ranked u d (only u d (arc_kind r.plan u v d arc));
    fits = λ u d arc. along.fits u d (only u d (arc_kind r.plan u v d arc));
    bound = along.bound;
    attained = along.attained;
    bounded = along.bounded;
  }
    where
      only : (u : Node) (d : ℕ) → IsJobArc r.plan u v d ⊎ IsBlockingArc r.plan u v d → IsJobArc r.plan u v d
      only u d (inl arc) = arc
      only u d (inr arc) = absurd (none u d arc)

  -- one arc besides
  module _ (base : Longest) (s : ArcIn) (longest : Longest) (arc : Arc r.plan s.node v s.length) (both : IsWith r base s longest) where
    with_attained : IsAttainedFrom r.plan r.bounds r.times v base.length base.before → IsAttainedFrom r.plan r.bounds r.times v longest.length longest.before
    with_attained attained = elim both.is [
      | inl same ↦ subst (λ (l : Longest). IsAttainedFrom r.plan r.bounds r.times v l.length l.before) (sym same) attained
      | inr over ↦ over_last s longest arc over.0 over.1
    ]

    with_fits : (u : Node) (d : ℕ) → (u ≡ s.node) × (d ≡ s.length) → IsAheadOf r.bounds u → earliest_of r.times u + d ≤ longest.length
    with_fits u d once ahead = omega (arith, ap (earliest_of r.times) once.0, once.1, both.fits (subst (IsAheadOf r.bounds) once.0 ahead))

  -- over the job arc besides the bound
  pub longest_both : (base : Longest) (s : ArcIn) (longest : Longest) → IsJobArc r.plan s.node v s.length → IsFromBound r v base → IsWith r base s longest → IsLongest r (IsJobArc r.plan) v longest
  longest_both base s longest arc at_base both =
      let as_arc = job_arc_is r.plan s.node v s.length arc in
      record {
        ranked = λ u d other. (let once = job_source_once r.plan shaped u s.node v d s.length other arc in subst (IsRanked r.times) (sym once.0) both.ranked);
        fits = λ u d other ahead. with_fits base s longest as_arc both u d (job_source_once r.plan shaped u s.node v d s.length other arc) ahead;
        bound = λ n other. omega (arith, some_same base.length n (bound_of r.bounds v) at_base.recorded other, both.longer);
        attained = with_attained base s longest as_arc both (at_bound base at_base);
        bounded = elim both.is [
          | inl same ↦ omega (arith, at_base.limited, ap (λ (l : Longest). l.length) same)
          | inr over ↦ over.1.bounded
        ];
      }

  -- over the blocking arc besides
  pub longest_freed : (along : Longest) (s : ArcIn) (longest : Longest) → IsLongest r (IsJobArc r.plan) v along → IsBlockingArc r.plan s.node v s.length → IsWith r along s longest → IsLongest r (Arc r.plan) v longest
  longest_freed along s longest is_along arc both =
      let as_arc = blocking_arc_is r.plan s.node v s.length arc in
      record {
        ranked = λ u d other. elim (arc_kind r.plan u v d other) [
          | inl job ↦ is_along.ranked u d job
          | inr blocking ↦ (let once = blocking_source_once r.plan shaped u s.node v d s.length blocking arc in subst (IsRanked r.times) (sym once.0) both.ranked)
        ];
        fits = λ u d other ahead. elim (arc_kind r.plan u v d other) [
          | inl job ↦ omega (arith, is_along.fits u d job ahead, both.longer)
          | inr blocking ↦ with_fits along s longest as_arc both u d (blocking_source_once r.plan shaped u s.node v d s.length blocking arc) ahead
        ];
        bound = λ n recorded. omega (arith, is_along.bound n recorded, both.longer);
        attained = with_attained along s longest as_arc both is_along.attained;
        bounded = elim both.is [
          | inl same ↦ omega (arith, is_along.bounded, ap (λ (l : Longest). l.length) same)
          | inr over ↦ over.1.bounded
        ];
      }
