-- The arcs of routes, those behind jobs that leave machines, and one of each pair of a machine, are kept by all moments that are looked for.
use Rattle.std.proofs.Common.{◌≡◌, ℕ, ◌+◌, ◌-◌, ◌*◌, ◌<◌, ◌⊎◌, inl, inr, List, [], ◌∷◌, ◌++◌, length, slice_index_or, arith, refl, sym, ap, subst}
use Rattle.shop_base.specs.declared.node.Node.{Node}
use Rattle.shop_base.specs.Plan.{clean_in}
use Rattle.shop_base.specs.Cell.{Cell}
use Rattle.shop_base.specs.Graph.{node}
use Rattle.alt_graph.specs.Places.{node_at}
use Rattle.alt_graph.proofs.NodeNumbers.{node_same}
use Rattle.arc_choice.specs.declared.question.Arc.{Arc}
use Rattle.arc_choice.specs.declared.question.Pair.{Pair}
use Rattle.arc_choice.specs.Choices.{Keeps, KeepsOne, IsArc, no_arc}
use Rattle.plan_bounds.specs.Bounds.{ShopTimes, IsVisit}
use Rattle.plan_limits.specs.declared.moments.TheConstants.{FINE}
use Rattle.plan_limits.specs.Stages.{Stage}
use Rattle.plan_limits.specs.LimitsLaw.{LeavesBefore, AreFineMoments}
use Rattle.plan_limits.specs.Asked.{by_number, pair_between, AreNumbered, IsFollowed, IsRouteArc, IsHolderArc, IsAgainArc, IsFixedArc, AreFixedArcs, IsMachinePair}
use Rattle.plan_limits.proofs.Numbered.{pushed, followed_by, followed_on}

-- an arc that the moments keep
pub record IsKeptArc (s : Stage) (nodes : List Node) (arc : Arc) : Type 0 where
  pub sound : IsArc (length nodes) arc
  pub keeps : (w : Node → ℕ) → AreFineMoments s w → Keeps (by_number nodes w) arc

-- a pair of which they keep one
pub record IsKeptPair (s : Stage) (nodes : List Node) (pair : Pair) : Type 0 where
  pub one : IsArc (length nodes) pair.one
  pub other : IsArc (length nodes) pair.other
  pub keeps : (w : Node → ℕ) → AreFineMoments s w → KeepsOne (by_number nodes w) pair

-- the arcs of routes
pub route_arc : (s : Stage) (nodes : List Node) (arc : Arc) → AreNumbered s.times s.cell nodes → IsRouteArc s.times nodes arc → IsKeptArc s nodes arc
route_arc s nodes arc are a = subst (IsKeptArc s nodes) (sym a.is) (record {
  sound = record { from = a.inside; to = next.within; long = omega arith };
  keeps = λ w fine. omega (arith, fine.routes (node_at nodes a.number).job (node_at nodes a.number).place (are.inside a.number a.inside).ahead a.place, ap w next.next);
})
  where
    next : IsFollowed nodes a.number
    next = followed_by s.times s.cell nodes a.number are a.inside a.place

-- those behind a job that is on a machine
pub holder_arc : (s : Stage) (nodes : List Node) (arc : Arc) → AreNumbered s.times s.cell nodes → IsHolderArc s.times s.cell nodes arc → IsKeptArc s nodes arc
holder_arc s nodes arc are a = subst (IsKeptArc s nodes) (sym a.is) (record {
  sound = record { from = a.inside.0; to = a.inside.1; long = omega arith };
  keeps = λ w fine. (
      let i : ℕ = (node_at nodes a.leaves).job in
      let v : Node = node_at nodes a.enters in
      let there : node_at nodes a.leaves ≡ node i (a.held.place + 1) = node_same (node_at nodes a.leaves) (node i (a.held.place + 1)) refl a.held.is in
      omega (
        arith,
        fine.holders a.machine i a.held.place v.job v.place a.held.visit a.visit (omega (arith, a.held.next, a.held.is)) (are.inside a.enters a.inside.1).ahead,
        ap w there,
      ));
})

-- and those to where a job enters a machine again
pub again_arc : (s : Stage) (nodes : List Node) (arc : Arc) → AreNumbered s.times s.cell nodes → IsAgainArc s.times nodes arc → IsKeptArc s nodes arc
again_arc s nodes arc are a = subst (IsKeptArc s nodes) (sym a.is) (record {
  sound = record { from = next.within; to = there.0; long = omega arith };
  keeps = λ w fine. omega (
    arith,
    fine.again a.machine v.job v.place a.place a.next.behind a.visit a.next.visit (are.inside a.number a.inside).ahead,
    ap w next.next,
    ap w there.1,
    ap (λ (l : ℕ). w (node v.job l)) at,
  );
})
  where
    v : Node
    v = node_at nodes a.number

    at : v.place + (a.place - v.place) ≡ a.place
    at = omega (arith, a.next.behind)

    next : IsFollowed nodes a.number
    next = followed_by s.times s.cell nodes a.number are a.inside a.visit.within

    there : (a.number + (a.place - v.place) < length nodes) × (node_at nodes (a.number + (a.place - v.place)) ≡ node v.job (v.place + (a.place - v.place)))
    there = followed_on s.times s.cell nodes a.number (a.place - v.place) are a.inside (omega (arith, at, a.next.visit.within))

-- so all that are decided
pub fixed_arc : (s : Stage) (nodes : List Node) (arcs : List Arc) (n : ℕ) → AreNumbered s.times s.cell nodes → AreFixedArcs s.times s.cell nodes arcs → n < length arcs → IsKeptArc s nodes (slice_index_or arcs n no_arc)
fixed_arc s nodes arcs n are fixed within = elim (fixed n within) [
  | inl route ↦ route_arc s nodes (slice_index_or arcs n no_arc) are route
  | inr (inl holder) ↦ holder_arc s nodes (slice_index_or arcs n no_arc) are holder
  | inr (inr again) ↦ again_arc s nodes (slice_index_or arcs n no_arc) are again
]

-- one of the two arcs between two entries of a machine, of two jobs
pub machine_pair : (s : Stage) (nodes : List Node) (pair : Pair) → AreNumbered s.times s.cell nodes → IsMachinePair s.times nodes pair → IsKeptPair s nodes pair
machine_pair s nodes pair are a = subst (IsKeptPair s nodes) (sym a.is) (record {
  one = record { from = (next e a.earlier.inside a.earlier.visit).within; to = a.later.inside; long = omega arith };
  other = record { from = (next n a.later.inside a.later.visit).within; to = a.earlier.inside; long = omega arith };
  keeps = λ w fine. go w (fine.machines a.machine u.job u.place v.job v.place a.apart a.earlier.visit a.later.visit (are.inside e a.earlier.inside).ahead (are.inside n a.later.inside).ahead);
})
  where
    e : ℕ
    e = a.one

    n : ℕ
    n = a.other

    u : Node
    u = node_at nodes e

    v : Node
    v = node_at nodes n

    next : (x : ℕ) → x < length nodes → IsVisit s.times a.machine (node_at nodes x).job (node_at nodes x).place → IsFollowed nodes x
    next x inside visit = followed_by s.times s.cell nodes x are inside visit.within

    go : (w : Node → ℕ) → LeavesBefore s w a.machine u.job u.place v.job v.place ⊎ LeavesBefore s w a.machine v.job v.place u.job u.place
        → KeepsOne (by_number nodes w) (pair_between e n (clean_in s.times.clean a.machine * FINE + 1))
    go w (inl before) = inl (omega (arith, before, ap w (next e a.earlier.inside a.earlier.visit).next))
    go w (inr after) = inr (omega (arith, after, ap w (next n a.later.inside a.later.visit).next))

-- one more arc that is decided
pub fixed_push : (t : ShopTimes) (c : Cell) (nodes : List Node) (arcs more : List Arc) (arc : Arc) → more ≡ arcs ++ arc ∷ [] → AreFixedArcs t c nodes arcs → IsFixedArc t c nodes arc → AreFixedArcs t c nodes more
fixed_push t c nodes arcs more arc is before here = subst (AreFixedArcs t c nodes) (sym is) (pushed (λ n a. IsFixedArc t c nodes a) arcs arc no_arc before here)
