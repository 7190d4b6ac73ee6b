-- The first and the last moments of nodes by number.
use Rattle.std.proofs.Common.{◌≡◌, ℕ, zero, suc, ◌+◌, ◌-◌, ◌*◌, ◌≤◌, List, [], ◌∷◌, ◌++◌, length, Option, arith, sym, ap, subst}
use Rattle.shop_base.specs.declared.node.Node.{Node}
use Rattle.shop_base.specs.Shop.{step_at}
use Rattle.shop_base.specs.Cell.{made}
use Rattle.shop_base.specs.Graph.{node}
use Rattle.alt_graph.specs.Places.{node_at}
use Rattle.plan_bounds.specs.Bounds.{route_in}
use Rattle.plan_limits.specs.declared.moments.TheConstants.{FINE}
use Rattle.plan_limits.specs.Stages.{Stage}
use Rattle.plan_limits.specs.LimitsLaw.{AreFineMoments, LeaveWithin}
use Rattle.plan_limits.specs.Asked.{by_number, IsPlace, IsWithinLimit, AreLast}
use Rattle.plan_limits.proofs.Numbered.{pushed}

module _ (s : Stage) where
  -- no place ahead of a job comes after its leaving
  rises : (w : Node → ℕ) (j d k : ℕ) → AreFineMoments s w → made s.cell j ≤ k → k + d ≡ length (route_in s.times j) → w (node j k) ≤ w (node j (length (route_in s.times j)))
  rises w j zero k fine ahead is = let same : k ≡ length (route_in s.times j) = omega (arith, is) in omega (arith, ap (λ (n : ℕ). w (node j n)) same)
  rises w j (suc d) k fine ahead is =
      let on : w (node j k) + ((step_at (route_in s.times j) k).nominal * FINE + 1) ≤ w (node j (k + 1)) = fine.routes j k ahead (omega (arith, is)) in
      omega (arith, on, rises w j d (k + 1) fine (omega (arith, ahead)) (omega (arith, is)))

  -- what no moment within a job's limit is past, no moment of its places is past
  pub last_place : (limits : List (Option ℕ)) (v : Node) (x : ℕ) → IsPlace s.times s.cell v → ((y : ℕ) → IsWithinLimit limits v.job y → y ≤ x)
      → (w : Node → ℕ) → AreFineMoments s w → LeaveWithin s limits w → w v ≤ x
  last_place limits v x is within w fine leave = within (w v) (record {
    small = fine.small v.job v.place is.job is.ahead is.place;
    within = λ n limited. (
        let on = rises w v.job (length (route_in s.times v.job) - v.place) v.place fine is.ahead (omega (arith, is.place)) in
        omega (arith, on, leave v.job n is.job (omega (arith, is.ahead, is.place)) limited));
  })

  module _ (nodes : List Node) where
    -- one more last moment
    pub last_push : (limits : List (Option ℕ)) (last : List ℕ) (n x : ℕ) → length last ≡ n → AreLast s nodes limits last
        → ((w : Node → ℕ) → AreFineMoments s w → LeaveWithin s limits w → w (node_at nodes n) ≤ x) → AreLast s nodes limits (last ++ x ∷ [])
    last_push limits last n x size before here =
        pushed (λ k y. (w : Node → ℕ) → AreFineMoments s w → LeaveWithin s limits w → by_number nodes w k ≤ y) last x 0 before
        (λ w fine leave. subst (λ (k : ℕ). w (node_at nodes k) ≤ x) (sym size) (here w fine leave))
