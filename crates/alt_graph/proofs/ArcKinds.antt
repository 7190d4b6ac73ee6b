-- The two kinds of arcs, that each node has at most one arc in and one arc out of each kind, and the longest of the arcs between two nodes.
use Rattle.std.proofs.Common.{◌≡◌, ℕ, ◌+◌, ◌<◌, ◌≤◌, arith, refl, sym, ap, ◌∙◌, subst, ◌⊎◌, inl, inr, ⊎_elim, Option, None, Some, IfSome, MatchOption}
use Rattle.shop_base.specs.declared.node.Node.{Node}
use Rattle.shop_base.specs.declared.limits.TheConstants.{MAX_NOMINAL}
use Rattle.shop_base.specs.Plan.{PlannedShop, steps, nominal, clean, Stands, IsWellShaped}
use Rattle.shop_base.specs.Graph.{node, IsNode, Arc, job_arc, blocking_arc, HasArc}
use Rattle.shop_base.proofs.Visits.{steps_job, visits_job, visits_machine, stands_once}
use Rattle.shop_base.proofs.Places.{same_stand}
use Rattle.alt_graph.specs.Sources.{IsJobArc, IsBlockingArc, IsLongestArc}
use Rattle.alt_graph.proofs.NodeNumbers.{node_same}

-- each arc is of one of the two kinds
pub arc_kind : (p : PlannedShop) (u v : Node) (d : ℕ) → Arc p u v d → IsJobArc p u v d ⊎ IsBlockingArc p u v d
arc_kind p u v d (job_arc j k within) = inl (record { job = refl; place = refl; within = within; length = refl })
arc_kind p u v d (blocking_arc m a i k j l one other) = inr (record { machine = m; ahead = a; step = k; left = one; enters = other; place = refl; length = refl })

module _ (p : PlannedShop) (u v : Node) (d : ℕ) where
  -- a job arc is one
  pub job_arc_is : IsJobArc p u v d → Arc p u v d
  job_arc_is is =
      let there : node u.job (u.place + 1) ≡ v = node_same (node u.job (u.place + 1)) v is.job (sym is.place) in
      subst (λ (w : Node). Arc p u w d) there (subst (λ (n : ℕ). Arc p u (node u.job (u.place + 1)) n) (sym is.length) (job_arc u.job u.place is.within))

  -- a blocking arc is one
  pub blocking_arc_is : IsBlockingArc p u v d → Arc p u v d
  blocking_arc_is is =
      let here : node u.job (is.step + 1) ≡ u = node_same (node u.job (is.step + 1)) u refl (sym is.place) in
      subst (λ (w : Node). Arc p w v d) here (subst (λ (n : ℕ). Arc p (node u.job (is.step + 1)) v n) (sym is.length)
      (blocking_arc is.machine is.ahead u.job is.step v.job v.place is.left is.enters))

  -- an arc leads to a node of the shop
  pub target_node : Arc p u v d → IsNode p v
  target_node arc = go (arc_kind p u v d arc)
    where
      go : IsJobArc p u v d ⊎ IsBlockingArc p u v d → IsNode p v
      go (inl is) =
          let within : u.place < steps p v.job = subst (λ (j : ℕ). u.place < steps p j) is.job is.within in
          record { job = steps_job p v.job u.place within; place = omega (arith, is.place) }
      go (inr is) = record { job = visits_job p v.job v.place is.machine is.enters.visits; place = omega (arith, is.enters.visits.within) }

  -- no arc is longer than the longest nominal time
  pub arc_short : IsWellShaped p → Arc p u v d → d ≤ MAX_NOMINAL
  arc_short shaped arc = go (arc_kind p u v d arc)
    where
      go : IsJobArc p u v d ⊎ IsBlockingArc p u v d → d ≤ MAX_NOMINAL
      go (inl is) = omega (arith, is.length, ((shaped.shop.routes u.job (steps_job p u.job u.place is.within)).steps u.place is.within).nominal)
      go (inr is) = omega (arith, is.length, shaped.limits.cleanings is.machine (visits_machine p u.job is.step is.machine shaped is.left.visits))

module _ (p : PlannedShop) (shaped : IsWellShaped p) where
  -- one job arc leads to a node
  pub job_source_once : (u w v : Node) (d e : ℕ) → IsJobArc p u v d → IsJobArc p w v e → (u ≡ w) × (d ≡ e)
  job_source_once u w v d e one other =
      let same : u ≡ w = node_same u w (one.job ∙ sym other.job) (omega (arith, one.place, other.place)) in
      (same, one.length ∙ ap (λ (x : Node). nominal p x.job x.place) same ∙ sym other.length)

  -- one blocking arc leads to a node
  pub blocking_source_once : (u w v : Node) (d e : ℕ) → IsBlockingArc p u v d → IsBlockingArc p w v e → (u ≡ w) × (d ≡ e)
  blocking_source_once u w v d e one other =
      let machines_same : one.machine ≡ other.machine = sym one.enters.visits.here ∙ other.enters.visits.here in
      let enters : Stands p one.machine (other.ahead + 1) v.job v.place = subst (λ (m : ℕ). Stands p m (other.ahead + 1) v.job v.place) (sym machines_same) other.enters in
      let after : one.ahead + 1 ≡ other.ahead + 1 = stands_once p one.machine (one.ahead + 1) (other.ahead + 1) v.job v.place one.enters enters in
      let ahead : one.ahead ≡ other.ahead = omega arith in
      let left : Stands p one.machine other.ahead w.job other.step = subst (λ (m : ℕ). Stands p m other.ahead w.job other.step) (sym machines_same) other.left in
      let both = same_stand p one.machine one.ahead other.ahead u.job one.step w.job other.step shaped ahead one.left left in
      (node_same u w both.0 (omega (arith, one.place, other.place, both.1)), one.length ∙ ap (clean p) machines_same ∙ sym other.length)

  -- one job arc leads from a node
  pub job_target_once : (u v w : Node) (d e : ℕ) → IsJobArc p u v d → IsJobArc p u w e → v ≡ w
  job_target_once u v w d e one other = node_same v w (sym one.job ∙ other.job) (one.place ∙ sym other.place)

  -- one blocking arc leads from a node
  pub blocking_target_once : (u v w : Node) (d e : ℕ) → IsBlockingArc p u v d → IsBlockingArc p u w e → v ≡ w
  blocking_target_once u v w d e one other =
      let steps_same : one.step ≡ other.step = omega (arith, one.place, other.place) in
      let left : Stands p other.machine other.ahead u.job one.step = subst (λ (k : ℕ). Stands p other.machine other.ahead u.job k) (sym steps_same) other.left in
      let machines_same : one.machine ≡ other.machine = sym one.left.visits.here ∙ left.visits.here in
      let here : Stands p one.machine other.ahead u.job one.step = subst (λ (m : ℕ). Stands p m other.ahead u.job one.step) (sym machines_same) left in
      let ahead : one.ahead ≡ other.ahead = stands_once p one.machine one.ahead other.ahead u.job one.step one.left here in
      let after : one.ahead + 1 ≡ other.ahead + 1 = omega arith in
      let enters : Stands p one.machine (other.ahead + 1) w.job w.place = subst (λ (m : ℕ). Stands p m (other.ahead + 1) w.job w.place) (sym machines_same) other.enters in
      let both = same_stand p one.machine (one.ahead + 1) (other.ahead + 1) v.job v.place w.job w.place shaped after one.enters enters in
      node_same v w both.0 both.1

  module _ (u v : Node) where
    -- without a job arc, the longest arc is the blocking one
    pub longest_blocking : (found : Option ℕ) → ((d : ℕ) → IsJobArc p u v d → ⊥)
        → MatchOption found ((d : ℕ) → IsBlockingArc p u v d → ⊥) (IsBlockingArc p u v) → MatchOption found (HasArc p u v → ⊥) (IsLongestArc p u v)
    longest_blocking None none free = λ (d, arc). ⊎_elim (none d) (free d) (arc_kind p u v d arc)
    longest_blocking (Some d) none blocked = record {
      arc = blocking_arc_is p u v d blocked;
      longest = λ e other. ⊎_elim (λ along. absurd (none e along)) (λ again. omega (arith, (blocking_source_once u u v d e blocked again).1)) (arc_kind p u v e other);
    }

    -- with one, it is the longer of the two
    pub longest_of_both : (d n : ℕ) (found : Option ℕ) → IsJobArc p u v d → MatchOption found ((e : ℕ) → IsBlockingArc p u v e → ⊥) (IsBlockingArc p u v)
        → d ≤ n → IfSome found (λ e. e ≤ n) → (n ≡ d) ⊎ (found ≡ Some n) → IsLongestArc p u v n
    longest_of_both d n found along blocking first second is = record { arc = one is; longest = λ e other. fits e found blocking second (arc_kind p u v e other) }
      where
        one : (n ≡ d) ⊎ (found ≡ Some n) → Arc p u v n
        one (inl same) = job_arc_is p u v n (subst (IsJobArc p u v) (sym same) along)
        one (inr same) = blocking_arc_is p u v n (rw same at blocking)

        fits : (e : ℕ) (found : Option ℕ) → MatchOption found ((e : ℕ) → IsBlockingArc p u v e → ⊥) (IsBlockingArc p u v) → IfSome found (λ e. e ≤ n)
            → IsJobArc p u v e ⊎ IsBlockingArc p u v e → e ≤ n
        fits e found blocking second (inl other) = omega (arith, first, (job_source_once u u v d e along other).1)
        fits e None free second (inr other) = absurd (free e other)
        fits e (Some m) blocked second (inr other) = omega (arith, second, (blocking_source_once u u v m e blocked other).1)
