-- The arcs that are left where a job ends: each is one of before, or joins two over the job that is taken out, and is no longer.
use Rattle.std.proofs.Common.{◌≡◌, ℕ, ◌+◌, ◌<◌, ◌≤◌, ◌⊎◌, inl, inr, List, [], ◌∷◌, ◌++◌, length, sym, ap, ◌∙◌, subst, refl, arith}
use Rattle.std.proofs.lemmas.Bool.{cases_eq, cases_order}
use Rattle.shop_base.specs.declared.shop.Step.{Step}
use Rattle.shop_base.specs.declared.node.Node.{Node}
use Rattle.shop_base.specs.Plan.{PlannedShop, jobs, nominal, clean, Stands}
use Rattle.shop_base.specs.Cell.{Cell, since, entries, IsOn}
use Rattle.shop_base.specs.Activity.{Arrival, Operation, Cleaning, GoesOn}
use Rattle.shop_base.specs.Graph.{node, Arc, job_arc, blocking_arc, HasArc, ArcsLead, IsNode}
use Rattle.shop_base.specs.Ahead.{PathAhead, now, held, onward, HoldsUp}
use Rattle.plan_verifier.specs.Accepted.{HasNoCycle}
use Rattle.plan_revise.specs.Ended.{with_job_ended}
use Rattle.plan_revise.specs.Fits.{IsFit}
use Rattle.plan_revise.specs.Paths.{HasLonger}
use Rattle.plan_revise.proofs.EndedParts.{IsRemovedAt, IsLeft, EndsOnce, step_before, steps_few, visits_before, stands_before, stands_front, stands_back, ended_by}
use Rattle.alt_graph.proofs.ClosedWalks.{no_cycle_by_ways}

-- arcs lead from u over two nodes of job j, behind its first n steps, to v, and the first and the last are each as long as the arc that joins them
pub record IsJoined (p : PlannedShop) (j n : ℕ) (u v : Node) (d : ℕ) : Type 0 where
  pub to : Node
  pub from : Node
  pub between : ℕ
  pub first : Arc p u to d
  pub second : Arc p to from between
  pub third : Arc p from v d
  pub mine : to.job ≡ j
  pub behind : n ≤ to.place
  pub mine_too : from.job ≡ j
  pub behind_too : n ≤ from.place

module _ (p : PlannedShop) (j n : ℕ) (q : PlannedShop) (fit : IsFit p) (once : EndsOnce p j n q) where
  arc_of : (u v : Node) (d e : ℕ) → e ≡ d → Arc p u v e → Arc p u v d
  arc_of u v d e same arc = subst (λ x. Arc p u v x) same arc

  blocking : (m a i k l g : ℕ) → Stands q m a i k → Stands q m (a + 1) l g → IsLeft p j n q m ⊎ IsRemovedAt p j n q m
      → Arc p (node i (k + 1)) (node l g) (clean q m) ⊎ IsJoined p j n (node i (k + 1)) (node l g) (clean q m)
  blocking m a i k l g one other (inl left) =
      inl (arc_of (node i (k + 1)) (node l g) (clean q m) (clean p m) (sym (once.ends.cleans m))
      (blocking_arc m a i k l g (stands_before p j n q fit once m a i k one left) (stands_before p j n q fit once m (a + 1) l g other left)))
  blocking m a i k l g one other (inr t) = go (cases_order (a + 1) t.place)
    where
      same : clean p m ≡ clean q m
      same = sym (once.ends.cleans m)

      go : (a + 1 ≡ t.place) ⊎ ((a + 1 < t.place) ⊎ (t.place < a + 1)) → Arc p (node i (k + 1)) (node l g) (clean q m) ⊎ IsJoined p j n (node i (k + 1)) (node l g) (clean q m)
      go (inl at) = inr (record {
        to = node j t.step;
        from = node j (t.step + 1);
        between = nominal p j t.step;
        first = arc_of (node i (k + 1)) (node j t.step) (clean q m) (clean p m) same
            (blocking_arc m a i k j t.step (stands_front p j n q fit once m a i k one t (omega arith)) (subst (λ b. Stands p m b j t.step) (sym at) t.stands));
        second = job_arc j t.step t.stands.visits.within;
        third = arc_of (node j (t.step + 1)) (node l g) (clean q m) (clean p m) same
            (blocking_arc m t.place j t.step l g t.stands (subst (λ b. Stands p m (b + 1) l g) at (stands_back p j n q fit once m (a + 1) l g other t (omega arith))));
        mine = refl;
        behind = t.behind;
        mine_too = refl;
        behind_too = omega (arith, t.behind);
      })
      go (inr (inl less)) =
          inl (arc_of (node i (k + 1)) (node l g) (clean q m) (clean p m) same
          (blocking_arc m a i k l g (stands_front p j n q fit once m a i k one t (omega arith)) (stands_front p j n q fit once m (a + 1) l g other t less)))
      go (inr (inr more)) =
          inl (arc_of (node i (k + 1)) (node l g) (clean q m) (clean p m) same
          (blocking_arc m (a + 1) i k l g (stands_back p j n q fit once m a i k one t (omega arith)) (stands_back p j n q fit once m (a + 1) l g other t (omega arith))))

  -- each arc is one of before, or joins two
  pub once-arc : (u v : Node) (d : ℕ) → Arc q u v d → Arc p u v d ⊎ IsJoined p j n u v d
  once-arc _ _ _ (job_arc i k within) =
      let b = step_before p j n q once.ends i k within in
      inl (arc_of (node i k) (node i (k + 1)) (nominal q i k) (nominal p i k) (sym (ap (λ (s : Step). s.nominal) b.1)) (job_arc i k b.0))
  once-arc _ _ _ (blocking_arc m a i k l g one other) = blocking m a i k l g one other (once.orders m)

  way : (u v : Node) → HasArc q u v → (ws : List Node) × ArcsLead p u ws v
  way u v (d, arc) = elim (once-arc u v d arc) [
    | inl same ↦ ([], (d, same))
    | inr joined ↦ (joined.to ∷ joined.from ∷ [], ((d, joined.first), ((joined.between, joined.second), (d, joined.third))))
  ]

  -- no cycle where there was none
  once-no_cycle : HasNoCycle p → HasNoCycle q
  once-no_cycle acyclic = no_cycle_by_ways p q way acyclic

  -- each path that is left is at most as long as one of before, where no job that is taken out of an order has entered its machine
  module _ (c : Cell) (t : ℕ) (unentered : (m x k : ℕ) → n ≤ k → Stands p m x j k → length (entries c m) ≤ x) where
    on_before : (i k m : ℕ) → IsOn q c i k m → IsOn p c i k m
    on_before i k m on = record { entered = on.entered; visits = visits_before p j n q once.ends i k m on.visits }

    held_by : (m due : ℕ) (v : Node) → GoesOn q c (Cleaning m) due → HoldsUp q c (Cleaning m) v → IsLeft p j n q m ⊎ IsRemovedAt p j n q m → HasLonger p c t v due
    held_by m due v (from, goes) holds cases = go cases
      where
        before : GoesOn p c (Cleaning m) due
        before = (from, record { is_cleaned = goes.is_cleaned; is_due = goes.is_due ∙ ap (λ x. from + x) (once.ends.cleans m) })

        straight : Stands p m (length (entries c m)) v.job v.place → HasLonger p c t v due
        straight stands = record { nodes = v ∷ []; size = due; path = held (Cleaning m) due v before stands; longer = omega arith }

        go : IsLeft p j n q m ⊎ IsRemovedAt p j n q m → HasLonger p c t v due
        go (inl left) = straight (stands_before p j n q fit once m (length (entries c m)) v.job v.place holds left)
        go (inr removed) = elim (cases_eq (length (entries c m)) removed.place) [
          | inr other ↦ straight (stands_front p j n q fit once m (length (entries c m)) v.job v.place holds removed (omega (arith, unentered m removed.place removed.step removed.behind removed.stands, other)))
          | inl at ↦ record {
            nodes = (node j removed.step ∷ [] ++ node j (removed.step + 1) ∷ []) ++ v ∷ [];
            size = due + nominal p j removed.step + clean p m;
            path = onward (node j removed.step ∷ [] ++ node j (removed.step + 1) ∷ []) (node j (removed.step + 1)) v (due + nominal p j removed.step) (clean p m)
                (onward (node j removed.step ∷ []) (node j removed.step) (node j (removed.step + 1)) due (nominal p j removed.step)
                (held (Cleaning m) due (node j removed.step) before (subst (λ b. Stands p m b j removed.step) (sym at) removed.stands))
                (job_arc j removed.step removed.stands.visits.within))
                (blocking_arc m removed.place j removed.step v.job v.place removed.stands
                (subst (λ b. Stands p m (b + 1) v.job v.place) at (stands_back p j n q fit once m (length (entries c m)) v.job v.place holds removed (omega arith))));
            longer = omega arith;
          }
        ]

    pub once-path : (nodes : List Node) (v : Node) (size : ℕ) → PathAhead q c t nodes v size → HasLonger p c t v size
    once-path _ _ _ (now v is ahead) = record {
      nodes = v ∷ [];
      size = t;
      path = now v (before is) ahead;
      longer = omega arith;
    }
      where
        before : IsNode q v → IsNode p v
        before is = record { job = omega (arith, is.job, once.ends.jobs_same); place = omega (arith, is.place, steps_few p j n q once.ends v.job) }
    once-path _ _ _ (held (Arrival i) due v goes holds) = record {
      nodes = v ∷ [];
      size = due;
      path = held (Arrival i) due v (record { outside = goes.outside; not_ready = goes.not_ready; is_due = goes.is_due ∙ once.ends.releases i }) holds;
      longer = omega arith;
    }
    once-path _ _ _ (held (Operation i m) due v (k, goes) holds) = record {
      nodes = v ∷ [];
      size = due;
      path = held (Operation i m) due v (
        k,
        record {
          on = on_before i k m goes.on;
          not_ready = goes.not_ready;
          is_due = goes.is_due ∙ ap (λ x. since c i + x) (ap (λ (s : Step). s.nominal) (step_before p j n q once.ends i k goes.on.visits.within).1);
        },
      ) holds;
      longer = omega arith;
    }
    once-path _ _ _ (held (Cleaning m) due v goes holds) = held_by m due v goes holds (once.orders m)
    once-path _ _ _ (onward nodes u v size d path arc) = go (once-path nodes u size path) (once-arc u v d arc)
      where
        go : HasLonger p c t u size → Arc p u v d ⊎ IsJoined p j n u v d → HasLonger p c t v (size + d)
        go l (inl same) = record { nodes = l.nodes ++ v ∷ []; size = l.size + d; path = onward l.nodes u v l.size d l.path same; longer = omega (arith, l.longer) }
        go l (inr joined) = record {
          nodes = ((l.nodes ++ joined.to ∷ []) ++ joined.from ∷ []) ++ v ∷ [];
          size = l.size + d + joined.between + d;
          path = onward ((l.nodes ++ joined.to ∷ []) ++ joined.from ∷ []) joined.from v (l.size + d + joined.between) d
              (onward (l.nodes ++ joined.to ∷ []) joined.to joined.from (l.size + d) joined.between
              (onward l.nodes u joined.to l.size d l.path joined.first) joined.second) joined.third;
          longer = omega (arith, l.longer);
        }

-- no cycle where there was none, however many steps are lost
pub ended-no_cycle : (p : PlannedShop) (j n : ℕ) → IsFit p → j < jobs p → HasNoCycle p → HasNoCycle (with_job_ended p j n)
ended-no_cycle p j n fit inside acyclic = (ended_by p j fit inside HasNoCycle n acyclic (λ q r k more there fits once holds. once-no_cycle q j k r fits once holds)).1
