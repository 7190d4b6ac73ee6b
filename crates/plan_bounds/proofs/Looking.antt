-- What is known of the machines' visits, from step to step and from job to job.
use Rattle.std.proofs.Common.{◌≡◌, ◌≢◌, ℕ, ◌+◌, ◌<◌, ◌≤◌, ◌⊎◌, inl, inr, List, [], length, get_or, set, replicate, None, arith, refl, sym, ap, subst, ◌∙◌, add-one, eq-eqb, ne_eqb, get_or-set_same, get_or-set_other}
use Rattle.std.specs.Prelude.{if◌then◌else◌, ◌==◌}
use Rattle.std.proofs.lemmas.Bool.{cases_eq, cases_lt}
use Rattle.std.proofs.lemmas.List.{get_or_past, get_or-replicate, length-replicate, length-set}
use Rattle.shop_base.specs.declared.limits.TheConstants.{MAX_MACHINES}
use Rattle.shop_base.specs.declared.shop.Step.{Step}
use Rattle.shop_base.specs.Shop.{step_at}
use Rattle.plan_bounds.specs.Bounds.{ShopTimes, IsVisit, job_count, route_in, head, tail, sum_on}
use Rattle.plan_bounds.specs.Seen.{IsSeen, AreSeen, AreAllSeen, AreVisits, AreAllVisits, with_visit}
use Rattle.plan_bounds.specs.declared.visits.Visit.{Visit}
use Rattle.plan_bounds.specs.declared.visits.Visits.{Visits}
use Rattle.plan_bounds.proofs.Steps.{same_visits, one_visit_more}

-- one step more that is on the machine, or isn't
module _ (f : Step → ℕ) (m : ℕ) (route : List Step) (k : ℕ) where
  sum_here : (step_at route k).machine ≡ m → sum_on f m route (k + 1) ≡ sum_on f m route k + f (step_at route k)
  sum_here here =
      let value : (if (step_at route k).machine == m then f (step_at route k) else 0) ≡ f (step_at route k) = rw (eq-eqb (step_at route k).machine m here) refl in
      omega (arith, ap (sum_on f m route) (add-one k), value)

  sum_elsewhere : (step_at route k).machine ≢ m → sum_on f m route (k + 1) ≡ sum_on f m route k
  sum_elsewhere other =
      let value : (if (step_at route k).machine == m then f (step_at route k) else 0) ≡ 0 = rw (ne_eqb (step_at route k).machine m other) refl in
      omega (arith, ap (sum_on f m route) (add-one k), value)

module _ (t : ShopTimes) (n k : ℕ) where
  earlier : (m i l : ℕ) → IsSeen t m n k i l → IsSeen t m n (k + 1) i l
  earlier m i l seen = record { visit = seen.visit; before = go seen.before }
    where
      go : (i < n) ⊎ ((i ≡ n) × (l < k)) → (i < n) ⊎ ((i ≡ n) × (l < k + 1))
      go (inl less) = inl less
      go (inr (same, less)) = inr (same, omega (arith, less))

  -- of those up to step k, this one or an earlier one
  up_to : (m i l : ℕ) → IsSeen t m n (k + 1) i l → IsSeen t m n k i l ⊎ ((i ≡ n) × (l ≡ k))
  up_to m i l seen = go seen.before
    where
      go : (i < n) ⊎ ((i ≡ n) × (l < k + 1)) → IsSeen t m n k i l ⊎ ((i ≡ n) × (l ≡ k))
      go (inl less) = inl (record { visit = seen.visit; before = inl less })
      go (inr (same, less)) = elim (cases_eq l k) [
        | inl at ↦ inr (same, at)
        | inr other ↦ inl (record { visit = seen.visit; before = inr (same, omega (arith, less, other)) })
      ]

  module _ (m : ℕ) (v : Visits) (are : AreSeen t m n k v) where
    -- a visit more
    seen_here : (visit : Visit) → IsVisit t m n k → visit.head ≡ head t n k → visit.tail ≡ tail t n k → visit.nominal ≡ (step_at (route_in t n) k).nominal → visit.nominal ≤ 1000000
        → AreSeen t m n (k + 1) (with_visit v visit)
    seen_here visit visited is_head is_tail is_nominal small = record {
      count = omega (arith, are.count, sum_here (λ (step : Step). 1) m (route_in t n) k visited.here);
      work = omega (arith, are.work, is_nominal, sum_here (λ (step : Step). step.nominal) m (route_in t n) k visited.here);
      least = one_visit_more t (IsSeen t m n k) (IsSeen t m n (k + 1)) (earlier m) n k (record { visit = visited; before = inr (refl, omega arith) }) new (up_to m) visit is_head is_tail v are.least;
      small = (omega (arith, are.small.0), omega (arith, are.small.1, small));
    }
      where
        new : IsSeen t m n k n k → ⊥
        new seen = go seen.before
          where
            go : (n < n) ⊎ ((n ≡ n) × (k < k)) → ⊥
            go (inl less) = omega (arith, less)
            go (inr (same, less)) = omega (arith, less)

    -- a step on another machine
    seen_elsewhere : (step_at (route_in t n) k).machine ≢ m → AreSeen t m n (k + 1) v
    seen_elsewhere other = record {
      count = omega (arith, are.count, sum_elsewhere (λ (step : Step). 1) m (route_in t n) k other);
      work = omega (arith, are.work, sum_elsewhere (λ (step : Step). step.nominal) m (route_in t n) k other);
      least = same_visits t (IsSeen t m n k) (IsSeen t m n (k + 1)) (earlier m) back v are.least;
      small = (omega (arith, are.small.0), omega (arith, are.small.1));
    }
      where
        back : (i l : ℕ) → IsSeen t m n (k + 1) i l → IsSeen t m n k i l
        back i l seen = go (up_to m i l seen)
          where
            go : IsSeen t m n k i l ⊎ ((i ≡ n) × (l ≡ k)) → IsSeen t m n k i l
            go (inl before) = before
            go (inr (one, same)) = absurd (other (let here = seen.visit.here in cc (one, same, here)))

  -- a step more, in the table of all machines
  pub all_more : (all : List Visits) (d : Visits) (visit : Visit) → AreAllSeen t n k all → let m = (step_at (route_in t n) k).machine in
      m < length all → k < length (route_in t n) → visit.head ≡ head t n k → visit.tail ≡ tail t n k → visit.nominal ≡ (step_at (route_in t n) k).nominal → visit.nominal ≤ 1000000
      → AreAllSeen t n (k + 1) (set all m (with_visit (get_or all m d) visit))
  all_more all d visit are inside within is_head is_tail is_nominal small = record { each = each; size = length-set all here new ∙ are.size }
    where
      here : ℕ
      here = (step_at (route_in t n) k).machine

      new : Visits
      new = with_visit (get_or all here d) visit

      each : (m : ℕ) (e : Visits) → m < length (set all here new) → AreSeen t m n (k + 1) (get_or (set all here new) m e)
      each m e less = elim (cases_eq m here) [
        | inl same ↦ subst (λ (x : ℕ). AreSeen t x n (k + 1) (get_or (set all here new) x e)) (sym same)
            (rw (get_or-set_same all here new e inside) (seen_here here (get_or all here d) (are.each here d inside) visit (record { within = within; here = refl }) is_head is_tail is_nominal small))
        | inr other ↦ rw (get_or-set_other all here m new e other)
            (seen_elsewhere m (get_or all m e) (are.each m e (omega (arith, less, length-set all here new))) (λ is. other (sym is)))
      ]

module _ (t : ShopTimes) where
  -- before any visit
  none_seen : (m : ℕ) (v : Visits) → v.count ≡ 0 → v.work ≡ 0 → v.head ≡ None → v.tail ≡ None → v.ends ≡ None → AreSeen t m 0 0 v
  none_seen m v count work head tail ends = record {
    count = omega (arith, count);
    work = omega (arith, work);
    least = record {
      head = rw head (λ x h. none h.job h.place h.visit);
      tail = rw tail (λ x h. none h.job h.place h.visit);
      ends = rw ends (λ x e. none e.first e.enters e.first_visit);
    };
    small = (omega (arith, count), omega (arith, work));
  }
    where
      none : (i l : ℕ) → IsSeen t m 0 0 i l → ⊥
      none i l seen = go seen.before
        where
          go : (i < 0) ⊎ ((i ≡ 0) × (l < 0)) → ⊥
          go (inl less) = omega (arith, less)
          go (inr (same, less)) = omega (arith, less)

  -- behind the last step of a job, the next job
  next_job : (m n : ℕ) (v : Visits) → length (route_in t n) ≤ 100 → AreSeen t m n (length (route_in t n)) v → AreSeen t m (n + 1) 0 v
  next_job m n v few are = record {
    count = rw add-one (omega (arith, are.count));
    work = rw add-one (omega (arith, are.work));
    least = same_visits t (IsSeen t m n (length (route_in t n))) (IsSeen t m (n + 1) 0) to from v are.least;
    small = (omega (arith, are.small.0, few), omega (arith, are.small.1, few));
  }
    where
      to : (i l : ℕ) → IsSeen t m n (length (route_in t n)) i l → IsSeen t m (n + 1) 0 i l
      to i l seen = record { visit = seen.visit; before = inl (go seen.before) }
        where
          go : (i < n) ⊎ ((i ≡ n) × (l < length (route_in t n))) → i < n + 1
          go (inl less) = omega (arith, less)
          go (inr (same, less)) = omega (arith, same)

      from : (i l : ℕ) → IsSeen t m (n + 1) 0 i l → IsSeen t m n (length (route_in t n)) i l
      from i l seen = record { visit = seen.visit; before = go seen.before }
        where
          go : (i < n + 1) ⊎ ((i ≡ n + 1) × (l < 0)) → (i < n) ⊎ ((i ≡ n) × (l < length (route_in t n)))
          go (inl less) = elim (cases_eq i n) [
            | inl same ↦ inr (same, subst (λ (x : ℕ). l < length (route_in t x)) same seen.visit.within)
            | inr other ↦ inl (omega (arith, less, other))
          ]
          go (inr (same, less)) = absurd (omega (arith, less))

  -- behind the last job all visits were looked at
  all_seen : (m : ℕ) (v : Visits) → job_count t ≤ 200 → AreSeen t m (job_count t) 0 v → AreVisits t m v
  all_seen m v few are = record {
    count = omega (arith, are.count);
    work = omega (arith, are.work);
    ends = (same_visits t (IsSeen t m (job_count t) 0) (IsVisit t m) (λ i l seen. seen.visit) from v are.least).ends;
    small = (omega (arith, are.small.0, few), omega (arith, are.small.1, few));
  }
    where
      from : (i l : ℕ) → IsVisit t m i l → IsSeen t m (job_count t) 0 i l
      from i l visit = record { visit = visit; before = inl inside }
        where
          inside : i < job_count t
          inside = elim (cases_lt i (job_count t)) [
            | inl less ↦ less
            | inr past ↦ absurd (omega (arith, visit.within, ap length (get_or_past t.shop.routes i [] past)))
          ]

  -- in the table of all machines
  pub all_none : (v : Visits) → v.count ≡ 0 → v.work ≡ 0 → v.head ≡ None → v.tail ≡ None → v.ends ≡ None → AreAllSeen t 0 0 (replicate MAX_MACHINES v)
  all_none v count work head tail ends = record {
    each = λ m d less. rw (get_or-replicate MAX_MACHINES m v d (omega (arith, less, length-replicate MAX_MACHINES v))) (none_seen m v count work head tail ends);
    size = length-replicate MAX_MACHINES v;
  }

  pub all_next : (n k : ℕ) (all : List Visits) → k ≡ length (route_in t n) → length (route_in t n) ≤ 100 → AreAllSeen t n k all → AreAllSeen t (n + 1) 0 all
  all_next n k all last few are = record {
    each = λ m d less. next_job m n (get_or all m d) few (subst (λ (x : ℕ). AreSeen t m n x (get_or all m d)) last (are.each m d less));
    size = are.size;
  }

  pub all_looked : (n : ℕ) (all : List Visits) → n ≡ job_count t → job_count t ≤ 200 → AreAllSeen t n 0 all → AreAllVisits t all
  all_looked n all last few are = record {
    each = λ m d less. all_seen m (get_or all m d) few (subst (λ (x : ℕ). AreSeen t m x 0 (get_or all m d)) last (are.each m d less));
    size = are.size;
  }
