-- Paths along the order of a machine.
use Rattle.std.proofs.Common.{◌≡◌, ℕ, zero, suc, ◌+◌, ◌*◌, ◌-◌, ◌<◌, ◌≤◌, inl, inr, length, arith, refl, sym, ap, subst, add-one, ◌∙◌, ◌≢◌}
use Rattle.std.proofs.Math.Nat.{mul-add}
use Rattle.std.proofs.lemmas.Nat.{mul-le}
use Rattle.std.proofs.lemmas.Bool.{cases_lt}
use Rattle.shop_base.specs.declared.shop.Step.{Step}
use Rattle.shop_base.specs.Plan.{PlannedShop, jobs, steps, clean, order, job_at, Visits, Stands, IsOrder, IsWellShaped}
use Rattle.shop_base.specs.Graph.{node, leaving, job_arc, blocking_arc}
use Rattle.shop_base.proofs.Visits.{visits_job, visits-order, visits-stands, stands_once}
use Rattle.shop_base.proofs.Places.{same_stand}
use Rattle.plan_bounds.specs.Bounds.{ShopTimes, times_of, head, tail, AreEnds, IsVisit, IsMachineBound, visits_on}
use Rattle.plan_bounds.specs.BoundsLaw.{HasPathOf}
use Rattle.plan_bounds.proofs.Placed.{placed, placed_more, none_placed, all_placed}
use Rattle.plan_bounds.proofs.Paths.{shorter, onward, to_place, to_leaving, begun}

module _ (p : PlannedShop) (shaped : IsWellShaped p) (m : ℕ) (is : IsOrder p m) where
  -- the nominal times of the visits with the first a places
  abbrev times : ℕ → ℕ
  times a = placed p m (λ (s : Step). s.nominal) a

  -- to the entry at place a there is a path as long as one to the first place's, and the nominal times and the cleanings of all before place a
  to_entry : (h : ℕ) → ((j k : ℕ) → Stands p m 0 j k → HasPathOf p (node j k) h)
      → (a j k : ℕ) → Stands p m a j k → HasPathOf p (node j k) (h + times a + clean p m * a)
  to_entry h first zero j k stands = shorter p (node j k) h _ (first j k stands) (omega (arith, none_placed p m (λ (s : Step). s.nominal)))
  to_entry h first (suc a) j k stands =
      let i = job_at p m a in
      let (l, before) = is.on_route a (omega (arith, stands.within)) in
      let done = onward p (node i l) (node i (l + 1)) _ _ (to_entry h first a i l before) (job_arc i l before.visits.within) in
      let next : Stands p m (a + 1) j k = subst (λ (x : ℕ). Stands p m x j k) (sym (add-one a)) stands in
      let on = onward p (node i (l + 1)) (node j k) _ _ done (blocking_arc m a i l j k before next) in
      let more = rw add-one at (placed_more p m (λ (s : Step). s.nominal) a i l before) in
      let cleaned = rw add-one at (mul-add (clean p m) a 1) in
      shorter p (node j k) _ _ on (omega (arith, more, cleaned))

  -- no more visits have the first places than these are
  few_placed : (a : ℕ) → a ≤ length (order p m) → placed p m (λ (s : Step). 1) a ≤ a
  few_placed zero within = omega (arith, none_placed p m (λ (s : Step). 1))
  few_placed (suc a) within =
      let (l, stands) = is.on_route a (omega (arith, within)) in
      let more = rw (add-one a) at (placed_more p m (λ (s : Step). 1) a (job_at p m a) l stands) in
      omega (arith, more, few_placed a (omega (arith, within)))

  -- from the first place to the last one, where they are two, there is a path as long as the bound of the machine
  along : (n : ℕ) → IsMachineBound (times_of p) m n → 1 < length (order p m) → (j : ℕ) × (j < jobs p) × HasPathOf p (leaving p j) n
  along n bound two =
      let z = length (order p m) - 1 in
      let i = job_at p m 0 in
      let j = job_at p m z in
      let (k, first) = is.on_route 0 (omega (arith, two)) in
      let (l, last) = is.on_route z (omega (arith, two)) in
      let apart : i ≡ j → k ≢ l = λ one other. absurd (
      let e = stands_once p m 0 z j l (subst (λ (x : ℕ). Stands p m 0 j x) other (subst (λ (x : ℕ). Stands p m 0 x k) one first)) last in omega (arith, e, two)) in
      let each : AreEnds t (IsVisit t m) (head t i k + tail t j l) = record {
        first = i;
        enters = k;
        last = j;
        leaves = l;
        apart = apart;
        first_visit = record { within = first.visits.within; here = first.visits.here };
        last_visit = record { within = last.visits.within; here = last.visits.here };
        sum = refl;
      } in
      let entry = to_entry (head t i k) (λ i' k' stands. begin k first i' k' stands) z j l last in
      let done = onward p (node j l) (node j (l + 1)) _ _ entry (job_arc j l last.visits.within) in
      let out = to_leaving p (HasPathOf p) (shorter p) (onward p) (steps p j - (l + 1)) j (l + 1) _ (omega (arith, last.visits.within)) done in
      let whole : z + 1 ≡ length (order p m) = omega (arith, two) in
      let all = placed_more p m (λ (s : Step). s.nominal) z j l last in
      let work = all_placed p m (λ (s : Step). s.nominal) is ∙ sym (ap times whole) in
      let few = few_placed (length (order p m)) (omega arith) in
      let count = all_placed p m (λ (s : Step). 1) is in
      let cleaned = mul-le (clean p m) (visits_on t m (jobs p) - 1) (clean p m) z (omega arith) (omega (arith, few, count)) in
      (j, visits_job p j l m last.visits, shorter p (leaving p j) _ n out (omega (arith, bound.sum, bound.least.1 _ each, all, work, cleaned)))
    where
      t : ShopTimes
      t = times_of p

      begin : (k : ℕ) → Stands p m 0 (job_at p m 0) k → (i k' : ℕ) → Stands p m 0 i k' → HasPathOf p (node i k') (head (times_of p) (job_at p m 0) k)
      begin k first i k' stands =
          let same = same_stand p m 0 0 (job_at p m 0) k i k' shaped refl first stands in
          let path = to_place p (HasPathOf p) (shorter p) (onward p) (job_at p m 0) k (begun p (job_at p m 0) (visits_job p _ k m first.visits)) (omega (arith, first.visits.within)) in
          subst (λ (x : ℕ). HasPathOf p (node x k') (head (times_of p) (job_at p m 0) k)) same.0
          (subst (λ (x : ℕ). HasPathOf p (node (job_at p m 0) x) (head (times_of p) (job_at p m 0) k)) same.1 path)

-- to the leaving of some job there is a path as long as the bound of the machine
pub machine_path : (p : PlannedShop) → IsWellShaped p → (m n : ℕ) → IsMachineBound (times_of p) m n → (j : ℕ) × (j < jobs p) × HasPathOf p (leaving p j) n
machine_path p shaped m n bound =
    let ends = bound.least.0 in
    let one : Visits p ends.first ends.enters m = record { within = ends.first_visit.within; here = ends.first_visit.here } in
    let other : Visits p ends.last ends.leaves m = record { within = ends.last_visit.within; here = ends.last_visit.here } in
    let (a, at) = visits-stands p ends.first ends.enters m shaped one in
    let (b, bt) = visits-stands p ends.last ends.leaves m shaped other in
    let differ : a ≢ b = λ same. absurd (let is = same_stand p m a b ends.first ends.enters ends.last ends.leaves shaped same at bt in ends.apart is.0 is.1) in
    along p shaped m (visits-order p ends.first ends.enters m shaped one) n bound (two a b at.within bt.within differ)
  where
    two : (a b : ℕ) → a < length (order p m) → b < length (order p m) → a ≢ b → 1 < length (order p m)
    two a b in_a in_b differ = elim (cases_lt 1 (length (order p m))) [
      | inl more ↦ more
      | inr few ↦ absurd (differ (omega (arith, few, in_a, in_b)))
    ]
