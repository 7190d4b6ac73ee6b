-- How large the parts of the bounds can be.
use Rattle.std.proofs.Common.{ℕ, ◌+◌, ◌*◌, ◌<◌, ◌≤◌, Option, None, Some, IfSome, take, drop, arith}
use Rattle.std.proofs.lemmas.Nat.{mul-le}
use Rattle.std.proofs.lemmas.List.Sums.{sum_by-take-drop}
use Rattle.shop_base.specs.declared.shop.Step.{Step}
use Rattle.shop_base.specs.Work.{route_work}
use Rattle.shop_base.specs.Plan.{PlannedShop, jobs, machines, route, release, clean, IsWellShaped}
use Rattle.shop_base.proofs.Bounds.{route_work-le}
use Rattle.shop_base.proofs.Visits.{steps_job}
use Rattle.plan_bounds.specs.Bounds.{times_of, IsVisit, AreEnds, IsLeast}
use Rattle.plan_bounds.specs.Seen.{IsHead, IsTail, IsSeen, AreSeen}
use Rattle.plan_bounds.specs.declared.visits.Visits.{Visits}

module _ (p : PlannedShop) (j : ℕ) (shaped : IsWellShaped p) (inside : j < jobs p) where
  pub work-le : route_work (route p j) ≤ 100000000
  work-le = omega (arith, route_work-le (machines p) p.shop.recirculates (route p j) (shaped.shop.routes j inside), shaped.shop.counts.few_machines)

  pub release-le : release p j ≤ 1000000000
  release-le = omega (arith, shaped.limits.releases j inside)

  pub take-le : (k : ℕ) → route_work (take k (route p j)) ≤ 100000000
  take-le k = omega (arith, work-le, sum_by-take-drop (λ (s : Step). s.nominal) (route p j) k)

  pub drop-le : (k : ℕ) → route_work (drop k (route p j)) ≤ 100000000
  drop-le k = omega (arith, work-le, sum_by-take-drop (λ (s : Step). s.nominal) (route p j) k)

-- some time more than the least of moments that are small
added-fits : (P : ℕ → Type 0) (o : Option ℕ) (d : ℕ) → IsLeast P o → ((x : ℕ) → P x → x ≤ 1100000000) → d ≤ 1100000000 → IfSome o (λ x. x + d < 18446744073709551616)
added-fits P None d none small few = tt
added-fits P (Some x) d least small few = let le = small x least.0 in omega (arith, le, few)

module _ (p : PlannedShop) (m : ℕ) (shaped : IsWellShaped p) where
  head-small : (n k x : ℕ) → IsHead (times_of p) (IsSeen (times_of p) m n k) x → x ≤ 1100000000
  head-small n k x h =
      let inside = steps_job p h.job h.place h.visit.visit.within in
      omega (arith, h.is, take-le p h.job shaped inside h.place, release-le p h.job shaped inside)

  tail-small : (n k x : ℕ) → IsTail (times_of p) (IsSeen (times_of p) m n k) x → x ≤ 1100000000
  tail-small n k x h = omega (arith, h.is, drop-le p h.job shaped (steps_job p h.job h.place h.visit.visit.within) (h.place + 1))

  -- with some time more the least head, and the least tail, are numbers of the code
  pub head-fits : (n k d : ℕ) (v : Visits) → AreSeen (times_of p) m n k v → d ≤ 1100000000 → IfSome v.head (λ x. x + d < 18446744073709551616)
  head-fits n k d v are few = added-fits (IsHead (times_of p) (IsSeen (times_of p) m n k)) v.head d are.least.head (head-small n k) few

  pub tail-fits : (n k d : ℕ) (v : Visits) → AreSeen (times_of p) m n k v → d ≤ 1100000000 → IfSome v.tail (λ x. x + d < 18446744073709551616)
  tail-fits n k d v are few = added-fits (IsTail (times_of p) (IsSeen (times_of p) m n k)) v.tail d are.least.tail (tail-small n k) few

  -- the least head and tail together are small
  pub ends-small : (x : ℕ) → IsLeast (AreEnds (times_of p) (IsVisit (times_of p) m)) (Some x) → x ≤ 1200000000
  ends-small x least =
      let e = least.0 in
      let inside = steps_job p e.first e.enters e.first_visit.within in
      omega (
        arith,
        e.sum,
        take-le p e.first shaped inside e.enters,
        release-le p e.first shaped inside,
        drop-le p e.last shaped (steps_job p e.last e.leaves e.last_visit.within) (e.leaves + 1),
      )

  -- all cleanings between the visits of a machine
  pub cleanings-small : (n : ℕ) → m < machines p → n ≤ 20000 → clean p m * n ≤ 20000000000
  cleanings-small n inside few = omega (arith, mul-le (clean p m) n 1000000 20000 (omega (arith, shaped.limits.cleanings m inside)) few)
