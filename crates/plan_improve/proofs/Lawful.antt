-- The laws of plans, and of plans for the rest of a run, that are no worse than others.
use Rattle.std.proofs.Common.{◌≡◌, ℕ, ◌-◌, ◌<◌, ◌≤◌, Option, None, Some, inl, inr, arith, refl, ◌∙◌, le-ltb, lt-ltb, subst}
use Rattle.plan_bounds.proofs.Bounded.{no_plan_is_sooner-holds}
use Rattle.plan_improve.proofs.Common.{ASecondSearchIsNoWorse, AcceptedPlansStayAccepted, AcceptedRestsStayAccepted, Cell, Cost, IsAcceptable, IsAcceptableAhead, IsAtMost, IsBound, IsBoundThere, IsCost, IsCostFrom, IsGone, IsLess, IsMakespan, IsReordered, IsWellShaped, Meets, NoWorseIsPassedOn, NobodyBettersIt, PlannedShop, TheirMakespansNeverGrow, budget, cases_lt, jobs, late_by, made, makespan_le, steps, sum_below, sum_below-le, sum_below_zero}
use Rattle.plan_improve.proofs.{Comparing.{most_of_most, zero_most}, Once.{same_cost, same_bound}}

-- a plan to be accepted is never late
plan_never_late : (p : PlannedShop) (c : Cost) → IsAcceptable p → IsCost p c → c.late ≡ 0
plan_never_late p c acceptable is = is.late.sum ∙ sum_below_zero (λ j. is.late.leaves j - budget p j) (jobs p) in_time
  where
    in_time : (j : ℕ) → j < jobs p → is.late.leaves j - budget p j ≡ 0
    in_time j inside =
        let found = (is.late.are j inside).reached in
        let within : is.late.leaves j ≤ budget p j = acceptable.budgets j inside found.0 (is.late.leaves j) found.1 in
        omega arith

on_time : (q : PlannedShop) (c : Cost) → IsCost q c → c.late ≡ 0 → IsAcceptable q
on_time q c is zero = record {
  acyclic = is.acyclic;
  budgets = λ j inside nodes n path.
      (let longest : n ≤ is.late.leaves j = (is.late.are j inside).longest nodes n path in
      let part : is.late.leaves j - budget q j ≤ sum_below (λ i. is.late.leaves i - budget q i) (jobs q) = sum_below-le (λ i. is.late.leaves i - budget q i) (jobs q) j inside in
      omega (arith, is.late.sum, zero));
}

least_most : (c d : Cost) → IsAtMost c d → d.late ≡ 0 → c.makespan ≤ d.makespan
least_most c d (inl less) zero = absurd (omega arith)
least_most c d (inr (same, most)) zero = most

pub accepted : AcceptedPlansStayAccepted
accepted p q no_worse acceptable = on_time q no_worse.cost no_worse.is (zero_most no_worse.cost no_worse.other no_worse.most (plan_never_late p no_worse.other acceptable no_worse.than))

pub never_grow : TheirMakespansNeverGrow
never_grow p q m n no_worse acceptable one other =
    omega (
      arith,
      least_most no_worse.cost no_worse.other no_worse.most (plan_never_late p no_worse.other acceptable no_worse.than),
      makespan_le p no_worse.other.makespan m no_worse.than.makespan one,
      makespan_le q n no_worse.cost.makespan other no_worse.is.makespan,
    )

pub second : ASecondSearchIsNoWorse
second p q acyclic never_worse = never_worse p (inl ((λ cycle. acyclic cycle.0 cycle.1), refl))

pub passed_on : NoWorseIsPassedOn
passed_on p q r one next = record {
  cost = next.cost;
  other = one.other;
  is = next.is;
  than = one.than;
  most = most_of_most next.cost one.cost one.other (subst (IsAtMost next.cost) (same_cost q next.other one.cost next.than one.is) next.most) one.most;
}

-- no plan has a makespan below its bound
above_bound : (q : PlannedShop) (n m : ℕ) → IsWellShaped q → IsBound q n → IsMakespan q m → n ≤ m
above_bound q n m shaped (by, is) makespan =
    let (j, inside, way) = (no_plan_is_sooner-holds q shaped).1 (record { at_least = n; by = by }) is in
    omega (arith, way.long, makespan.bound j way.nodes way.size inside way.path)

never_less : (c d : Cost) (n : ℕ) → (d.late ≡ 0) × (d.makespan ≡ n) → n ≤ c.makespan → IsLess c d → ⊥
never_less c d n meets most (inl less) = omega arith
never_less c d n meets most (inr (same, less)) = omega (arith, meets.1)

met : (p q : PlannedShop) (best cost : Cost) (at_least : Option ℕ) → IsReordered p q → IsBoundThere p at_least → Meets best at_least → IsWellShaped q → IsCost q cost → IsLess cost best → ⊥
met p q best cost None same bound meets shaped is less = meets
met p q best cost (Some n) same bound meets shaped is less =
    never_less cost best n meets (above_bound q n cost.makespan shaped (same_bound p q n same bound) is.makespan) less

pub nobody_betters : NobodyBettersIt
nobody_betters p q best same better =
    met p q best.cost better.cost best.at_least same best.bound best.meets better.shaped better.is
    (subst (IsLess better.cost) (same_cost p better.other best.cost better.than best.is) better.less)

module _ (p : PlannedShop) (c : Cell) where
  late_gone : (leaves : ℕ → ℕ) (j : ℕ) → IsGone p c j → late_by p c leaves j ≡ 0
  late_gone leaves j gone = rw (lt-ltb (steps p j) (made c j) gone) refl

  late_here : (leaves : ℕ → ℕ) (j : ℕ) → (IsGone p c j → ⊥) → late_by p c leaves j ≡ leaves j - budget p j
  late_here leaves j here = elim (cases_lt (steps p j) (made c j)) [
    | inl gone ↦ absurd (here gone)
    | inr ahead ↦ rw (le-ltb (steps p j) (made c j) ahead) refl
  ]

  -- a rest to be accepted is never late
  never_late : (t : ℕ) (cost : Cost) → IsAcceptableAhead p c t → IsCostFrom p c t cost → cost.late ≡ 0
  never_late t cost acceptable is = is.late ∙ sum_below_zero (late_by p c is.leaves) (jobs p) in_time
    where
      on_time : (j : ℕ) → j < jobs p → (IsGone p c j → ⊥) → is.leaves j - budget p j ≡ 0
      on_time j inside here =
          let found = (is.are.ahead j inside here).reached in
          let within : is.leaves j ≤ budget p j = acceptable.budgets j inside here found.0 (is.leaves j) found.1 in
          omega arith

      in_time : (j : ℕ) → j < jobs p → late_by p c is.leaves j ≡ 0
      in_time j inside = elim (cases_lt (steps p j) (made c j)) [
        | inl gone ↦ late_gone is.leaves j gone
        | inr ahead ↦ late_here is.leaves j (λ gone. omega arith) ∙ on_time j inside (λ gone. omega arith)
      ]

  all_in_time : (t : ℕ) (cost : Cost) → IsCostFrom p c t cost → cost.late ≡ 0 → IsAcceptableAhead p c t
  all_in_time t cost is zero = record {
    acyclic = is.acyclic;
    budgets = λ j inside here nodes n path.
        (let longest : n ≤ is.leaves j = (is.are.ahead j inside here).longest nodes n path in
        let part : late_by p c is.leaves j ≤ sum_below (late_by p c is.leaves) (jobs p) = sum_below-le (late_by p c is.leaves) (jobs p) j inside in
        omega (arith, is.late, zero, late_here is.leaves j here));
  }

pub rest_accepted : AcceptedRestsStayAccepted
rest_accepted c t p q no_worse acceptable = all_in_time q c t no_worse.cost no_worse.is.costs
    (zero_most no_worse.cost no_worse.other no_worse.most (never_late p c t no_worse.other acceptable no_worse.than.costs))
