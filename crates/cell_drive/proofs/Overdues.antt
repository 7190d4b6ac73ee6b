-- What is overdue in a cell is one of its jobs or machines, and there are no more.
use Rattle.std.proofs.Common.{◌≡◌, ℕ, zero, suc, ◌+◌, ◌<◌, ◌≤◌, Bool, true, false, cond, Option, None, Some, refl, subst, arith}
use Rattle.shop_base.specs.{Plan.{PlannedShop, jobs, machines}, Cell.Cell}
use Rattle.cell_tables.specs.declared.standing.Standing.{Standing}
use Rattle.cell_tables.specs.Standings.{is_overdue, job_standing, machine_standing}
use Rattle.event_lines.specs.declared.details.Overdue.{Overdue}
use Rattle.cell_drive.specs.States.{one_more, with_one, with_those, with_jobs, with_machines, own_first, overdue_in}

module _ (at : ℕ) (Holds : Standing → Type 0) where
  -- this holds of a standing, if that is overdue
  abbrev HoldsIfDue : Standing → Type 0
  HoldsIfDue standing = is_overdue standing at ≡ true → Holds standing

  -- it holds of the first that is overdue, and there are so many at most
  abbrev pub AreFew : ℕ → Option Overdue → Type 0
  AreFew most None = Unit {0}
  AreFew most (Some overdue) = (is_overdue overdue.first at ≡ true) × Holds overdue.first × (overdue.others + 1 ≤ most)

  one_few : (is : Bool) (most : ℕ) (found : Option Overdue) (standing : Standing) → is_overdue standing at ≡ is → HoldsIfDue standing → AreFew most found → AreFew (most + 1) (cond is (one_more found standing) found)
  one_few true most None standing is holds few = (is, holds is, omega arith)
  one_few true most (Some overdue) standing is holds few = (few.0, few.1, omega (arith, few.2))
  one_few false most None standing is holds few = tt
  one_few false most (Some overdue) standing is holds few = (few.0, few.1, omega (arith, few.2))

  those_few : (standing : ℕ → Standing) (most : ℕ) (found : Option Overdue) (k n : ℕ) → ((i : ℕ) → i < k + n → HoldsIfDue (standing i)) → AreFew most found → AreFew (most + n) (with_those at standing found k n)
  those_few standing most found k zero each few = subst (λ (m : ℕ). AreFew m found) (omega arith) few
  those_few standing most found k (suc n) each few =
      let next = with_one at found (standing k) in
      subst (λ (m : ℕ). AreFew m (with_those at standing next (suc k) n)) (omega arith)
      (those_few standing (most + 1) next (suc k) n (λ i below. each i (omega (arith, below))) (one_few (is_overdue (standing k) at) most found (standing k) refl (each k (omega arith)) few))

  chosen_few : (is : Bool) (own first : Standing) → is_overdue own at ≡ is → HoldsIfDue own → (is_overdue first at ≡ true) × Holds first → (is_overdue (cond is own first) at ≡ true) × Holds (cond is own first)
  chosen_few true own first is holds few = (is, holds is)
  chosen_few false own first is holds few = few

  own_few : (own : Standing) (most : ℕ) (found : Option Overdue) → HoldsIfDue own → AreFew most found → AreFew most (own_first at own found)
  own_few own most None holds few = tt
  own_few own most (Some overdue) holds few = (let first = chosen_few (is_overdue own at) own overdue.first refl holds (few.0, few.1) in (first.0, first.1, few.2))

  pub overdue_few : (p : PlannedShop) (c : Cell) (own : Standing) → ((j : ℕ) → j < jobs p → HoldsIfDue (job_standing p c j)) → ((m : ℕ) → m < machines p → HoldsIfDue (machine_standing p c m)) → HoldsIfDue own
      → AreFew (jobs p + machines p) (overdue_in p c own at)
  overdue_few p c own of_jobs of_machines of_own =
      let those = those_few (job_standing p c) 0 None 0 (jobs p) (λ j below. of_jobs j (omega (arith, below))) tt in
      let both = those_few (machine_standing p c) (0 + jobs p) (with_jobs p c at) 0 (machines p) (λ m below. of_machines m (omega (arith, below))) those in
      own_few own (jobs p + machines p) (with_machines p c at (with_jobs p c at)) of_own (subst (λ (m : ℕ). AreFew m (with_machines p c at (with_jobs p c at))) (omega arith) both)
