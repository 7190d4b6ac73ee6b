-- Where nothing is found overdue, a report is punctual.
use Rattle.std.proofs.Common.{◌≡◌, ◌⊎◌, ℕ, zero, suc, ◌+◌, ◌<◌, ◌≤◌, nat_lt, Bool, true, false, cond, Option, Some, None, refl, sym, ap, ◌∙◌, subst, add-one, arith, inl, inr}
use Rattle.std.proofs.lemmas.Bool.{lt-ltb, ltb-false, cases_lt}
use Rattle.shop_base.specs.{Plan.{PlannedShop, jobs, machines, steps, release, nominal, clean, machine_of}, Report.at}
use Rattle.shop_base.specs.{Cell.{Cell, ready, since}, Sound.IsSound}
use Rattle.shop_base.specs.Activity.{Activity, Arrival, Operation, Cleaning, GoesOn, IsAwaited, IsWorked, IsCleaned}
use Rattle.shop_base.proofs.{InShop.{outside_in_shop, cleaned_in_shop}, Visits.visits_job}
use Rattle.cell_tables.specs.declared.standing.Standing.{Standing, TheVariants.{Awaited, Worked, Gone}}
use Rattle.cell_tables.specs.Standings.{shown_visit, job_standing, machine_standing, outside_standing, inside_standing, standing_after, cleaning_standing, is_overdue}
use Rattle.event_lines.specs.declared.details.Overdue.{Overdue}
use Rattle.cell_drive.specs.{Refusals.standing_of, States.{one_more, with_one, with_those, with_jobs, own_first}}
use Rattle.cell_drive.specs.ProtocolLaw.{ALateReportFindsSomethingOverdue}

module _ (t : ℕ) where
  one_none : (is : Bool) (found : Option Overdue) (standing : Standing) → cond is (one_more found standing) found ≡ None → (found ≡ None) × (is ≡ false)
  one_none true None standing none = absurd (cc)
  one_none true (Some overdue) standing none = absurd (cc)
  one_none false found standing none = (none, refl)

  -- none of so many numbers is overdue, and nothing was found before
  those_none : (standing : ℕ → Standing) (found : Option Overdue) (k n : ℕ) → with_those t standing found k n ≡ None
      → (found ≡ None) × ((i : ℕ) → k ≤ i → i < k + n → is_overdue (standing i) t ≡ false)
  those_none standing found k zero none = (none, λ i low high. absurd (omega (arith, low, high)))
  those_none standing found k (suc n) none =
      let later = those_none standing (with_one t found (standing k)) (suc k) n none in
      let one = one_none (is_overdue (standing k) t) found (standing k) later.0 in
      (one.0, λ i low high. this i low high one.1 later.1 (cases_lt k i))
    where
      this : (i : ℕ) → k ≤ i → i < k + suc n → is_overdue (standing k) t ≡ false → ((j : ℕ) → suc k ≤ j → j < suc k + n → is_overdue (standing j) t ≡ false) → (k < i) ⊎ (i ≤ k)
          → is_overdue (standing i) t ≡ false
      this i low high first others (inl past) = others i (omega (arith, past)) (omega (arith, high))
      this i low high first others (inr not_past) = let same : k ≡ i = omega (arith, low, not_past) in subst (λ (j : ℕ). is_overdue (standing j) t ≡ false) same first

  own_none : (own : Standing) (found : Option Overdue) → own_first t own found ≡ None → found ≡ None
  own_none own None none = refl
  own_none own (Some overdue) none = absurd (cc)

  module _ (p : PlannedShop) (c : Cell) where
    awaited : (j due : ℕ) → IsAwaited p c j due → job_standing p c j ≡ Awaited j (release p j)
    awaited j due is = ap (standing_after p c j) is.outside ∙ ap (outside_standing p c j) is.not_ready

    worked : (j k m due : ℕ) → IsWorked p c j k m due → job_standing p c j ≡ Worked (shown_visit p j k) (machine_of p j k) (since c j) (since c j + nominal p j k)
    worked j k m due is =
        ap (standing_after p c j) (is.on.entered ∙ add-one k)
        ∙ ap (λ (b : Bool). cond b (inside_standing p c j k (ready c j)) (Gone j (since c j))) (lt-ltb k (steps p j) is.on.visits.within)
        ∙ ap (inside_standing p c j k) is.not_ready

    cleaned : (m from due : ℕ) → IsCleaned p c m from due → machine_standing p c m ≡ cleaning_standing p c m (Some from)
    cleaned m from due is = ap (cleaning_standing p c m) is.is_cleaned

    in_time : (sound : IsSound p c) → ((j : ℕ) → j < jobs p → is_overdue (job_standing p c j) t ≡ false) → ((m : ℕ) → m < machines p → is_overdue (machine_standing p c m) t ≡ false)
        → (a : Activity) (due : ℕ) → GoesOn p c a due → t ≤ due
    in_time sound each_job each_machine (Arrival j) due is =
        let on_time : nat_lt (release p j) t ≡ false = ap (λ (s : Standing). is_overdue s t) (sym (awaited j due is)) ∙ each_job j (outside_in_shop p c j sound is.outside) in
        omega (arith, ltb-false (release p j) t on_time, is.is_due)
    in_time sound each_job each_machine (Operation j m) due (k, is) =
        let on_time : nat_lt (since c j + nominal p j k) t ≡ false = ap (λ (s : Standing). is_overdue s t) (sym (worked j k m due is)) ∙ each_job j (visits_job p j k m is.on.visits) in
        omega (arith, ltb-false (since c j + nominal p j k) t on_time, is.is_due)
    in_time sound each_job each_machine (Cleaning m) due (from, is) =
        let on_time : nat_lt (from + clean p m) t ≡ false = ap (λ (s : Standing). is_overdue s t) (sym (cleaned m from due is)) ∙ each_machine m (cleaned_in_shop p c m from sound is.is_cleaned) in
        omega (arith, ltb-false (from + clean p m) t on_time, is.is_due)

pub late_finds_overdue : ALateReportFindsSomethingOverdue
late_finds_overdue p c report sound none =
    let t = at report in
    let machines_none = those_none t (machine_standing p c) (with_jobs p c t) 0 (machines p) (own_none t (standing_of p c report) _ none) in
    let jobs_none = those_none t (job_standing p c) None 0 (jobs p) machines_none.0 in
    in_time t p c sound (λ j below. jobs_none.1 j (omega arith) (omega (arith, below))) (λ m below. machines_none.1 m (omega arith) (omega (arith, below)))
