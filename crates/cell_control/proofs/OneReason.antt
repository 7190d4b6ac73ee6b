-- A report has at most one first reason against it: that which is found where what is asked of it is looked at in order.
use Rattle.std.proofs.Common.{◌≡◌, ℕ, ◌-◌, ◌<◌, Bool, true, false, ◌||◌, ◌⊎◌, cond, nat_lt, nat_eq, refl, sym, ap, ◌∙◌, arith, inl, inr, lt-ltb, le-ltb, eq-eqb}
use Rattle.std.proofs.lemmas.Bool.{ne_eqb, cases_lt}
use Rattle.shop_base.specs.declared.{limits.TheConstants.MAX_MOMENT, report.Report.{Report, TheVariants.{Arrive, Finish, Clean}}}
use Rattle.shop_base.specs.{Plan.{PlannedShop, jobs, machines, steps, machine_of}, Cell.{Cell, made, ready}, Report.IsNextMoment}
use Rattle.cell_control.specs.declared.report_fault.ReportFault.{ReportFault}
use Rattle.cell_control.specs.declared.report_fault.ReportFault.TheVariants.{JobOutOfRange, MachineOutOfRange, StepOutOfRange, MomentTooLarge, Backwards, NotExpected, WrongKind, WrongMachine}
use Rattle.cell_control.specs.Reports.{IsBusy, IsMomentReason, IsJobReason, IsFirstReason, IsOnlyReason}

-- what is found against a moment, else this
abbrev pub in_time : Cell → ℕ → ReportFault → ReportFault
in_time c t other = cond (nat_lt MAX_MOMENT t) MomentTooLarge (cond (nat_lt t c.last) (Backwards c.last) other)

module _ (c : Cell) (t : ℕ) (other : ReportFault) where
  pub late_found : (fault : ReportFault) → IsMomentReason c t fault → fault ≡ in_time c t other
  late_found MomentTooLarge late = rw (lt-ltb MAX_MOMENT t late) refl
  late_found (Backwards last) (range, back, is) = rw (le-ltb MAX_MOMENT t range, lt-ltb t c.last back) (ap Backwards is)
  late_found JobOutOfRange bad = absurd bad
  late_found MachineOutOfRange bad = absurd bad
  late_found StepOutOfRange bad = absurd bad
  late_found NotExpected bad = absurd bad
  late_found WrongKind bad = absurd bad
  late_found (WrongMachine actual) bad = absurd bad

  pub other_found : IsNextMoment c t → other ≡ in_time c t other
  other_found moment = rw (le-ltb MAX_MOMENT t moment.in_range, le-ltb t c.last moment.in_order) refl

module _ (p : PlannedShop) (c : Cell) where
  abbrev is_idle : ℕ → Bool
  is_idle j = ready c j || nat_lt (steps p j) (made c j)

  -- what is found against a report of job j, else this
  abbrev of_job : ℕ → ℕ → ReportFault → ReportFault
  of_job j t other = cond (nat_lt j (jobs p)) (in_time c t (cond (is_idle j) NotExpected other)) JobOutOfRange

  -- what is found against a report
  abbrev found_first : Report → ReportFault
  found_first (Arrive j t) = of_job j t WrongKind
  found_first (Finish j m t) = of_job j t (cond (nat_eq (made c j) 0) WrongKind (WrongMachine (machine_of p j (made c j - 1))))
  found_first (Clean m t) = cond (nat_lt m (machines p)) (in_time c t NotExpected) MachineOutOfRange

  idle : (j : ℕ) → (ready c j ≡ true) ⊎ (steps p j < made c j) → is_idle j ≡ true
  idle j (inl is_ready) = rw is_ready refl
  idle j (inr gone) = go (ready c j) (lt-ltb (steps p j) (made c j) gone)
    where
      go : (is_ready : Bool) → nat_lt (steps p j) (made c j) ≡ true → (is_ready || nat_lt (steps p j) (made c j)) ≡ true
      go true is = refl
      go false is = is

  busy : (j : ℕ) → IsBusy p c j → is_idle j ≡ false
  busy j is = rw is.not_ready (le-ltb (steps p j) (made c j) (elim (cases_lt (steps p j) (made c j)) [ inl gone ↦ absurd (is.not_gone gone) | inr here ↦ here ]))

  module _ (j t : ℕ) (other : ReportFault) where
    job_found : (fault : ReportFault) → IsJobReason p c j t fault → fault ≡ of_job j t other
    job_found JobOutOfRange past = rw (le-ltb j (jobs p) past) refl
    job_found MomentTooLarge (inside, late) = rw (lt-ltb j (jobs p) inside) (late_found c t _ MomentTooLarge late)
    job_found (Backwards last) (inside, range, back, is) = rw (lt-ltb j (jobs p) inside) (late_found c t _ (Backwards last) (range, back, is))
    job_found NotExpected (inside, moment, none) = rw (lt-ltb j (jobs p) inside, idle j none) (other_found c t NotExpected moment)
    job_found MachineOutOfRange bad = absurd bad
    job_found StepOutOfRange bad = absurd bad
    job_found WrongKind bad = absurd bad
    job_found (WrongMachine actual) bad = absurd bad

    busy_found : j < jobs p → IsNextMoment c t → IsBusy p c j → other ≡ of_job j t other
    busy_found inside moment is = rw (lt-ltb j (jobs p) inside, busy j is) (other_found c t other moment)

  found : (r : Report) (fault : ReportFault) → IsFirstReason p c r fault → fault ≡ found_first r
  found (Arrive j t) JobOutOfRange past = job_found j t WrongKind JobOutOfRange past
  found (Arrive j t) MomentTooLarge late = job_found j t WrongKind MomentTooLarge late
  found (Arrive j t) (Backwards last) back = job_found j t WrongKind (Backwards last) back
  found (Arrive j t) NotExpected (turn, none) = job_found j t WrongKind NotExpected (turn.of_shop, turn.moment, none)
  found (Arrive j t) WrongKind (turn, other) = busy_found j t WrongKind turn.of_shop turn.moment other.0
  found (Arrive j t) MachineOutOfRange bad = absurd bad
  found (Arrive j t) StepOutOfRange bad = absurd bad
  found (Arrive j t) (WrongMachine actual) bad = absurd bad.1
  found (Finish j m t) JobOutOfRange past = job_found j t _ JobOutOfRange past
  found (Finish j m t) MomentTooLarge late = job_found j t _ MomentTooLarge late
  found (Finish j m t) (Backwards last) back = job_found j t _ (Backwards last) back
  found (Finish j m t) NotExpected (turn, none) = job_found j t _ NotExpected (turn.of_shop, turn.moment, none)
  found (Finish j m t) WrongKind (turn, other) = rw (eq-eqb (made c j) 0 other.1) (busy_found j t WrongKind turn.of_shop turn.moment other.0)
  found (Finish j m t) (WrongMachine actual) (turn, other) =
      let (is, (k, on), apart) = other in
      let last : k ≡ made c j - 1 = omega (arith, on.entered) in
      let at : actual ≡ machine_of p j (made c j - 1) = sym on.visits.here ∙ ap (machine_of p j) last in
      rw (ne_eqb (made c j) 0 (λ none. absurd (omega (arith, on.entered, none)))) (ap WrongMachine at ∙ busy_found j t (WrongMachine (machine_of p j (made c j - 1))) turn.of_shop turn.moment is)
  found (Finish j m t) MachineOutOfRange bad = absurd bad
  found (Finish j m t) StepOutOfRange bad = absurd bad
  found (Clean m t) MachineOutOfRange past = rw (le-ltb m (machines p) past) refl
  found (Clean m t) MomentTooLarge (inside, late) = rw (lt-ltb m (machines p) inside) (late_found c t NotExpected MomentTooLarge late)
  found (Clean m t) (Backwards last) (inside, range, back, is) = rw (lt-ltb m (machines p) inside) (late_found c t NotExpected (Backwards last) (range, back, is))
  found (Clean m t) NotExpected (turn, none) = rw (lt-ltb m (machines p) turn.of_shop) (other_found c t NotExpected turn.moment)
  found (Clean m t) JobOutOfRange bad = absurd bad
  found (Clean m t) StepOutOfRange bad = absurd bad
  found (Clean m t) WrongKind bad = absurd bad.1
  found (Clean m t) (WrongMachine actual) bad = absurd bad.1

-- so a first reason against a report is the only one
pub only_reason : (p : PlannedShop) (c : Cell) (r : Report) (f : ReportFault) → IsFirstReason p c r f → IsOnlyReason p c r f
only_reason p c r f first other reason = found p c r other reason ∙ sym (found p c r f first)
