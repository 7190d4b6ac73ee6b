-- Of claims: one that is possible is possible as its report, and there is one first reason at most against one that isn't.
use Rattle.std.proofs.Common.{◌≡◌, ℕ, ◌+◌, ◌-◌, ◌<◌, ◌≤◌, length, Option, None, Some, Bool, true, false, ◌&&◌, not, cond, nat_lt, nat_eq, refl, sym, ap, ◌∙◌, subst, arith, lt-ltb, le-ltb, eq-eqb, ne_eqb}
use Rattle.std.proofs.lemmas.Bool.{false≢true}
use Rattle.shop_base.specs.{Plan.{PlannedShop, jobs, machines, steps, machine_of, release, clean, Stands, IsWellShaped}, Cell.{Cell, made, ready, entries}}
use Rattle.shop_base.specs.{Report.CanReport, Sound.IsSound, declared.report.Report.TheVariants.{Finish, Clean}}
use Rattle.shop_base.proofs.Visits.{visits_job, stands_same, stands_step}
use Rattle.cell_tables.specs.{Claims.claimed, Readings.{IsCleanedAfterStep, IsCleanedForStep}}
use Rattle.cell_tables.specs.declared.claim.Claim.{Claim, TheVariants.{Report, CleanAfter, FinishStep, CleanAfterStep}}
use Rattle.cell_tables.proofs.CleanedSteps.{cleaned_machine, cleaned_job, step_after}
use Rattle.cell_control.specs.declared.report_fault.ReportFault.{ReportFault, TheVariants.{JobOutOfRange, MachineOutOfRange, StepOutOfRange, MomentTooLarge, Backwards, NotExpected, WrongKind, WrongMachine}}
use Rattle.cell_control.specs.Reports.{CanCleanAfter, AreOfShop, IsFirstCleanReason}
use Rattle.cell_control.specs.Claims.{IsToArrive, IsFirstStepReason, IsFirstStepCleanReason, CanFinishStep, CanCleanAfterStep, CanClaim, IsClaimReason, IsOnlyClaimReason}
use Rattle.cell_control.proofs.{OneReason.{in_time, late_found, other_found, only_reason}, Reasons.reason-cannot}

-- what is claimed to have ended can be reported
pub claim_can : (p : PlannedShop) (c : Cell) (claim : Claim) → CanClaim p c claim → CanReport p c (claimed p claim)
claim_can p c (Report r) can = can
claim_can p c (CleanAfter m j t) can = record {
  going = (can.after.from + clean p m, (can.after.from, record { is_cleaned = can.after.is_cleaned; is_due = refl }));
  moment = can.moment;
}
claim_can p c (FinishStep j k t) can =
    let (m, due, worked) = can.works in
    subst (λ x. CanReport p c (Finish j x t)) (sym worked.on.visits.here) (record { going = (due, (k, worked)); moment = can.moment })
claim_can p c (CleanAfterStep m j k t) can = record {
  going = (can.after.from + clean p m, (can.after.from, record { is_cleaned = can.after.is_cleaned; is_due = refl }));
  moment = can.moment;
}

-- a machine is cleaned after one step of one job
pub cleaned_for_one : (p : PlannedShop) (c : Cell) (m j k : ℕ) (found : Option (ℕ × ℕ)) → IsCleanedForStep p c m found → IsCleanedAfterStep p c m j k → found ≡ Some (j, k)
cleaned_for_one p c m j k None none after = let is = after.is_cleaned in absurd (cc)
cleaned_for_one p c m j k (Some (i, l)) is after =
    let a = length (entries c m) - 1 in
    let same : i ≡ j = stands_same p m a i j l k is.last_in after.last_in in
    let step : l ≡ k = stands_step p m a j l k (subst (λ x. Stands p m a x l) same is.last_in) after.last_in in
    rw (same, step) refl

-- a job and a step are themselves
pub step_itself : (j k : ℕ) → true ≡ not (nat_eq j j && nat_eq k k) → ⊥
step_itself j k differ =
    let both : (nat_eq j j && nat_eq k k) ≡ true = rw (eq-eqb j j refl, eq-eqb k k refl) refl in
    false≢true (sym (differ ∙ ap not both))

module _ (p : PlannedShop) (c : Cell) where
  -- ---- the end of a step's operation

  module _ (j k t : ℕ) where
    step_reason-cannot : (fault : ReportFault) → IsFirstStepReason p c j k t fault → CanFinishStep p c j k t → ⊥
    step_reason-cannot JobOutOfRange past can = let (m, due, worked) = can.works in omega (arith, past, visits_job p j k m worked.on.visits)
    step_reason-cannot StepOutOfRange (job, past) can = let (m, due, worked) = can.works in omega (arith, past, worked.on.visits.within)
    step_reason-cannot MomentTooLarge (of_shop, late) can = omega (arith, late, can.moment.in_range)
    step_reason-cannot (Backwards last) (of_shop, range, back, is) can = omega (arith, back, can.moment.in_order)
    step_reason-cannot WrongKind (of_shop, moment, (due, awaited)) can = let (m, ends, worked) = can.works in omega (arith, awaited.outside, worked.on.entered)
    step_reason-cannot NotExpected (of_shop, moment, arrives, works) can = works can.works
    step_reason-cannot MachineOutOfRange reason can = reason
    step_reason-cannot (WrongMachine actual) reason can = reason

    -- whether the job is to arrive
    abbrev arrives : Bool
    arrives = cond (ready c j) false (nat_eq (made c j) 0)

    abbrev found_step : ReportFault
    found_step = cond (nat_lt j (jobs p)) (cond (nat_lt k (steps p j)) (in_time c t (cond arrives WrongKind NotExpected)) StepOutOfRange) JobOutOfRange

    not_arrives : (IsToArrive p c j → ⊥) → arrives ≡ false
    not_arrives none = go (ready c j) refl
      where
        go : (is_ready : Bool) → ready c j ≡ is_ready → cond is_ready false (nat_eq (made c j) 0) ≡ false
        go true is = refl
        go false is = ne_eqb (made c j) 0 (λ outside. none (release p j, record { outside = outside; not_ready = is; is_due = refl }))

    step_found : (fault : ReportFault) → IsFirstStepReason p c j k t fault → fault ≡ found_step
    step_found JobOutOfRange past = rw (le-ltb j (jobs p) past) refl
    step_found StepOutOfRange (job, past) = rw (lt-ltb j (jobs p) job, le-ltb k (steps p j) past) refl
    step_found MomentTooLarge ((job, step), late) = rw (lt-ltb j (jobs p) job, lt-ltb k (steps p j) step) (late_found c t _ MomentTooLarge late)
    step_found (Backwards last) ((job, step), range, back, is) = rw (lt-ltb j (jobs p) job, lt-ltb k (steps p j) step) (late_found c t _ (Backwards last) (range, back, is))
    step_found WrongKind ((job, step), moment, (due, awaited)) =
        rw (lt-ltb j (jobs p) job, lt-ltb k (steps p j) step, awaited.not_ready, eq-eqb (made c j) 0 awaited.outside) (other_found c t WrongKind moment)
    step_found NotExpected ((job, step), moment, none, works) =
        rw (lt-ltb j (jobs p) job, lt-ltb k (steps p j) step, not_arrives none) (other_found c t NotExpected moment)
    step_found MachineOutOfRange bad = absurd bad
    step_found (WrongMachine actual) bad = absurd bad

  -- ---- a cleaning

  module _ (m j t : ℕ) where
    -- what is found against a cleaning after job j, once the machine and the job are of the shop
    abbrev found_clean : ReportFault → ReportFault
    found_clean other = cond (nat_lt m (machines p)) (cond (nat_lt j (jobs p)) other JobOutOfRange) MachineOutOfRange

    no_machine : (other : ReportFault) → machines p ≤ m → MachineOutOfRange ≡ found_clean other
    no_machine other past = rw (le-ltb m (machines p) past) refl

    no_job : (other : ReportFault) → m < machines p → jobs p ≤ j → JobOutOfRange ≡ found_clean other
    no_job other machine past = rw (lt-ltb m (machines p) machine, le-ltb j (jobs p) past) refl

    of_shop : (fault other : ReportFault) → AreOfShop p m j → fault ≡ other → fault ≡ found_clean other
    of_shop fault other (machine, job) is = rw (lt-ltb m (machines p) machine, lt-ltb j (jobs p) job) is

    clean_found : (fault : ReportFault) → IsFirstCleanReason p c m j t fault → fault ≡ found_clean (in_time c t NotExpected)
    clean_found MachineOutOfRange past = no_machine _ past
    clean_found JobOutOfRange (machine, past) = no_job _ machine past
    clean_found MomentTooLarge (are, late) = of_shop MomentTooLarge _ are (late_found c t NotExpected MomentTooLarge late)
    clean_found (Backwards last) (are, range, back, is) = of_shop (Backwards last) _ are (late_found c t NotExpected (Backwards last) (range, back, is))
    clean_found NotExpected (are, moment, not_after) = of_shop NotExpected _ are (other_found c t NotExpected moment)
    clean_found StepOutOfRange bad = absurd bad
    clean_found WrongKind bad = absurd bad
    clean_found (WrongMachine actual) bad = absurd bad

    module _ (k : ℕ) where
      abbrev found_after : ReportFault
      found_after = found_clean (cond (nat_lt k (steps p j)) (in_time c t NotExpected) StepOutOfRange)

      in_route : (fault : ReportFault) → AreOfShop p m j → k < steps p j → fault ≡ in_time c t NotExpected → fault ≡ found_after
      in_route fault are step is = of_shop fault _ are (rw (lt-ltb k (steps p j) step) is)

      step_clean_found : (fault : ReportFault) → IsFirstStepCleanReason p c m j k t fault → fault ≡ found_after
      step_clean_found MachineOutOfRange past = no_machine _ past
      step_clean_found JobOutOfRange (machine, past) = no_job _ machine past
      step_clean_found StepOutOfRange (are, past) = of_shop StepOutOfRange _ are (rw (le-ltb k (steps p j) past) refl)
      step_clean_found MomentTooLarge ((are, step), late) = in_route MomentTooLarge are step (late_found c t NotExpected MomentTooLarge late)
      step_clean_found (Backwards last) ((are, step), range, back, is) = in_route (Backwards last) are step (late_found c t NotExpected (Backwards last) (range, back, is))
      step_clean_found NotExpected ((are, step), moment, not_after) = in_route NotExpected are step (other_found c t NotExpected moment)
      step_clean_found WrongKind bad = absurd bad
      step_clean_found (WrongMachine actual) bad = absurd bad

  module _ (m j t : ℕ) (shaped : IsWellShaped p) (sound : IsSound p c) where
    clean_reason-cannot : (fault : ReportFault) → IsFirstCleanReason p c m j t fault → CanCleanAfter p c m j t → ⊥
    clean_reason-cannot MachineOutOfRange past can = omega (arith, past, cleaned_machine p c m j shaped sound can.after)
    clean_reason-cannot JobOutOfRange (machine, past) can = omega (arith, past, cleaned_job p c m j shaped sound can.after)
    clean_reason-cannot MomentTooLarge (are, late) can = omega (arith, late, can.moment.in_range)
    clean_reason-cannot (Backwards last) (are, range, back, is) can = omega (arith, back, can.moment.in_order)
    clean_reason-cannot NotExpected (are, moment, not_after) can = not_after can.after
    clean_reason-cannot StepOutOfRange reason can = reason
    clean_reason-cannot WrongKind reason can = reason
    clean_reason-cannot (WrongMachine actual) reason can = reason

    step_clean_reason-cannot : (k : ℕ) (fault : ReportFault) → IsFirstStepCleanReason p c m j k t fault → CanCleanAfterStep p c m j k t → ⊥
    step_clean_reason-cannot k MachineOutOfRange past can = omega (arith, past, cleaned_machine p c m j shaped sound (step_after p c m j k can.after))
    step_clean_reason-cannot k JobOutOfRange (machine, past) can = omega (arith, past, cleaned_job p c m j shaped sound (step_after p c m j k can.after))
    step_clean_reason-cannot k StepOutOfRange (are, past) can = omega (arith, past, can.after.last_in.visits.within)
    step_clean_reason-cannot k MomentTooLarge (are, late) can = omega (arith, late, can.moment.in_range)
    step_clean_reason-cannot k (Backwards last) (are, range, back, is) can = omega (arith, back, can.moment.in_order)
    step_clean_reason-cannot k NotExpected (are, moment, not_after) can = not_after can.after
    step_clean_reason-cannot k WrongKind reason can = reason
    step_clean_reason-cannot k (WrongMachine actual) reason can = reason

  -- ---- any claim

  -- what has a first reason against it isn't possible
  pub claim_reason-cannot : (claim : Claim) (fault : ReportFault) → IsWellShaped p → IsSound p c → IsClaimReason p c claim fault → CanClaim p c claim → ⊥
  claim_reason-cannot (Report r) fault shaped sound reason can = reason-cannot p c r fault sound reason can
  claim_reason-cannot (CleanAfter m j t) fault shaped sound reason can = clean_reason-cannot m j t shaped sound fault reason can
  claim_reason-cannot (FinishStep j k t) fault shaped sound reason can = step_reason-cannot j k t fault reason can
  claim_reason-cannot (CleanAfterStep m j k t) fault shaped sound reason can = step_clean_reason-cannot m j t shaped sound k fault reason can

  -- and it is the only one
  pub only_claim_reason : (claim : Claim) (fault : ReportFault) → IsClaimReason p c claim fault → IsOnlyClaimReason p c claim fault
  only_claim_reason (Report r) fault first other reason = only_reason p c r fault first other reason
  only_claim_reason (CleanAfter m j t) fault first other reason = clean_found m j t other reason ∙ sym (clean_found m j t fault first)
  only_claim_reason (FinishStep j k t) fault first other reason = step_found j k t other reason ∙ sym (step_found j k t fault first)
  only_claim_reason (CleanAfterStep m j k t) fault first other reason = step_clean_found m j t k other reason ∙ sym (step_clean_found m j t k fault first)
