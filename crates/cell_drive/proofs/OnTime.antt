-- Where nothing that goes on should have ended before a moment, nothing is found overdue.
use Rattle.std.proofs.Common.{◌≡◌, ℕ, zero, suc, ◌+◌, nat_lt, Bool, true, false, cond, Option, Some, None, le-ltb, ltb-true, refl, sym, ap, ◌∙◌, add-one}
use Rattle.shop_base.specs.Plan.{PlannedShop, jobs, machines, steps, release, nominal, clean, machine_of}
use Rattle.shop_base.specs.{Cell.{Cell, made, ready, since, cleaning}, Activity.{Arrival, Operation, Cleaning}}
use Rattle.cell_tables.specs.{declared.standing.Standing.Standing, declared.standing.Standing.TheVariants.Gone}
use Rattle.cell_tables.specs.Standings.{job_standing, machine_standing, outside_standing, inside_standing, standing_after, cleaning_standing, is_overdue}
use Rattle.cell_control.specs.Readings.{IsOnTime}
use Rattle.event_lines.specs.declared.details.Overdue.{Overdue}
use Rattle.cell_drive.specs.States.{one_more, with_those, with_machines, own_first, overdue_in}

module _ (p : PlannedShop) (c : Cell) (t : ℕ) (on_time : IsOnTime p c t) where
  outside : (j : ℕ) (is_ready : Bool) → made c j ≡ 0 → ready c j ≡ is_ready → is_overdue (outside_standing p c j is_ready) t ≡ false
  outside j true none is = refl
  outside j false none is = le-ltb (release p j) t (on_time (Arrival j) (release p j) (record { outside = none; not_ready = is; is_due = refl }))

  inside : (j k : ℕ) (is_ready within : Bool) → made c j ≡ suc k → ready c j ≡ is_ready → nat_lt k (steps p j) ≡ within
      → is_overdue (cond within (inside_standing p c j k is_ready) (Gone j (since c j))) t ≡ false
  inside j k true true entered is there = refl
  inside j k false true entered is there =
      le-ltb (since c j + nominal p j k) t (on_time (Operation j (machine_of p j k)) (since c j + nominal p j k)
      (k, record { on = record { entered = entered ∙ sym (add-one k); visits = record { within = ltb-true k (steps p j) there; here = refl } }; not_ready = is; is_due = refl }))
  inside j k is_ready false entered is there = refl

  after : (j n : ℕ) → made c j ≡ n → is_overdue (standing_after p c j n) t ≡ false
  after j zero is = outside j (ready c j) is refl
  after j (suc k) is = inside j k (ready c j) (nat_lt k (steps p j)) is refl refl

  cleaned : (m : ℕ) (since_when : Option ℕ) → cleaning c m ≡ since_when → is_overdue (cleaning_standing p c m since_when) t ≡ false
  cleaned m None is = refl
  cleaned m (Some from) is = le-ltb (from + clean p m) t (on_time (Cleaning m) (from + clean p m) (from, record { is_cleaned = is; is_due = refl }))

  none_of_those : (standing : ℕ → Standing) (k n : ℕ) → ((i : ℕ) → is_overdue (standing i) t ≡ false) → with_those t standing None k n ≡ None
  none_of_those standing k zero each = refl
  none_of_those standing k (suc n) each =
      ap (λ (is : Bool). with_those t standing (cond is (one_more None (standing k)) None) (suc k) n) (each k) ∙ none_of_those standing (suc k) n each

  pub nothing_overdue : (own : Standing) → overdue_in p c own t ≡ None
  nothing_overdue own =
      ap (λ (found : Option Overdue). own_first t own (with_machines p c t found)) (none_of_those (job_standing p c) 0 (jobs p) (λ j. after j (made c j) refl))
      ∙ ap (own_first t own) (none_of_those (machine_standing p c) 0 (machines p) (λ m. cleaned m (cleaning c m) refl))

-- so nothing is printed, in any version of the lines
pub none_printed : (version_2 : Bool) (found : Option Overdue) → found ≡ None → None ≡ cond version_2 found None
none_printed true found none = sym none
none_printed false found none = refl
