-- What a controller of a cell reads from its rows: who is on a machine, a job's source and target, who can move next, when an activity is due.
use Rattle.std.proofs.Common.{◌≡◌, ℕ, zero, suc, ◌+◌, ◌≤◌, [], length, Option, None, Some, Bool, true, false, cond, nat_lt, if◌then◌else◌, ◌⊎◌, inl, inr, refl, sym, ◌∙◌, ap, subst, arith, ltb-true, lt-ltb}
use Rattle.std.proofs.lemmas.Bool.{cases_lt}
use Rattle.shop_base.specs.declared.move_order.Spot.TheVariants.{Out, At}
use Rattle.shop_base.specs.declared.report.Report.{Report}
use Rattle.shop_base.specs.Plan.{PlannedShop, jobs, steps, machine_of, nominal, order, job_at, Visits, IsWellShaped}
use Rattle.shop_base.specs.Cell.{Cell, job_in, made, ready, since, entries, cleaning, IsOutside, IsOn, IsFree}
use Rattle.shop_base.specs.Activity.{Activity, Arrival, Operation, Cleaning, GoesOn}
use Rattle.shop_base.specs.Report.{ended, at, after_end, after_report}
use Rattle.shop_base.specs.Move.{KeepsPlan, source, target}
use Rattle.shop_base.specs.Movers.{counted, ready_count, due_after, due_of_job, due_of_cleaning}
use Rattle.shop_base.specs.Sound.{IsSound}
use Rattle.shop_base.proofs.Visits.{visits-stands, stop_at, stop_past}
use Rattle.shop_base.proofs.Cleanings.{sum_below-le}
use Rattle.shop_base.proofs.Keeping.{target_next}

-- a machine that nobody has entered is free
pub unentered_free : (p : PlannedShop) (c : Cell) (m : ℕ) → IsWellShaped p → IsSound p c → entries c m ≡ [] → IsFree p c m
unentered_free p c m shaped sound none j k on =
    let (a, stands) = visits-stands p j k m shaped on.visits in
    absurd (omega (arith, sound.newest m a j k stands on.entered, ap length none))

-- a machine whose newest entrant isn't on it is free
pub left_free : (p : PlannedShop) (c : Cell) (m a : ℕ) → IsWellShaped p → IsSound p c → length (entries c m) ≡ a + 1
    → ((k : ℕ) → IsOn p c (job_at p m a) k m → ⊥) → IsFree p c m
left_free p c m a shaped sound newest off j k on =
    let (b, stands) = visits-stands p j k m shaped on.visits in
    let place : b ≡ a = omega (arith, sound.newest m b j k stands on.entered) in
    off k (subst (λ x. IsOn p c x k m) (sym stands.job ∙ ap (job_at p m) place) on)

-- the target is the machine of the next step
pub target_visited : (p : PlannedShop) (c : Cell) (j m : ℕ) → Visits p j (made c j) m → target p c j ≡ At m
target_visited p c j m visits = stop_at p j (made c j) m visits

-- a job with no step left goes out
pub target_out : (p : PlannedShop) (c : Cell) (j : ℕ) → steps p j ≤ made c j → target p c j ≡ Out
target_out p c j past = stop_past p j (made c j) past

-- where the target is a machine, it is that of the next step
pub visits_target : (p : PlannedShop) (c : Cell) (j m : ℕ) → target p c j ≡ At m → Visits p j (made c j) m
visits_target p c j m is = elim (cases_lt (made c j) (steps p j)) [
  | inl within ↦ record { within = within; here = same (target_visited p c j (machine_of p j (made c j)) (record { within = within; here = refl })) }
  | inr past ↦ absurd (differ (target_out p c j past))
]
  where
    same : target p c j ≡ At (machine_of p j (made c j)) → machine_of p j (made c j) ≡ m
    same at = cc

    differ : target p c j ≡ Out → ⊥
    differ out = cc

-- the source of a job outside
pub source_outside : (p : PlannedShop) (c : Cell) (j : ℕ) → IsOutside c j → source p c j ≡ Out
source_outside p c j outside = rw outside refl

-- the source of a job on a machine
pub source_on : (p : PlannedShop) (c : Cell) (j k m : ℕ) → IsOn p c j k m → source p c j ≡ At m
source_on p c j k m on =
    let entered : made c j ≡ suc k = omega (arith, on.entered) in
    rw entered (stop_at p j k m on.visits)

-- where all jobs of its order have entered a machine, nobody is next
pub none_next : (p : PlannedShop) (c : Cell) (j m : ℕ) → length (order p m) ≤ length (entries c m) → Visits p j (made c j) m → KeepsPlan p c j → ⊥
none_next p c j m all visits keeps = absurd (omega (arith, (target_next p c j m keeps visits).0))

-- no more jobs are ready than there are
pub ready_count-le : (p : PlannedShop) (c : Cell) → ready_count p c ≤ jobs p
ready_count-le p c = omega (arith, sum_below-le (counted c) 1 (jobs p) λ j inside. one (ready c j))
  where
    one : (b : Bool) → cond b 1 0 ≤ 1
    one true = omega arith
    one false = omega arith

-- after a report the last moment is its moment
pub after_report-last : (c : Cell) (r : Report) → (after_report c r).last ≡ at r
after_report-last c r = go (ended r)
  where
    go : (a : Activity) → (after_end c a (at r)).last ≡ at r
    go (Arrival j) = refl
    go (Operation j m) = refl
    go (Cleaning m) = refl

-- an activity of a job that goes on is due as the job's row says
pub arrival_due : (p : PlannedShop) (c : Cell) (j due : ℕ) → GoesOn p c (Arrival j) due → due_of_job p j (job_in c j) ≡ Some due
arrival_due p c j due goes = rw (goes.not_ready, goes.outside) (ap Some (sym goes.is_due))

pub operation_due : (p : PlannedShop) (c : Cell) (j m due : ℕ) → GoesOn p c (Operation j m) due → due_of_job p j (job_in c j) ≡ Some due
operation_due p c j m due (k, goes) =
    let entered : made c j ≡ suc k = omega (arith, goes.on.entered) in
    rw (goes.not_ready, entered, lt-ltb k (steps p j) goes.on.visits.within) (ap Some (sym goes.is_due))

-- where a job's row says that it is due, its arrival goes on, or its operation on the machine where it is
pub job_due : (p : PlannedShop) (c : Cell) (j due : ℕ) → due_of_job p j (job_in c j) ≡ Some due
    → GoesOn p c (Arrival j) due ⊎ ((m : ℕ) × GoesOn p c (Operation j m) due)
job_due p c j due is = go (ready c j) refl (made c j) refl is
  where
    Goes : Type 0
    Goes = GoesOn p c (Arrival j) due ⊎ ((m : ℕ) × GoesOn p c (Operation j m) due)

    working : (k : ℕ) (b : Bool) → ready c j ≡ false → made c j ≡ suc k → nat_lt k (steps p j) ≡ b
        → (if b then Some (since c j + nominal p j k) else None) ≡ Some due → Goes
    working k true idle entered within at = inr (
      machine_of p j k,
      (
        k,
        record {
          on = record { entered = omega (arith, entered); visits = record { within = ltb-true k (steps p j) within; here = refl } };
          not_ready = idle;
          is_due = cc;
        },
      ),
    )
    working k false idle entered past at = absurd (cc)

    go : (b : Bool) → ready c j ≡ b → (n : ℕ) → made c j ≡ n → (if b then None else due_after p j n (since c j)) ≡ Some due → Goes
    go true is_ready n is at = absurd (cc)
    go false idle zero outside at = inl (record { outside = outside; not_ready = idle; is_due = cc })
    go false idle (suc k) entered at = working k (nat_lt k (steps p j)) idle entered refl at

-- the same of a cleaning
pub cleaning_due : (p : PlannedShop) (c : Cell) (m due : ℕ) → GoesOn p c (Cleaning m) due → due_of_cleaning p m (cleaning c m) ≡ Some due
cleaning_due p c m due (from, goes) = rw goes.is_cleaned (ap Some (sym goes.is_due))

pub due_cleaning : (p : PlannedShop) (c : Cell) (m due : ℕ) → due_of_cleaning p m (cleaning c m) ≡ Some due → GoesOn p c (Cleaning m) due
due_cleaning p c m due is = go (cleaning c m) refl is
  where
    go : (o : Option ℕ) → cleaning c m ≡ o → due_of_cleaning p m o ≡ Some due → GoesOn p c (Cleaning m) due
    go None cleaned at = absurd (cc)
    go (Some from) cleaned at = (from, record { is_cleaned = cleaned; is_due = cc })
