-- In a sound cell it is decided what can happen: who is on a machine, which job can move and keep the plan, which report is possible.
use Rattle.std.proofs.Common.{◌≡◌, ℕ, zero, suc, ◌+◌, ◌<◌, ◌≤◌, [], ◌∷◌, ◌++◌, length, Option, None, Some, Bool, true, false, ◌⊎◌, inl, inr, refl, sym, ◌∙◌, ap, subst, arith}
use Rattle.std.proofs.lemmas.Bool.{cases_lt, cases_eq}
use Rattle.shop_base.specs.declared.limits.TheConstants.{MAX_MOMENT}
use Rattle.shop_base.specs.declared.report.Report.{Report}
use Rattle.shop_base.specs.Plan.{PlannedShop, steps, machine_of, release, nominal, clean, order, job_at, Visits, Stands, IsWellShaped}
use Rattle.shop_base.specs.Cell.{Cell, made, ready, since, entries, cleaning, IsOn, IsFree}
use Rattle.shop_base.specs.Activity.{Activity, Arrival, Operation, Cleaning, GoesOn}
use Rattle.shop_base.specs.Report.{ended, at, IsNextMoment, CanReport}
use Rattle.shop_base.specs.Move.{CanLeave, CanEnter, CanMove, IsPrefix, KeepsPlan}
use Rattle.shop_base.specs.Sound.{IsSound}
use Rattle.shop_base.proofs.Visits.{visits-stands, stands_once, visits_or_not, on_or_not, leaves_past, past_leaves}
use Rattle.shop_base.proofs.Places.{prefix_grows}
use Rattle.shop_base.proofs.Keeping.{target_place}

-- the move of a job that is next in the order of the machine that it enters keeps the plan
pub stands-keeps : (p : PlannedShop) (c : Cell) (j m : ℕ) → IsSound p c → Stands p m (length (entries c m)) j (made c j) → KeepsPlan p c j
stands-keeps p c j m sound stands n visits =
    subst (λ x. IsPrefix (entries c x ++ j ∷ []) (order p x)) (sym stands.visits.here ∙ visits.here)
    (prefix_grows (entries c m) (order p m) j (sound.in_order m) stands.within stands.job)

-- a leaving keeps the plan
pub leaving-keeps : (p : PlannedShop) (c : Cell) (j : ℕ) → steps p j ≤ made c j → KeepsPlan p c j
leaving-keeps p c j past m visits = absurd (omega (arith, visits.within))

pub moment_now : (p : PlannedShop) (c : Cell) → IsSound p c → IsNextMoment c c.last
moment_now p c sound = record { in_order = omega arith; in_range = sound.last_in_range }

-- a move that is possible at one moment is possible at each that can be the next
pub move_at : (p : PlannedShop) (c : Cell) (j t u : ℕ) → CanMove p c j t → IsNextMoment c u → CanMove p c j u
move_at p c j t u can moment = record { is_ready = can.is_ready; way = can.way; moment = moment }

-- a machine is free, or a job is on it, the newest entrant
pub free_or_held : (p : PlannedShop) (c : Cell) (m : ℕ) → IsWellShaped p → IsSound p c → IsFree p c m ⊎ ((j : ℕ) × (k : ℕ) × IsOn p c j k m)
free_or_held p c m shaped sound = go (length (entries c m)) refl
  where
    newest : (j k : ℕ) → IsOn p c j k m → (a : ℕ) × Stands p m a j k × (length (entries c m) ≡ a + 1)
    newest j k on = let (a, stands) = visits-stands p j k m shaped on.visits in (a, stands, sound.newest m a j k stands on.entered)

    go : (n : ℕ) → length (entries c m) ≡ n → IsFree p c m ⊎ ((j : ℕ) × (k : ℕ) × IsOn p c j k m)
    go zero is = inl λ j k on. absurd (omega (arith, (newest j k on).2))
    go (suc a) is = last (on_or_not p c (job_at p m a) m)
      where
        last : ((k : ℕ) × IsOn p c (job_at p m a) k m) ⊎ ((k : ℕ) → IsOn p c (job_at p m a) k m → ⊥) → IsFree p c m ⊎ ((j : ℕ) × (k : ℕ) × IsOn p c j k m)
        last (inl (k, on)) = inr (job_at p m a, k, on)
        last (inr off) = inl λ j k on.
            let place : (newest j k on).0 ≡ a = omega (arith, (newest j k on).2) in
            off k (subst (λ x. IsOn p c x k m) (sym (newest j k on).1.job ∙ ap (job_at p m) place) on)

pub clean_or_not : (c : Cell) (m : ℕ) → (cleaning c m ≡ None) ⊎ ((s : ℕ) × (cleaning c m ≡ Some s))
clean_or_not c m = go (cleaning c m) refl
  where
    go : (o : Option ℕ) → cleaning c m ≡ o → (cleaning c m ≡ None) ⊎ ((s : ℕ) × (cleaning c m ≡ Some s))
    go None is = inl is
    go (Some s) is = inr (s, is)

pub enters_or_not : (p : PlannedShop) (c : Cell) (j m : ℕ) → IsWellShaped p → IsSound p c → CanEnter p c j m ⊎ (CanEnter p c j m → ⊥)
enters_or_not p c j m shaped sound = go (visits_or_not p j (made c j) m) (free_or_held p c m shaped sound) (clean_or_not c m)
  where
    go : Visits p j (made c j) m ⊎ (Visits p j (made c j) m → ⊥) → IsFree p c m ⊎ ((i : ℕ) × (k : ℕ) × IsOn p c i k m)
        → (cleaning c m ≡ None) ⊎ ((s : ℕ) × (cleaning c m ≡ Some s)) → CanEnter p c j m ⊎ (CanEnter p c j m → ⊥)
    go (inl next) (inl free) (inl is_clean) = inl (record { next = next; free = free; is_clean = is_clean })
    go (inl next) (inl free) (inr (s, cleaned)) = inr λ can. absurd (differ can.is_clean)
      where
        differ : cleaning c m ≡ None → ⊥
        differ is_clean = cc
    go (inl next) (inr (i, k, on)) cleaned = inr λ can. can.free i k on
    go (inr elsewhere) free cleaned = inr λ can. elsewhere can.next

-- job j can leave or can enter some machine
abbrev pub HasWay : PlannedShop → Cell → ℕ → Type 0
HasWay p c j = CanLeave p c j ⊎ ((m : ℕ) × CanEnter p c j m)

pub way_or_not : (p : PlannedShop) (c : Cell) (j : ℕ) → IsWellShaped p → IsSound p c → HasWay p c j ⊎ (HasWay p c j → ⊥)
way_or_not p c j shaped sound = go (cases_lt (made c j) (steps p j)) (enters_or_not p c j (machine_of p j (made c j)) shaped sound)
  where
    go : (made c j < steps p j) ⊎ (steps p j ≤ made c j)
        → CanEnter p c j (machine_of p j (made c j)) ⊎ (CanEnter p c j (machine_of p j (made c j)) → ⊥) → HasWay p c j ⊎ (HasWay p c j → ⊥)
    go (inr past) enters = inl (inl (past_leaves p c j past))
    go (inl within) (inl enters) = inl (inr (machine_of p j (made c j), enters))
    go (inl within) (inr cannot) = inr none
      where
        none : HasWay p c j → ⊥
        none (inl leaves) = absurd (omega (arith, leaves_past p c j leaves))
        none (inr (m, enters)) = cannot (subst (CanEnter p c j) (sym enters.next.here) enters)

pub keeps_or_not : (p : PlannedShop) (c : Cell) (j : ℕ) → IsWellShaped p → IsSound p c → KeepsPlan p c j ⊎ (KeepsPlan p c j → ⊥)
keeps_or_not p c j shaped sound = go (cases_lt (made c j) (steps p j))
  where
    go : (made c j < steps p j) ⊎ (steps p j ≤ made c j) → KeepsPlan p c j ⊎ (KeepsPlan p c j → ⊥)
    go (inr past) = inl (leaving-keeps p c j past)
    go (inl within) = here (cases_eq (length (entries c m)) place.0)
      where
        m : ℕ
        m = machine_of p j (made c j)

        visits : Visits p j (made c j) m
        visits = record { within = within; here = refl }

        place : (a : ℕ) × Stands p m a j (made c j)
        place = visits-stands p j (made c j) m shaped visits

        here : (length (entries c m) ≡ place.0) ⊎ (length (entries c m) ≡ place.0 → ⊥) → KeepsPlan p c j ⊎ (KeepsPlan p c j → ⊥)
        here (inl same) = inl (stands-keeps p c j m sound (subst (λ a. Stands p m a j (made c j)) (sym same) place.1))
        here (inr other) = inr λ keeps. other (stands_once p m (length (entries c m)) place.0 j (made c j) (target_place p c j m shaped sound keeps visits) place.1)

pub moment_or_not : (c : Cell) (t : ℕ) → IsNextMoment c t ⊎ (IsNextMoment c t → ⊥)
moment_or_not c t = go (cases_lt t c.last) (cases_lt MAX_MOMENT t)
  where
    go : (t < c.last) ⊎ (c.last ≤ t) → (MAX_MOMENT < t) ⊎ (t ≤ MAX_MOMENT) → IsNextMoment c t ⊎ (IsNextMoment c t → ⊥)
    go (inl before) range = inr λ moment. absurd (omega (arith, moment.in_order))
    go (inr in_order) (inl late) = inr λ moment. absurd (omega (arith, moment.in_range))
    go (inr in_order) (inr in_range) = inl (record { in_order = in_order; in_range = in_range })

-- a job can move and keep the plan, or it can't
pub moves_or_not : (p : PlannedShop) (c : Cell) (j t : ℕ) → IsWellShaped p → IsSound p c → (CanMove p c j t × KeepsPlan p c j) ⊎ (CanMove p c j t × KeepsPlan p c j → ⊥)
moves_or_not p c j t shaped sound = go (ready c j) refl (way_or_not p c j shaped sound) (moment_or_not c t) (keeps_or_not p c j shaped sound)
  where
    go : (b : Bool) → ready c j ≡ b → HasWay p c j ⊎ (HasWay p c j → ⊥) → IsNextMoment c t ⊎ (IsNextMoment c t → ⊥)
        → KeepsPlan p c j ⊎ (KeepsPlan p c j → ⊥) → (CanMove p c j t × KeepsPlan p c j) ⊎ (CanMove p c j t × KeepsPlan p c j → ⊥)
    go true is_ready (inl way) (inl moment) (inl keeps) = inl (record { is_ready = is_ready; way = way; moment = moment }, keeps)
    go true is_ready (inl way) (inl moment) (inr breaks) = inr λ both. breaks both.1
    go true is_ready (inl way) (inr untimely) keeps = inr λ both. untimely both.0.moment
    go true is_ready (inr none) moment keeps = inr λ both. none both.0.way
    go false idle way moment keeps = inr λ both. absurd (differ both.0.is_ready)
      where
        differ : ready c j ≡ true → ⊥
        differ is_ready = cc

-- an activity is going on, or it isn't
pub going_or_not : (p : PlannedShop) (c : Cell) (a : Activity) → ((due : ℕ) × GoesOn p c a due) ⊎ ((due : ℕ) × GoesOn p c a due → ⊥)
going_or_not p c (Arrival j) = go (cases_eq (made c j) 0) (ready c j) refl
  where
    go : (made c j ≡ 0) ⊎ (made c j ≡ 0 → ⊥) → (b : Bool) → ready c j ≡ b → ((due : ℕ) × GoesOn p c (Arrival j) due) ⊎ ((due : ℕ) × GoesOn p c (Arrival j) due → ⊥)
    go (inl outside) false idle = inl (release p j, record { outside = outside; not_ready = idle; is_due = refl })
    go (inl outside) true is_ready = inr λ some. absurd (differ some.1.not_ready)
      where
        differ : ready c j ≡ false → ⊥
        differ idle = cc
    go (inr inside) b is = inr λ some. inside some.1.outside
going_or_not p c (Operation j m) = go (on_or_not p c j m) (ready c j) refl
  where
    go : ((k : ℕ) × IsOn p c j k m) ⊎ ((k : ℕ) → IsOn p c j k m → ⊥) → (b : Bool) → ready c j ≡ b → ((due : ℕ) × GoesOn p c (Operation j m) due) ⊎ ((due : ℕ) × GoesOn p c (Operation j m) due → ⊥)
    go (inl (k, on)) false idle = inl (since c j + nominal p j k, (k, record { on = on; not_ready = idle; is_due = refl }))
    go (inl (k, on)) true is_ready = inr λ some. absurd (differ some.1.1.not_ready)
      where
        differ : ready c j ≡ false → ⊥
        differ idle = cc
    go (inr off) b is = inr λ some. off some.1.0 some.1.1.on
going_or_not p c (Cleaning m) = go (clean_or_not c m)
  where
    go : (cleaning c m ≡ None) ⊎ ((s : ℕ) × (cleaning c m ≡ Some s)) → ((due : ℕ) × GoesOn p c (Cleaning m) due) ⊎ ((due : ℕ) × GoesOn p c (Cleaning m) due → ⊥)
    go (inr (s, cleaned)) = inl (s + clean p m, (s, record { is_cleaned = cleaned; is_due = refl }))
    go (inl is_clean) = inr λ some. absurd (differ some.1.0 some.1.1.is_cleaned)
      where
        differ : (s : ℕ) → cleaning c m ≡ Some s → ⊥
        differ s cleaned = cc

-- a report is possible, or it isn't
pub reports_or_not : (p : PlannedShop) (c : Cell) (r : Report) → CanReport p c r ⊎ (CanReport p c r → ⊥)
reports_or_not p c r = go (going_or_not p c (ended r)) (moment_or_not c (at r))
  where
    go : ((due : ℕ) × GoesOn p c (ended r) due) ⊎ ((due : ℕ) × GoesOn p c (ended r) due → ⊥) → IsNextMoment c (at r) ⊎ (IsNextMoment c (at r) → ⊥) → CanReport p c r ⊎ (CanReport p c r → ⊥)
    go (inl going) (inl moment) = inl (record { going = going; moment = moment })
    go (inl going) (inr untimely) = inr λ can. untimely can.moment
    go (inr none) moment = inr λ can. none can.going
