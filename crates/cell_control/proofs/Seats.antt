-- Where a job is, as it is read: on a machine, outside, or on no machine that there is.
use Rattle.std.proofs.{Common.{◌≡◌, ℕ, ◌-◌, ◌≤◌, [], length, ap, Option, None, Some, refl, sym, ◌∙◌, arith, ◌⊎◌, inl, inr}, lemmas.{Bool.cases_eq, List.get_or_past}}
use Rattle.std.specs.Prelude.{MatchOption}
use Rattle.shop_base.specs.{declared.move_order.Spot.TheVariants.{Out, At}, Plan.{PlannedShop, jobs, machines, steps, machine_of, IsWellShaped}}
use Rattle.shop_base.specs.{declared.job_state.JobState.JobState, Cell.{Cell, made, absent, IsOutside, IsOn, IsGone, IsFree}, Move.source, Sound.IsSound}
use Rattle.shop_base.proofs.{Visits.visits_machine, CellFacts.{source_on, source_outside}}

-- a job has its source on a machine exactly where it is on it
pub on_source : (p : PlannedShop) (c : Cell) (j m : ℕ) → made c j ≤ steps p j → source p c j ≡ At m → IsOn p c j (made c j - 1) m
on_source p c j m within is = go (cases_eq (made c j) 0)
  where
    go : (made c j ≡ 0) ⊎ (made c j ≡ 0 → ⊥) → IsOn p c j (made c j - 1) m
    go (inl outside) = absurd (differ (source_outside p c j outside))
      where
        differ : source p c j ≡ Out → ⊥
        differ out = cc
    go (inr inside) =
        let k : ℕ = made c j - 1 in
        let on : IsOn p c j k (machine_of p j k) = record { entered = omega (arith, inside); visits = record { within = omega (arith, inside); here = refl } } in
        let same : At (machine_of p j k) ≡ At m = sym (source_on p c j k (machine_of p j k) on) ∙ is in
        record { entered = on.entered; visits = record { within = on.visits.within; here = cc } }

pub outside_source : (p : PlannedShop) (c : Cell) (j : ℕ) → made c j ≤ steps p j → source p c j ≡ Out → IsOutside c j
outside_source p c j within is = go (cases_eq (made c j) 0)
  where
    go : (made c j ≡ 0) ⊎ (made c j ≡ 0 → ⊥) → IsOutside c j
    go (inl outside) = outside
    go (inr inside) =
        let k : ℕ = made c j - 1 in
        let on : IsOn p c j k (machine_of p j k) = record { entered = omega (arith, inside); visits = record { within = omega (arith, inside); here = refl } } in
        absurd (differ k (source_on p c j k (machine_of p j k) on))
      where
        differ : (k : ℕ) → source p c j ≡ At (machine_of p j k) → ⊥
        differ k at = cc

-- of the machine that a job is on, whichever its step
pub held_at : (p : PlannedShop) (c : Cell) (m : ℕ) (holder : Option ℕ) → MatchOption holder (IsFree p c m) (λ j. IsOn p c j (made c j - 1) m)
    → MatchOption holder (IsFree p c m) (λ j. (k : ℕ) × IsOn p c j k m)
held_at p c m None free = free
held_at p c m (Some j) on = (made c j - 1, on)

-- nobody is on a machine past the last
pub past-free : (p : PlannedShop) (c : Cell) (m : ℕ) → IsWellShaped p → machines p ≤ m → IsFree p c m
past-free p c m shaped past j k on = absurd (omega (arith, visits_machine p j k m shaped on.visits))

-- a number past the last job's counts as that of a gone one
pub past_gone : (p : PlannedShop) (c : Cell) (j : ℕ) → IsSound p c → jobs p ≤ j → IsGone p c j
past_gone p c j sound past =
    omega (arith, ap (λ (s : JobState). s.made) (get_or_past c.jobs j absent (omega (arith, sound.job_count, past))), ap length (get_or_past p.shop.routes j [] past))
