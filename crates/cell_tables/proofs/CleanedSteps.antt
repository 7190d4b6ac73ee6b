-- The step after which a machine is being cleaned: the latest of the job's steps on it that the job has entered.
use Rattle.std.proofs.Common.{◌≡◌, ℕ, zero, suc, ◌-◌, ◌<◌, ◌≤◌, false, length, Option, None, Some, ◌⊎◌, inl, inr, sym, ◌∙◌, ap, subst, arith, length-append}
use Rattle.std.proofs.lemmas.Bool.{cases_order, cases_Bool, false≢true}
use Rattle.shop_base.specs.{Plan.{PlannedShop, jobs, machines, steps, order, Visits, Stands, IsWellShaped}, Cell.{Cell, made, entries}, Sound.IsSound}
use Rattle.shop_base.proofs.{Visits.{visits-stands, stands_step, stands_in_turn}, Places.stands_at, Sizes.place_job, InShop.cleaned_in_shop}
use Rattle.shop_base.proofs.CellTests.{visits_test, visits_decides}
use Rattle.cell_tables.specs.{Readings.{IsCleanedAfter, IsCleanedAfterStep, IsLatestOn, IsLatestStep}, Standings.latest_on}

-- no more jobs have entered a machine than its order has
pub entered_few : (p : PlannedShop) (c : Cell) (m : ℕ) → IsSound p c → length (entries c m) ≤ length (order p m)
entered_few p c m sound = let (rest, is) = sound.in_order m in omega (arith, ap length is, length-append (entries c m) rest)

-- no such step is past the job's route
pub latest_on_few : (p : PlannedShop) (j m n : ℕ) → latest_on p j m n ≤ steps p j
latest_on_few p j m zero = omega arith
latest_on_few p j m (suc k) = elim (cases_Bool (visits_test p j k m)) [
  | inl is ↦ (let visits = (visits_decides p j k m).0 is in rw is (omega (arith, visits.within)))
  | inr is ↦ rw is (latest_on_few p j m k)
]

-- the latest of a job's steps on a machine, of which there is one
pub latest_on_is : (p : PlannedShop) (j m n k : ℕ) → k < n → Visits p j k m → ((l : ℕ) → l < n → Visits p j l m → l ≤ k) → latest_on p j m n ≡ k
latest_on_is p j m zero k within visits latest = absurd (omega (arith, within))
latest_on_is p j m (suc i) k within visits latest = elim (cases_Bool (visits_test p j i m)) [
  | inl is ↦ (let upto : i ≤ k = latest i (omega arith) ((visits_decides p j i m).0 is) in rw is (omega (arith, upto, within)))
  | inr is ↦ rw is (latest_on_is p j m i k (before is) visits (λ l less. latest l (omega (arith, less))))
]
  where
    before : visits_test p j i m ≡ false → k < i
    before is = elim (cases_order k i) [
      | inl same ↦ absurd (false≢true (sym is ∙ (visits_decides p j i m).1 (subst (λ x. Visits p j x m) same visits)))
      | inr (inl less) ↦ less
      | inr (inr more) ↦ absurd (omega (arith, more, within))
    ]

module _ (p : PlannedShop) (c : Cell) (m j : ℕ) (shaped : IsWellShaped p) (sound : IsSound p c) (after : IsCleanedAfter p c m j) where
  abbrev last : ℕ
  last = length (entries c m) - 1

  some : 0 < length (entries c m)
  some = sound.cleaned_entered m after.from after.is_cleaned

  within : last < length (order p m)
  within = omega (arith, some, entered_few p c m sound)

  -- that machine, and the job, are of the shop
  pub cleaned_machine : m < machines p
  cleaned_machine = cleaned_in_shop p c m after.from sound after.is_cleaned

  pub cleaned_job : j < jobs p
  cleaned_job = subst (λ i. i < jobs p) after.last_in (place_job p shaped m last cleaned_machine within)

  -- there is such a step
  pub cleaned_step : (k : ℕ) × IsCleanedAfterStep p c m j k
  cleaned_step =
      let (k, stands) = stands_at p m last shaped cleaned_machine within in
      (k, record { from = after.from; is_cleaned = after.is_cleaned; last_in = subst (λ i. Stands p m last i k) after.last_in stands })

  -- which the job has entered
  pub cleaned_entered : (k : ℕ) → IsCleanedAfterStep p c m j k → k < made c j
  cleaned_entered k is = sound.entered_made m last j k is.last_in (omega (arith, some))

  same_step : (k l : ℕ) → IsLatestOn p c j m k → IsCleanedAfterStep p c m j l → l ≡ k
  same_step k l latest is = go (cases_order b last)
    where
      place : (b : ℕ) × Stands p m b j k
      place = visits-stands p j k m shaped latest.visits

      b : ℕ
      b = place.0

      entered : b < length (entries c m)
      entered = sound.made_entered m b j k place.1 latest.entered

      upto : l ≤ k
      upto = latest.latest l (cleaned_entered l is) is.last_in.visits

      go : (b ≡ last) ⊎ ((b < last) ⊎ (last < b)) → l ≡ k
      go (inl same) = stands_step p m last j l k is.last_in (subst (λ a. Stands p m a j k) same place.1)
      go (inr (inl less)) = absurd (omega (arith, upto, stands_in_turn p m b last j k l place.1 is.last_in less))
      go (inr (inr more)) = absurd (omega (arith, more, entered))

  -- it is the latest on the machine
  pub latest_is : (k : ℕ) → IsLatestOn p c j m k → IsCleanedAfterStep p c m j k
  latest_is k latest = let (l, is) = cleaned_step in subst (IsCleanedAfterStep p c m j) (same_step k l latest is) is

  -- and the latest by its number
  pub shown_latest : (step : Option ℕ) → IsLatestStep p c j m step → step ≡ Some (latest_on p j m (made c j))
  shown_latest None none = let (k, is) = cleaned_step in absurd (none k (cleaned_entered k is) is.last_in.visits)
  shown_latest (Some k) latest = ap Some (sym (latest_on_is p j m (made c j) k latest.entered latest.visits latest.latest))

-- a step after which a machine is being cleaned is one of its job's
pub step_after : (p : PlannedShop) (c : Cell) (m j k : ℕ) → IsCleanedAfterStep p c m j k → IsCleanedAfter p c m j
step_after p c m j k is = record { from = is.from; is_cleaned = is.is_cleaned; last_in = is.last_in.job }
