-- What the readers of a cell give: who is where, and who can move.
use Rattle.std.specs.Prelude.{◌≡◌, ℕ, ◌-◌, ◌<◌, ◌≤◌, ◌⊎◌, length, Option, None, Some, MatchOption}
use Rattle.shop_base.specs.Plan.{PlannedShop, order, job_at, Stands, Visits}
use Rattle.shop_base.specs.Cell.{Cell, made, entries, cleaning, IsOutside, IsOn, IsGone, IsFree}
use Rattle.shop_base.specs.Move.{CanEnter, CanMove, KeepsPlan}

-- this is the machine that job j is on, by its last move; none where j is outside or gone
abbrev pub IsMachineOf : PlannedShop → Cell → ℕ → Option ℕ → Type 0
IsMachineOf p c j machine = MatchOption machine (IsOutside c j ⊎ IsGone p c j) (IsOn p c j (made c j - 1))

-- this is the step at which job j is, on a machine; none where j is outside or gone
abbrev pub IsCurrentStep : PlannedShop → Cell → ℕ → Option ℕ → Type 0
IsCurrentStep p c j step = MatchOption step (IsOutside c j ⊎ IsGone p c j) (λ k. (m : ℕ) × IsOn p c j k m)

-- this is the job that is on machine m, by the job's last move; none where m is free
abbrev pub IsHolder : PlannedShop → Cell → ℕ → Option ℕ → Type 0
IsHolder p c m holder = MatchOption holder (IsFree p c m) (λ j. IsOn p c j (made c j - 1) m)

-- this is the job that is to enter machine m next; none where all jobs of its order have entered it
abbrev pub IsNextOn : PlannedShop → Cell → ℕ → Option ℕ → Type 0
IsNextOn p c m next =
    MatchOption next (length (order p m) ≤ length (entries c m)) (λ j. (length (entries c m) < length (order p m)) × (job_at p m (length (entries c m)) ≡ j))

-- machine m is being cleaned after job j, which is the last that entered it
pub record IsCleanedAfter (p : PlannedShop) (c : Cell) (m j : ℕ) : Type 0 where
  pub from : ℕ
  pub is_cleaned : cleaning c m ≡ Some from
  pub last_in : job_at p m (length (entries c m) - 1) ≡ j

-- machine m is being cleaned after step k of job j, for which it was entered last
pub record IsCleanedAfterStep (p : PlannedShop) (c : Cell) (m j k : ℕ) : Type 0 where
  pub from : ℕ
  pub is_cleaned : cleaning c m ≡ Some from
  pub last_in : Stands p m (length (entries c m) - 1) j k

-- this is the job after which machine m is being cleaned; none where it isn't
abbrev pub IsCleanedFor : PlannedShop → Cell → ℕ → Option ℕ → Type 0
IsCleanedFor p c m job = MatchOption job (cleaning c m ≡ None) (IsCleanedAfter p c m)

-- this is the job, and the step, after which machine m is being cleaned; none where it isn't
abbrev pub IsCleanedForStep : PlannedShop → Cell → ℕ → Option (ℕ × ℕ) → Type 0
IsCleanedForStep p c m found = MatchOption found (cleaning c m ≡ None) (λ step. IsCleanedAfterStep p c m step.0 step.1)

-- step k of job j is on machine m, and the latest such step that the job has entered
pub record IsLatestOn (p : PlannedShop) (c : Cell) (j m k : ℕ) : Type 0 where
  pub visits : Visits p j k m
  pub entered : k < made c j
  pub latest : (l : ℕ) → l < made c j → Visits p j l m → l ≤ k

-- this is the latest step of job j on machine m that it has entered; none where it has entered none
abbrev pub IsLatestStep : PlannedShop → Cell → ℕ → ℕ → Option ℕ → Type 0
IsLatestStep p c j m step = MatchOption step ((l : ℕ) → l < made c j → Visits p j l m → ⊥) (IsLatestOn p c j m)

-- job j can enter machine m, in whose order it is the next
abbrev pub EntersNext : PlannedShop → Cell → ℕ → ℕ → Type 0
EntersNext p c j m = CanEnter p c j m × Stands p m (length (entries c m)) j (made c j)

-- job j can move at the last moment and keep the plan
abbrev pub CanMoveNow : PlannedShop → Cell → ℕ → Type 0
CanMoveNow p c j = CanMove p c j c.last × KeepsPlan p c j
