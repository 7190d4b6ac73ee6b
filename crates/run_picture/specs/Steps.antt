-- Steps between the moments that the axis names: which is the first with few of them.
use Rattle.std.specs.Prelude.{◌≡◌, ℕ, suc, ◌+◌, ◌*◌, ◌%◌, ◌<◌, ◌≤◌, List, length, map, slice_index, Option}
use Rattle.std.specs.List.{range_with_len}
use Rattle.people_names.specs.declared.clock.Clock.{Clock}
use Rattle.run_picture.specs.Axis.{round, axis_step_at, ticks_by}

-- so many moments, by a step from the first on
abbrev pub moments_by : ℕ → ℕ → ℕ → List ℕ
moments_by first step count = map (λ i. first + i * step) (range_with_len 0 count)

-- the first moment that is a multiple of a step, counted from midnight
pub record IsFirstTick (begin step first : ℕ) : Type 0 where
  pub above : 0 < step
  pub early : first < step
  pub tick : (begin + first) % step ≡ 0

-- by this step there are more than ten ticks up to the last moment
abbrev pub AreMany : ℕ → ℕ → ℕ → Type 0
AreMany begin last step = 10 < length (ticks_by begin last step)

-- by each of these steps
abbrev pub AreAllMany : ℕ → ℕ → List ℕ → Type 0
AreAllMany begin last steps = (k : ℕ) → k < length steps → AreMany begin last (slice_index steps k)

-- the first of these steps with few ticks
pub record IsFirstShort (begin last : ℕ) (steps : List ℕ) (step : ℕ) : Type 0 where
  pub place : ℕ
  pub within : place < length steps
  pub is : step ≡ slice_index steps place
  pub above : 0 < step
  pub few : length (ticks_by begin last step) ≤ 10
  pub least : (k : ℕ) → k < place → AreMany begin last (slice_index steps k)

-- the first round number of units with few ticks
pub record IsFirstLong (begin last unit step : ℕ) : Type 0 where
  pub place : ℕ
  pub is : step ≡ unit * round place
  pub above : 0 < step
  pub few : length (ticks_by begin last step) ≤ 10
  pub least : (k : ℕ) → k < place → AreMany begin last (unit * round k)

-- three round numbers of units that follow each other: by a lesser one there are many ticks
pub record AreNextSteps (begin last unit step next after : ℕ) : Type 0 where
  pub place : ℕ
  pub step_is : step ≡ unit * round place
  pub next_is : next ≡ unit * round (suc place)
  pub after_is : after ≡ unit * round (suc (suc place))
  pub above : 0 < step
  pub rises : step < next
  pub rises_more : next < after
  pub within : after < step * 10
  pub least : (k : ℕ) → k < place → AreMany begin last (unit * round k)

-- the step of an axis: the first of all with few ticks
pub record IsStep (clock : Option Clock) (begin last step : ℕ) : Type 0 where
  pub place : ℕ
  pub is : step ≡ axis_step_at clock place
  pub above : 0 < step
  pub few : length (ticks_by begin last step) ≤ 10
  pub least : (k : ℕ) → k < place → AreMany begin last (axis_step_at clock k)
