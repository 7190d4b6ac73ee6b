-- The axis of time: where a moment lies, and which moments are named.
use Rattle.std.specs.Prelude.{◌≡◌, ℕ, zero, suc, ◌+◌, ◌*◌, ◌/◌, ◌%◌, ◌==◌, ◌<◌, ◌≤◌, min, max, Bool, List, [], ◌∷◌, ◌++◌, length, map, filter, Option, None, Some}
use Rattle.std.specs.List.{range_with_len}
use Rattle.people_names.specs.declared.clock.Clock.{Clock}
use Rattle.people_names.specs.declared.clock.Clock.TheVariants.{Minutes, Seconds}

-- where moment t lies on the axis, in tenths of a pixel: from 700 for moment 0 to 11500 for the last moment
abbrev pub x_at : ℕ → ℕ → ℕ
x_at last t = 700 + min t last * 10800 / max last 1

-- the round numbers, ascending: 1, 2, 5, 10, 20, 50, ..
abbrev pub round : ℕ → ℕ
round zero = 1
round (suc zero) = 2
round (suc (suc zero)) = 5
round (suc (suc (suc k))) = round k * 10

-- the steps below a minute in seconds, or below an hour in minutes
abbrev pub sixtieths : List ℕ
sixtieths = 1 ∷ 2 ∷ 5 ∷ 10 ∷ 15 ∷ 20 ∷ 30 ∷ []

-- the steps below a day in hours
abbrev pub hours : List ℕ
hours = 1 ∷ 2 ∷ 3 ∷ 4 ∷ 6 ∷ 12 ∷ []

-- those below a day in minutes, ascending, and in seconds
abbrev pub minute_steps : List ℕ
minute_steps = sixtieths ++ map (λ h. 60 * h) hours

abbrev pub second_steps : List ℕ
second_steps = sixtieths ++ map (λ m. 60 * m) minute_steps

-- the steps below a day of a clock, in moments; without a clock there is no day
abbrev pub short_steps : Option Clock → List ℕ
short_steps None = []
short_steps (Some (Minutes begin)) = minute_steps
short_steps (Some (Seconds begin)) = second_steps

-- how many moments the unit of the other steps has: a day, or without a clock a moment
abbrev pub long_unit : Option Clock → ℕ
long_unit None = 1
long_unit (Some (Minutes begin)) = 1440
long_unit (Some (Seconds begin)) = 86400

-- the k-th of the short steps, and then of round numbers of units
abbrev pub step_in : List ℕ → ℕ → ℕ → ℕ
step_in [] unit k = unit * round k
step_in (step ∷ steps) unit zero = step
step_in (step ∷ steps) unit (suc k) = step_in steps unit k

-- the steps, ascending: without a clock 1, 2, 5, 10, .. moments; by a clock those below a day, and then 1, 2, 5, 10, .. days
abbrev pub axis_step_at : Option Clock → ℕ → ℕ
axis_step_at clock k = step_in (short_steps clock) (long_unit clock) k

-- how many moments after midnight moment 0 is
abbrev pub begin_of : Option Clock → ℕ
begin_of None = 0
begin_of (Some (Minutes begin)) = begin
begin_of (Some (Seconds begin)) = begin

-- whether moment t is a multiple of a step, counted from midnight
abbrev pub is_tick : ℕ → ℕ → ℕ → Bool
is_tick begin step t = (begin + t) % step == 0

-- the moments up to the last one that are
abbrev pub ticks_by : ℕ → ℕ → ℕ → List ℕ
ticks_by begin last step = filter (is_tick begin step) (range_with_len 0 (last + 1))

-- so of a clock
abbrev pub ticks_of : Option Clock → ℕ → ℕ → List ℕ
ticks_of clock last step = ticks_by (begin_of clock) last step

-- the moments that the axis names: the multiples of the least step of which there are at most ten up to the last moment
pub record AreTicks (clock : Option Clock) (last : ℕ) (ticks : List ℕ) : Type 0 where
  pub place : ℕ
  pub are : ticks ≡ ticks_of clock last (axis_step_at clock place)
  pub few : length ticks ≤ 10
  pub least : (k : ℕ) → k < place → 10 < length (ticks_of clock last (axis_step_at clock k))
