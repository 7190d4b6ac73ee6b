-- From where plans are asked about: a whole plan, or the rest of a run that has led to some cell.
use Rattle.std.specs.Prelude.{◌≡◌, ℕ, ◌≤◌, [], replicate, Some, false, List}
use Rattle.shop_base.specs.declared.limits.TheConstants.{MAX_MOMENT}
use Rattle.shop_base.specs.Plan.{PlannedShop, IsWellShaped}
use Rattle.shop_base.specs.Cell.{Cell, cleaning, unused}
use Rattle.shop_base.specs.Run.{Event, IsRun, ends_in}
use Rattle.plan_bounds.specs.Bounds.{ShopTimes, times_of, job_count}

-- a shop with releases and cleaning times, the cell to which a run has led, and the present moment
pub record Stage : Type 0 where
  pub times : ShopTimes
  pub cell : Cell
  pub present : ℕ

-- that of a plan, from a cell and a present moment on
abbrev pub stage_of : PlannedShop → Cell → ℕ → Stage
stage_of p c t = record { times = times_of p; cell = c; present = t }

-- the cell at the start of the runs of all plans with these times
abbrev pub start_in : ShopTimes → Cell
start_in t = record { jobs = replicate (job_count t) (record { made = 0; ready = false; since = 0 }); machines = replicate t.shop.machines unused; last = 0 }

-- that of a whole plan: nothing has happened, and the present moment is 0
abbrev pub stage_at_start : ShopTimes → Stage
stage_at_start t = record { times = t; cell = start_in t; present = 0 }

-- a plan with these times and no orders
abbrev pub bare : ShopTimes → PlannedShop
bare t = record { shop = t.shop; plan = record { release = t.release; budget = []; order = []; clean = t.clean } }

-- the present moment, and the moments since which machines are being cleaned, are within the limit
pub record HasSoundMoments (s : Stage) : Type 0 where
  pub present : s.present ≤ MAX_MOMENT
  pub cleanings : (m from : ℕ) → cleaning s.cell m ≡ Some from → from ≤ MAX_MOMENT

-- a well-shaped plan of this shop with these releases and cleaning times, whatever its orders and budgets, and some run of it, by any controller, has led to the cell
pub record GoesOnFrom (s : Stage) (p : PlannedShop) : Type 0 where
  pub shaped : IsWellShaped p
  pub same : times_of p ≡ s.times
  pub run : List Event
  pub is_run : IsRun p run
  pub cell : s.cell ≡ ends_in p run
