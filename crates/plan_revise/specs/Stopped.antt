-- Jobs that are stopped: in the cell they end, outside they are put aside.
use Rattle.std.specs.Prelude.{ℕ, zero, suc, ◌+◌, ◌-◌, max, ◌==◌, if◌then◌else◌, Option, None, Some, drop, position}
use Rattle.shop_base.specs.Plan.{PlannedShop, route}
use Rattle.plan_revise.specs.Ended.{with_job_ended}
use Rattle.plan_revise.specs.Aside.{put_aside}
use Rattle.plan_revise.specs.Settings.{RevisionSetting, moves_made}

module _ (s : RevisionSetting) where
  -- job j does no more than its first n steps: in the cell it ends behind them, outside it is put aside
  abbrev pub stopped : PlannedShop → ℕ → ℕ → PlannedShop
  stopped p j n = if moves_made s j == 0 then put_aside s p j else with_job_ended p j n

  -- the step that job j has entered last, its first one where it is outside
  abbrev pub present_step : ℕ → ℕ
  present_step j = moves_made s j - 1

  -- how many steps further, from that one on, job j comes to machine m, if it is on it or has it ahead
  abbrev pub way_to : PlannedShop → ℕ → ℕ → Option ℕ
  way_to p j m = position (λ step. step.machine == m) (drop (present_step j) (route p j))

  -- job j, which comes to the machine that is down so many steps further: where it is on it, it ends behind that step, else before the next one there; where the machine isn't ahead, nothing changes
  abbrev pub stopped_at : PlannedShop → ℕ → Option ℕ → PlannedShop
  stopped_at p j None = p
  stopped_at p j (Some further) = stopped p j (max (present_step j + further) (moves_made s j))

  -- the first n jobs, ascending, do without machine m
  abbrev pub without_machine : PlannedShop → ℕ → ℕ → PlannedShop
  without_machine p m zero = p
  without_machine p m (suc j) = stopped_at (without_machine p m j) j (way_to (without_machine p m j) j m)
