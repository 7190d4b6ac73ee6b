-- How far jobs were stopped at a machine that is down, one after another.
use Rattle.std.specs.Prelude.{◌≡◌, ℕ, ◌<◌, ◌≤◌}
use Rattle.shop_base.specs.Plan.{PlannedShop, jobs, machines, route, Visits}
use Rattle.plan_revise.specs.Settings.{RevisionSetting, moves_made}
use Rattle.plan_revise.specs.Aside.{HasRoom}
use Rattle.plan_revise.specs.Stopped.{without_machine}
use Rattle.plan_revise.specs.Fits.{IsRevision}

-- plan p has become plan q, in which the first n jobs do without machine m: the routes of the others are as they were
pub record IsStage (s : RevisionSetting) (p : PlannedShop) (m n : ℕ) (q : PlannedShop) : Type 0 where
  pub is : q ≡ without_machine s p m n
  pub revision : IsRevision s q
  pub jobs_same : jobs q ≡ jobs p
  pub others : (j : ℕ) → n ≤ j → route q j ≡ route p j
  pub more_machines : machines p ≤ machines q
  pub room : (j k : ℕ) → j < n → moves_made s j ≡ 0 → Visits p j k m → HasRoom s p
