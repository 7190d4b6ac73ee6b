-- What changes are judged by: the run so far, the present moment, and the machines of the plant.
use Rattle.std.specs.Prelude.{◌≡◌, ℕ, ◌<◌, ◌⊎◌, nat_lt, if◌then◌else◌, false, true}
use Rattle.shop_base.specs.Plan.{PlannedShop, jobs, steps}
use Rattle.shop_base.specs.Cell.{Cell, made, ready, IsOn}

-- the planned shop that is given, the cell at the end of the run so far, the present moment, and how many machines the plant has: a machine behind those is that of the jobs that are put aside
pub record RevisionSetting : Type 0 where
  pub given : PlannedShop
  pub cell : Cell
  pub present : ℕ
  pub plant : ℕ

-- these as one
abbrev pub setting : PlannedShop → Cell → ℕ → ℕ → RevisionSetting
setting p c t plant = record { given = p; cell = c; present = t; plant = plant }

module _ (s : RevisionSetting) where
  -- how many moves job j has made; none where the given shop hasn't the job
  abbrev pub moves_made : ℕ → ℕ
  moves_made j = if nat_lt j (jobs s.given) then made s.cell j else 0

  -- job j has left the cell
  abbrev pub HasLeftCell : PlannedShop → ℕ → Type 0
  HasLeftCell p j = steps p j < moves_made j

  -- job j has come: its arrival was reported, or it has moved
  abbrev pub HasArrived : ℕ → Type 0
  HasArrived j = (j < jobs s.given) × ((0 < made s.cell j) ⊎ (ready s.cell j ≡ true))

  -- the operation of job j's step k goes on on machine m
  pub record OperationGoesOn (j k m : ℕ) : Type 0 where
    pub on : IsOn s.given s.cell j k m
    pub not_ready : ready s.cell j ≡ false
