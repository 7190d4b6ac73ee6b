-- Whether a job can enter the spot of its move, and what that makes of the tables.
use Rattle.std.specs.Prelude.{◌≡◌, ℕ, ◌+◌, ◌*◌, ◌<◌, length}
use Rattle.shop_base.specs.declared.limits.TheConstants.{MAX_JOBS, MAX_MACHINES}
use Rattle.shop_base.specs.declared.move_order.Spot.{Spot}
use Rattle.shop_base.specs.declared.move_order.Spot.TheVariants.{Out, At}
use Rattle.shop_base.specs.Plan.{PlannedShop, machines, order, job_at}
use Rattle.shop_base.specs.Cell.{Cell, entries}
use Rattle.cell_tables.specs.declared.tables.Tables.{Tables}
use Rattle.cell_tables.specs.Tables.{row_at, entered_at, IsMachinePut}

-- the spot is a machine of the shop, in whose order job j is the next, or out of the cell
abbrev pub HasNext : PlannedShop → Cell → Spot → ℕ → Type 0
HasNext p c Out j = Unit {0}
HasNext p c (At m) j = (m < machines p) × (length (entries c m) < length (order p m)) × (job_at p m (length (entries c m)) ≡ j)

-- out of the cell, or on a machine with a row, which not all of so many jobs as a shop can have have entered
abbrev pub HasRoom : Tables → Spot → Type 0
HasRoom t Out = Unit {0}
HasRoom t (At m) = (m < length t.machines.items) × (entered_at t m < MAX_JOBS * MAX_MACHINES)

-- one more job has entered the spot, if that is a machine
abbrev pub IsEntered : Tables → Spot → Tables → Type 0
IsEntered old Out new = new ≡ old
IsEntered old (At m) new = IsMachinePut old m (record { entered = entered_at old m + 1; cleaning = (row_at old m).cleaning }) old.last new
