-- A planned shop without the jobs that don't stay, and the cell of a run without them.
use Rattle.std.specs.Prelude.{ℕ, ◌-◌, List, Bool, map, length, slice_index, None, if◌then◌else◌}
use Rattle.shop_base.specs.{Shop.JobShop, Plan.ShopPlan, Plan.PlannedShop, Cell.Cell, Cell.MachineState}
use Rattle.run_pruning.specs.Staying.{stays, staying, renumbered}

-- the shop with the routes of the jobs that stay
abbrev pub pruned_shop : List Bool → JobShop → JobShop
pruned_shop marks shop = record { machines = shop.machines; routes = staying marks shop.routes; recirculates = shop.recirculates }

-- the plan with their releases and budgets, and the orders of them alone, by their new numbers; cleaning times are as they are
abbrev pub pruned_plan : List Bool → ShopPlan → ShopPlan
pruned_plan marks plan = record {
  release = staying marks plan.release;
  budget = staying marks plan.budget;
  order = map (renumbered marks) plan.order;
  clean = plan.clean;
}

-- the planned shop without the others
abbrev pub pruned : List Bool → PlannedShop → PlannedShop
pruned marks p = record { shop = pruned_shop marks p.shop; plan = pruned_plan marks p.plan }

-- the job that entered last
abbrev pub last_in : List ℕ → ℕ
last_in entries = slice_index entries (length entries - 1)

-- a machine without the entries of the others: it is being cleaned where it is after a job that stays
abbrev pub pruned_machine : List Bool → MachineState → MachineState
pruned_machine marks s = record { entries = renumbered marks s.entries; cleaning = if stays marks (last_in s.entries) then s.cleaning else None }

-- the cell without the others, with t as its last moment
abbrev pub pruned_cell : List Bool → Cell → ℕ → Cell
pruned_cell marks c t = record { jobs = staying marks c.jobs; machines = map (pruned_machine marks) c.machines; last = t }
