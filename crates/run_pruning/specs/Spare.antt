-- A planned shop without the machine behind those of its plant, where nobody visits that machine and it isn't cleaned.
use Rattle.std.specs.Prelude.{ℕ, ◌+◌, List, length, take, Option, None, Some, Bool, nat_eq, ◌&&◌, if◌then◌else◌}
use Rattle.shop_base.specs.Plan.{PlannedShop, machines, order, clean}
use Rattle.shop_base.specs.Cell.{Cell}

-- the cleaning times of the first n machines, if there are any
abbrev pub first_cleanings : ℕ → Option (List ℕ) → Option (List ℕ)
first_cleanings n None = None
first_cleanings n (Some times) = Some (take n times)

-- the planned shop with its first n machines alone
abbrev pub narrowed : ℕ → PlannedShop → PlannedShop
narrowed n p = record {
  shop = record { machines = n; routes = p.shop.routes; recirculates = p.shop.recirculates };
  plan = record { release = p.plan.release; budget = p.plan.budget; order = take n p.plan.order; clean = first_cleanings n p.plan.clean };
}

-- the cell with its first n machines alone
abbrev pub narrowed_cell : ℕ → Cell → Cell
narrowed_cell n c = record { jobs = c.jobs; machines = take n c.machines; last = c.last }

-- one machine stands behind those of the plant: nobody visits it, and it has no cleaning time
abbrev pub has_spare : PlannedShop → ℕ → Bool
has_spare p plant = nat_eq (machines p) (plant + 1) && (nat_eq (length (order p plant)) 0 && nat_eq (clean p plant) 0)

-- the planned shop without that machine; any other is as it was
abbrev pub without_spare : PlannedShop → ℕ → PlannedShop
without_spare p plant = if has_spare p plant then narrowed plant p else p
