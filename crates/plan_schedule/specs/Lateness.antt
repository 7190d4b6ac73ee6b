-- How late the rest of a run is.
use Rattle.std.specs.Prelude.{ℕ, zero, suc, ◌-◌, nat_lt, if◌then◌else◌, max}
use Rattle.shop_base.specs.declared.node.Node.{Node}
use Rattle.shop_base.specs.{Plan.PlannedShop, Plan.steps, Plan.budget, Cell.Cell, Cell.made, Graph.leaving}

module _ (p : PlannedShop) (c : Cell) (at : Node → ℕ) where
  -- by how much job j leaves past its budget, nothing where it has left: the verdict on a rest judges the jobs that haven't
  abbrev pub lateness_of : ℕ → ℕ
  lateness_of j = if nat_lt (steps p j) (made c j) then 0 else at (leaving p j) - budget p j

  -- the greatest lateness of the first n jobs (Pinedo, Scheduling: T_max)
  abbrev pub lateness : ℕ → ℕ
  lateness zero = 0
  lateness (suc n) = max (lateness n) (lateness_of n)
