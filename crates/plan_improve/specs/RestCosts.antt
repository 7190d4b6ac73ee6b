-- What the rest of a run costs by a plan: the total lateness of the jobs that aren't gone, and the makespan.
use Rattle.std.specs.Prelude.{◌≡◌, ℕ, ◌-◌, nat_lt, if◌then◌else◌}
use Rattle.shop_base.specs.{Plan.PlannedShop, Plan.jobs, Plan.steps, Plan.budget, Cell.Cell, Cell.made, Ends.sum_below}
use Rattle.alt_graph.specs.Solved.{HasCycle}
use Rattle.cell_tables.specs.Reordered.{BeginsWithEntries}
use Rattle.plan_verifier.specs.Leavings.{AreLeavingsAhead, IsLastLeaving}
use Rattle.plan_improve.specs.declared.cost.Cost.{Cost}

-- what job j leaves past its budget, nothing where it is gone
abbrev pub late_by : PlannedShop → Cell → (ℕ → ℕ) → ℕ → ℕ
late_by p c leaves j = if nat_lt (steps p j) (made c j) then 0 else leaves j - budget p j

-- the plan has no cycle, and these are the total lateness and the makespan of the rest from the cell and the present moment t on
pub record IsCostFrom (p : PlannedShop) (c : Cell) (t : ℕ) (cost : Cost) : Type 0 where
  pub acyclic : HasCycle p → ⊥
  pub leaves : ℕ → ℕ
  pub are : AreLeavingsAhead p c t leaves
  pub late : cost.late ≡ sum_below (late_by p c leaves) (jobs p)
  pub makespan : IsLastLeaving p leaves cost.makespan

-- the same of a plan that begins with the entries of the cell
pub record IsRestCost (c : Cell) (t : ℕ) (p : PlannedShop) (cost : Cost) : Type 0 where
  pub begins : BeginsWithEntries c p
  pub costs : IsCostFrom p c t cost
