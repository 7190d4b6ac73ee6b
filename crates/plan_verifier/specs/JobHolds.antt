-- What goes on with a job or a machine, and the bound of a node by that.
use Rattle.std.specs.Prelude.{◌≡◌, ℕ, Option, if◌then◌else◌}
use Rattle.shop_base.specs.declared.node.Node.{Node}
use Rattle.shop_base.specs.Plan.{PlannedShop}
use Rattle.shop_base.specs.Cell.{Cell, job_in, ready}
use Rattle.shop_base.specs.Movers.{due_of_job}
use Rattle.shop_base.specs.Ahead.{next_node}
use Rattle.plan_verifier.specs.declared.node_bound.Hold.{Hold}
use Rattle.plan_verifier.specs.declared.node_bound.NodeBound.{NodeBound}
use Rattle.plan_verifier.specs.Held.{IsHeldBy, IsHoldBound, later_than, turn}

-- the turn of what holds up the next node of job j: last where it waits
abbrev pub job_turn : Cell → ℕ → ℕ
job_turn c j = if ready c j then 2 else 0

-- this holds up the next node of job j until that is due
pub record IsJobHold (p : PlannedShop) (c : Cell) (j : ℕ) (h : Hold) : Type 0 where
  pub holds : IsHeldBy p c h (due_of_job p j (job_in c j)) (next_node c j)
  pub turn_is : turn h ≡ job_turn c j

-- the bound of v by what is due then, with its turn
pub record IsBoundBy (p : PlannedShop) (c : Cell) (t : ℕ) (v : Node) (due : Option ℕ) (n : ℕ) (b : NodeBound) : Type 0 where
  pub by_hold : IsHoldBound p c t v b
  pub moment : b.moment ≡ later_than t due
  pub turn_is : turn b.holds ≡ n
