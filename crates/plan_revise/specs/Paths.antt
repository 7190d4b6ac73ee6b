-- Paths ahead that are at least as long.
use Rattle.std.specs.Prelude.{ℕ, ◌≤◌, List}
use Rattle.shop_base.specs.declared.node.Node.{Node}
use Rattle.shop_base.specs.Plan.{PlannedShop}
use Rattle.shop_base.specs.Cell.{Cell}
use Rattle.shop_base.specs.Ahead.{PathAhead}

-- a path ahead to the node is at least so long
pub record HasLonger (p : PlannedShop) (c : Cell) (t : ℕ) (v : Node) (n : ℕ) : Type 0 where
  pub nodes : List Node
  pub size : ℕ
  pub path : PathAhead p c t nodes v size
  pub longer : n ≤ size
