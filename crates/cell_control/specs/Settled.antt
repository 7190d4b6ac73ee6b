-- How a cell settles: by moves at one moment, always that of the first job that can move.
use Rattle.std.specs.Prelude.{◌≡◌, ℕ, ◌<◌, List, [], ◌∷◌}
use Rattle.shop_base.specs.{declared.move_order.MoveOrder.MoveOrder, Plan.PlannedShop, Cell.Cell, Ahead.Settles}
use Rattle.shop_base.specs.Move.{CanMove, KeepsPlan, after_move}
use Rattle.shop_base.specs.Controlled.{after_moves, orders_for}

-- job j can move at moment t and keep the plan, and no job before it can
pub record IsFirstMover (p : PlannedShop) (c : Cell) (t j : ℕ) : Type 0 where
  pub can : CanMove p c j t
  pub keeps : KeepsPlan p c j
  pub first : (i : ℕ) → i < j → CanMove p c i t → KeepsPlan p c i → ⊥

-- each of these jobs is the first that can move, once those before it have
abbrev pub SettlesInOrder : PlannedShop → Cell → ℕ → List ℕ → Type 0
SettlesInOrder p c t [] = Unit {0}
SettlesInOrder p c t (j ∷ js) = IsFirstMover p c t j × SettlesInOrder p (after_move p c j t) t js

-- the moves at moment t, always of the first job that can, have brought the cell to rest, by these orders
pub record HasSettled (p : PlannedShop) (t : ℕ) (c : Cell) (orders : List MoveOrder) (new : Cell) : Type 0 where
  pub movers : List ℕ
  pub settles : Settles p c t movers
  pub in_order : SettlesInOrder p c t movers
  pub orders_are : orders ≡ orders_for p c t movers
  pub leads : new ≡ after_moves p c t movers
