-- What the fields of a controller stand for, and what holds of them.
use Rattle.std.specs.Prelude.{◌≡◌, ℕ, ◌+◌, max, List, length, Bool, true, Option}
use Rattle.shop_base.specs.{declared.move_order.MoveOrder.MoveOrder, Plan.PlannedShop, Plan.jobs, Plan.machines}
use Rattle.shop_base.specs.ReportsLeft.{reports_left}
use Rattle.alt_graph.specs.Times.{NodeTimes}
use Rattle.cell_tables.specs.PlannedCell.{PlannedCell}
use Rattle.cell_control.specs.{Control.Control, Control.IsControl, DueMoments.AreDueMoments}

-- what they stand for
abbrev pub control_of : {P : Type 0} → PlannedCell P → NodeTimes → List MoveOrder → ℕ → ℕ → Bool → Control
control_of c times orders left began punctual =
    record { planned = c.plan; times = times; cell = c.cell; orders = orders; left = left; began = began; punctual = punctual }

-- what holds of them: beside what holds of every controller, the due moments are those of the cell, and the room for orders is for one of each job, or for the four that stand in the value
pub record AreFieldsOf (v : Control) (dues : List (Option ℕ)) (capacity : ℕ) : Type 0 where
  pub control : IsControl v
  pub due_moments : AreDueMoments v.planned v.cell dues
  pub room : capacity ≡ max 4 (jobs v.planned)

-- a controller that begins with a cell at rest, after these orders
abbrev pub begun_with : {P : Type 0} → PlannedCell P → NodeTimes → List MoveOrder → ℕ → Control
begun_with c times orders began = control_of c times orders (reports_left c.plan c.cell) began true

-- a key for each job and machine, and room for an order of each job
pub record IsRoomFor (p : PlannedShop) (dues : List (Option ℕ)) (capacity : ℕ) : Type 0 where
  pub keys : length dues ≡ jobs p + machines p
  pub orders : capacity ≡ max 4 (jobs p)
