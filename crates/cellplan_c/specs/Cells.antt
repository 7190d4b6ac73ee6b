-- What is said of the controller that a cell holds, and what the calls that report to it or ask for its orders answer.
use Rattle.std.specs.Prelude.{◌≡◌, ◌≢◌, ℕ, ◌+◌, ◌<◌, ◌≤◌, ◌↔◌, Bool, false, List, Option, None, IsSome, IfSome, length, slice_get, option_map}
use Rattle.shop_base.specs.declared.move_order.MoveOrder.{MoveOrder}
use Rattle.cell_control.specs.declared.report_fault.ReportFault.{ReportFault}
use Rattle.cell_control.specs.Control.{Control, IsAnswered}
use Rattle.cell_control.specs.Promises.{NeverGoesWrong, KeepsLeavings}
use Rattle.cellplan_c.specs.declared.cell.Cell.{Cell}
use Rattle.cellplan_c.specs.declared.numbers.Order.{Order}
use Rattle.cell_tables.specs.{declared.claim.Claim.Claim, Claims.claimed}
use Rattle.cell_control.specs.Claims.{CanClaim, IsClaimReason, IsOnlyClaimReason}
use Rattle.cellplan_c.specs.Numbers.{order_numbers, fault_number, fault_detail}
use Rattle.cellplan_c.specs.Claimed.{IfGoesOnNow, Calls}

-- of the controller that the cell holds, if it holds one
abbrev pub Holding : Cell → (Control → Type 0) → Type 0
Holding cell Is = IfSome cell.slot.held (λ held. Is held.controller)

-- what is promised of a controller, whatever was reported: that it never goes wrong, and that each job keeps to the moment kept for its leaving while no report was late
pub record GoesAsPromised (v : Control) : Type 0 where
  pub never_wrong : NeverGoesWrong v
  pub moments : KeepsLeavings v

-- of the controllers before and after, if both are there
abbrev pub Handing : Cell → Cell → (Control → Control → Type 0) → Type 0
Handing old new Is = Holding old (λ before. Holding new (λ after. Is before after))

-- of the controller before, what is claimed to have ended, and the controller after, if there are all three
abbrev pub Claiming : Cell → Cell → Option Claim → (Control → Claim → Control → Type 0) → Type 0
Claiming old new claim Is = Holding old (λ before. Holding new (λ after. IfSome claim (λ claim. Is before claim after)))

-- the report is refused for its first reason, which is the only one: its number is answered, and what it names is answered
abbrev pub IsReasonNumber : Control → Claim → ℕ → ℕ → Type 0
IsReasonNumber control claim number detail = (fault : ReportFault) × (number ≡ fault_number fault) × (detail ≡ fault_detail fault)
    × IsClaimReason control.planned control.cell claim fault × IsOnlyClaimReason control.planned control.cell claim fault

-- what a report comes to, by its status, whether it was late, and what is answered of its reason
pub record IsReportAnswered (status : ℕ) (late : Bool) (detail : ℕ) (old : Control) (claim : Claim) (new : Control) : Type 0 where
  pub possible : (status ≡ 0) ↔ CanClaim old.planned old.cell claim
  pub answered : status ≡ 0 → IsAnswered old (claimed old.planned claim) (record { late = late }) new
  pub reason : status ≢ 0 → IsReasonNumber old claim status detail
  pub called : Calls old claim new
  pub never_refused : IfGoesOnNow old claim (status ≡ 0)

-- each order from a first one on, for which there is room, stands in its place as its numbers
abbrev pub AreOrdersPut : List MoveOrder → ℕ → List Order → List Order → Type 0
AreOrdersPut orders first old new =
    (i : ℕ) → first + i < length orders → i < length old → slice_get new i ≡ option_map order_numbers (slice_get orders (first + i))

-- behind the orders from a first one on the room stays as it was
abbrev pub IsKeptBehind : List MoveOrder → ℕ → List Order → List Order → Type 0
IsKeptBehind orders first old new = (i : ℕ) → length orders ≤ first + i → slice_get new i ≡ slice_get old i

-- what a call of status 0 writes of the orders of the controller that the cell then holds: from a first one on as many as there is room for, and the number of them all; else none
pub record WritesOrders (cell : Cell) (status first : ℕ) (before after : List Order) (written : ℕ) : Type 0 where
  pub no_orders : status ≢ 0 → (written ≡ 0) × (after ≡ before)
  pub count : Holding cell (λ held. status ≡ 0 → written ≡ length held.orders)
  pub orders : Holding cell (λ held. status ≡ 0 → AreOrdersPut held.orders first before after)
  pub kept : Holding cell (λ held. status ≡ 0 → IsKeptBehind held.orders first before after)

-- a report to the cell of what is claimed to have ended: at status 9 it is of no kind, and at 8 the cell holds no controller
pub record Reports (old new : Cell) (claim : Option Claim) (status : ℕ) (late : Bool) (detail : ℕ) : Type 0 where
  pub full : IsSome old.slot.held → IsSome new.slot.held
  pub no_kind : (claim ≡ None) ↔ (status ≡ 9)
  pub no_cell : IfSome claim (λ claim. (old.slot.held ≡ None) ↔ (status ≡ 8))
  -- what it comes to, by the controllers before and after
  pub reported : Claiming old new claim (IsReportAnswered status late detail)
  pub unchanged : status ≢ 0 → new.slot.held ≡ old.slot.held
  pub never_wrong : status ≢ 9 → Holding new GoesAsPromised
  -- refused, it isn't late; and only a reason, from 16 on, names something
  pub not_late : status ≢ 0 → late ≡ false
  pub no_detail : status < 16 → detail ≡ 0
