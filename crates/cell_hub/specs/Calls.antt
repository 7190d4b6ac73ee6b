-- The calls on a hub.
use Rattle.std.specs.Prelude.{◌≡◌, ℕ, ◌+◌, ◌-◌, ◌^◌, ◌<◌, ◌↔◌, List, [], ◌∷◌, Option, None, Some, IfSome, Result, IsOk, IfOk, IfErr, OnErr}
use Rattle.std.specs.declared.result.Result.TheVariants.{Ok, Err}
use Rattle.shop_base.specs.declared.report.Report as reports
use Rattle.shop_base.specs.{Activity.GoesOn, Report.ended, Report.at}
use Rattle.cell_tables.specs.{declared.claim.Claim.Claim, declared.claim.Claim.TheVariants.Report, Claims.claimed}
use Rattle.plan_verifier.specs.Accepted.{VerifiedPlan}
use Rattle.cell_control.specs.{declared.ack.Ack.Ack, Control.Control, Control.control_at_start, Control.IsAnswered}
use Rattle.cell_control.specs.Claims.{CanClaim, IsClaimReason}
use Rattle.cell_control.specs.Examined.{ExaminedReport, IsPossible}
use Rattle.cell_hub.specs.{declared.slots.Ticket.Ticket, declared.hub_fault.HubFault.HubFault}
use Rattle.cell_hub.specs.declared.hub_fault.HubFault.TheVariants.{NoSuchCell, SerialsSpent, Memory, Cell}
use Rattle.cell_hub.specs.Hub.{HubState, cell_at, Puts}

-- this number is never a serial
abbrev pub no_serial : ℕ
no_serial = 2 ^ 64 - 1

-- a controller gets a cell, and a ticket with the next serial
pub record IsSeated (old : HubState) (c : Control) (t : Ticket) (new : HubState) : Type 0 where
  pub left : old.next_serial < no_serial
  pub serial : t.serial ≡ old.next_serial
  pub vacant : cell_at old t ≡ None
  pub cells : Puts old new t (Some c)
  pub next_serial : new.next_serial ≡ old.next_serial + 1

-- a cell is made of the plan: it has a controller before the first report, and a ticket with the next serial
abbrev pub IsAdmitted : HubState → VerifiedPlan → Ticket → HubState → Type 0
IsAdmitted old plan t new = IsSeated old (control_at_start plan) t new

-- why no cell is made: the serials are spent, or else out of memory
abbrev pub IsNotAdmitted : HubState → HubFault → Type 0
IsNotAdmitted h NoSuchCell = ⊥
IsNotAdmitted h SerialsSpent = h.next_serial ≡ no_serial
IsNotAdmitted h Memory = h.next_serial < no_serial
IsNotAdmitted h (Cell reason) = ⊥

-- the controller of the ticket's cell answers the report, and the other cells stay as they are
pub record IsReported (old : HubState) (t : Ticket) (r : reports.Report) (ack : Ack) (new : HubState) : Type 0 where
  pub before : Control
  pub after : Control
  pub cell : cell_at old t ≡ Some before
  pub answered : IsAnswered before r ack after
  pub cells : Puts old new t (Some after)
  pub next_serial : new.next_serial ≡ old.next_serial

-- the report was found possible in the cell of the ticket
pub record IsPossibleAt (h : HubState) (t : Ticket) (examined : ExaminedReport) : Type 0 where
  pub control : Control
  pub cell : cell_at h t ≡ Some control
  pub possible : IsPossible control.planned control.cell examined

-- why a claim isn't accepted: the ticket has no cell, or its controller refuses it by the first reason
abbrev pub IsNotClaimed : HubState → Ticket → Claim → HubFault → Type 0
IsNotClaimed h t claim NoSuchCell = cell_at h t ≡ None
IsNotClaimed h t claim SerialsSpent = ⊥
IsNotClaimed h t claim Memory = ⊥
IsNotClaimed h t claim (Cell reason) = (c : Control) × (cell_at h t ≡ Some c) × IsClaimReason c.planned c.cell claim reason

-- no fault but this one is a reason why the claim isn't accepted, the fields of a first reason included
abbrev pub IsOnlyRefusal : HubState → Ticket → Claim → HubFault → Type 0
IsOnlyRefusal h t claim fault = (other : HubFault) → IsNotClaimed h t claim other → other ≡ fault

-- the controller of the ticket's cell answers what is claimed as it does the report of it
abbrev pub IsClaimed : HubState → Ticket → Claim → Ack → HubState → Type 0
IsClaimed old t claim ack new = (c : Control) × (cell_at old t ≡ Some c) × IsReported old t (claimed c.planned claim) ack new

-- what the report says to have ended goes on in the cell, and the report's moment is the last one
pub record EndsNow (c : Control) (r : reports.Report) : Type 0 where
  pub due : ℕ
  pub going : GoesOn c.planned c.cell (ended r) due
  pub now : at r ≡ c.cell.last

-- the ticket's cell is removed with this content
pub record IsDismissed (old : HubState) (t : Ticket) (content : Control) (new : HubState) : Type 0 where
  pub cell : cell_at old t ≡ Some content
  pub cells : Puts old new t None
  pub next_serial : new.next_serial ≡ old.next_serial

-- a call with its answer: a plan was admitted, a report made on a ticket, a ticket's cell looked at, a ticket dismissed
pub data HubCall : Type 0 where
  Admitted : VerifiedPlan → Result Ticket (HubFault × VerifiedPlan) → HubCall
  Reported : Ticket → reports.Report → Result Ack HubFault → HubCall
  Shown : Ticket → Option Control → HubCall
  Dismissed : Ticket → Result Control HubFault → HubCall

-- a hub answers a call so, and is then this one. A call that is refused changes nothing
abbrev pub IsCall : HubState → HubCall → HubState → Type 0
IsCall old (Admitted plan (Ok t)) new = IsAdmitted old plan t new
IsCall old (Admitted plan (Err refused)) new = IsNotAdmitted old refused.0 × (refused.1 ≡ plan) × (new ≡ old)
IsCall old (Reported t r (Ok ack)) new = IsReported old t r ack new
IsCall old (Reported t r (Err fault)) new = IsNotClaimed old t (Report r) fault × (new ≡ old)
IsCall old (Shown t content) new = (content ≡ cell_at old t) × (new ≡ old)
IsCall old (Dismissed t (Ok content)) new = IsDismissed old t content new
IsCall old (Dismissed t (Err fault)) new = (fault ≡ NoSuchCell) × (cell_at old t ≡ None) × (new ≡ old)

-- the call that a claim is, by its answer: where it is accepted, its report; where it isn't, a look at the ticket's cell
abbrev pub IsClaimCall : HubState → Ticket → Claim → Result Ack HubFault → HubState → Type 0
IsClaimCall old t claim (Ok ack) new = (c : Control) × (cell_at old t ≡ Some c) × IsCall old (Reported t (claimed c.planned claim) (Ok ack)) new
IsClaimCall old t claim (Err fault) new = IsCall old (Shown t (cell_at old t)) new

-- what a hub answers to what is claimed of a ticket's cell: what its controller alone would, and the other cells stay as they are
pub record AnswersOnTicket (old : HubState) (t : Ticket) (claim : Claim) (answer : Result Ack HubFault) (new : HubState) : Type 0 where
  pub claimed : IfOk answer (λ ack. IsClaimed old t claim ack new)
  pub possible : IfSome (cell_at old t) (λ c. IsOk answer ↔ CanClaim c.planned c.cell claim)
  pub refused : IfErr answer (IsNotClaimed old t claim)
  pub only_reason : IfErr answer (IsOnlyRefusal old t claim)
  pub unchanged : OnErr answer (new ≡ old)
  pub no_such_cell : (answer ≡ Err NoSuchCell) ↔ (cell_at old t ≡ None)
  pub called : IsClaimCall old t claim answer new

-- calls on a hub, one after another
pub data AreCalls : HubState → List HubCall → HubState → Type 0 where
  none_yet : (h : HubState) → AreCalls h [] h
  once_more : (h mid end : HubState) (call : HubCall) (calls : List HubCall) → IsCall h call mid → AreCalls mid calls end → AreCalls h (call ∷ calls) end
