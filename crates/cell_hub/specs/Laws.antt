-- What holds of every list of calls on a hub.
use Rattle.std.specs.Prelude.{◌≡◌, ◌≢◌, ℕ, List, [], ◌∷◌, ◌++◌, Option, None, Some, All, if◌then◌else◌}
use Rattle.std.specs.declared.result.Result.TheVariants.{Ok, Err}
use Rattle.shop_base.specs.{declared.report.Report.Report, Run.Event}
use Rattle.plan_verifier.specs.Accepted.{VerifiedPlan, IsVerified}
use Rattle.cell_control.specs.{declared.ack.Ack.Ack, declared.report_fault.ReportFault.ReportFault}
use Rattle.cell_control.specs.{Control.Control, Control.control_at_start, Control.IsAnswered, Reports.IsFirstReason}
use Rattle.cell_control.specs.Promises.{IsControllerAfter}
use Rattle.cell_hub.specs.{declared.slots.Ticket.Ticket, Hub.HubState, Hub.hub_from, Hub.is_ticket, Hub.cell_at}
use Rattle.cell_hub.specs.declared.hub_fault.HubFault.TheVariants.{NoSuchCell, Cell}
use Rattle.cell_hub.specs.Calls.{HubCall, Admitted, Reported, Shown, Dismissed, AreCalls}

-- the call gives this ticket to no plan, and finds no cell under it
abbrev pub FindsNoCell : Ticket → HubCall → Type 0
FindsNoCell t (Admitted plan answer) = answer ≢ Ok t
FindsNoCell t (Reported other r answer) = other ≡ t → answer ≡ Err NoSuchCell
FindsNoCell t (Shown other content) = other ≡ t → content ≡ None
FindsNoCell t (Dismissed other answer) = other ≡ t → answer ≡ Err NoSuchCell

-- once a ticket was dismissed, no call gives it again or finds a cell under it
abbrev pub DismissedNeverAnswers : Type 0
DismissedNeverAnswers = (first : ℕ) (before after : List HubCall) (end : HubState) (t : Ticket) (content : Control)
    → AreCalls (hub_from first) (before ++ Dismissed t (Ok content) ∷ after) end → All (FindsNoCell t) after

-- the call is on this ticket
abbrev pub IsOnTicket : Ticket → HubCall → Type 0
IsOnTicket t (Admitted plan answer) = answer ≡ Ok t
IsOnTicket t (Reported other r answer) = other ≡ t
IsOnTicket t (Shown other content) = other ≡ t
IsOnTicket t (Dismissed other answer) = other ≡ t

-- the life of a ticket: it isn't given yet, a controller stands under it, or it was dismissed
pub data Life : Type 0 where
  not_given : Life
  stands : Control → Life
  dismissed : Life

-- the content of the controller that stands under a ticket, if one does
abbrev pub content_in : Life → Option Control
content_in not_given = None
content_in (stands c) = Some c
content_in dismissed = None

-- what a call makes of a ticket's life, where a controller alone answers: it is made of the plan for which the ticket is given, takes each report on the ticket, is shown, and is given back when the ticket is dismissed. Before and after that no cell is found. A call on another ticket is nothing to it
pub data Lives (t : Ticket) : Life → HubCall → Life → Type 0 where
  given : (plan : VerifiedPlan) → Lives t not_given (Admitted plan (Ok t)) (stands (control_at_start plan))
  answered : (c new : Control) (r : Report) (ack : Ack) → IsAnswered c r ack new → Lives t (stands c) (Reported t r (Ok ack)) (stands new)
  refused : (c : Control) (r : Report) (reason : ReportFault) → IsFirstReason c.planned c.cell r reason → Lives t (stands c) (Reported t r (Err (Cell reason))) (stands c)
  shown : (c : Control) → Lives t (stands c) (Shown t (Some c)) (stands c)
  removed : (c : Control) → Lives t (stands c) (Dismissed t (Ok c)) dismissed
  elsewhere : (c : Control) (call : HubCall) → (IsOnTicket t call → ⊥) → Lives t (stands c) call (stands c)
  before : (call : HubCall) → FindsNoCell t call → Lives t not_given call not_given
  after : (call : HubCall) → FindsNoCell t call → Lives t dismissed call dismissed

-- what calls make of a ticket's life, one after another
pub data AreLived (t : Ticket) : Life → List HubCall → Life → Type 0 where
  none_yet : (life : Life) → AreLived t life [] life
  once_more : (life mid end : Life) (call : HubCall) (calls : List HubCall) → Lives t life call mid → AreLived t mid calls end → AreLived t life (call ∷ calls) end

-- whatever is called on a hub, each ticket is answered as by a controller alone, whose content is that of the ticket's cell
abbrev pub CellsAreApart : Type 0
CellsAreApart = (first : ℕ) (calls : List HubCall) (end : HubState) (t : Ticket) → AreCalls (hub_from first) calls end
    → (life : Life) × AreLived t not_given calls life × (cell_at end t ≡ content_in life)

-- the reports that these calls make on the ticket, in order
abbrev pub reports_on : Ticket → List HubCall → List Report
reports_on t [] = []
reports_on t (Admitted plan answer ∷ calls) = reports_on t calls
reports_on t (Reported other r answer ∷ calls) = if is_ticket t other then r ∷ reports_on t calls else reports_on t calls
reports_on t (Shown other content ∷ calls) = reports_on t calls
reports_on t (Dismissed other answer ∷ calls) = reports_on t calls

-- whatever is called on a hub, after a plan was admitted the cell of its ticket is, as long as it stands, that at the end of the controlled run of this plan by the reports made on the ticket since then
abbrev pub CallsMakeTheControlledRuns : Type 0
CallsMakeTheControlledRuns = (first : ℕ) (before after : List HubCall) (end : HubState) (t : Ticket) (plan : VerifiedPlan) (content : Control) → IsVerified plan
    → AreCalls (hub_from first) (before ++ Admitted plan (Ok t) ∷ after) end → cell_at end t ≡ Some content
    → (es : List Event) × IsControllerAfter plan (reports_on t after) es content
