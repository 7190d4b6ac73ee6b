-- What a cell replies, as an answer to what it is asked.
use Rattle.std.proofs.Common.{◌≡◌, ◌↔◌, inr, ℕ, ◌+◌, ◌≤◌, List, [], ◌∷◌, map, length, Bool, cond, true, false, Option, Some, None, refl, sym, ap, ◌∙◌, subst, append-nil, arith}
use Rattle.shop_base.specs.{declared.move_order.MoveOrder.MoveOrder, declared.report.Report.Report, Plan.PlannedShop}
use Rattle.shop_base.specs.{Punctual.IsPunctual, Controlled.step_orders}
use Rattle.cell_tables.specs.{declared.claim.Claim.Claim, Claims.claimed}
use Rattle.cell_tables.specs.{declared.entry.Entry.Entry, declared.entry.Entry.TheVariants.{Report as ReportEntry, Order as OrderEntry}}
use Rattle.cell_control.specs.{declared.ack.Ack.Ack, Control.{Control, IsAnswered, IsControl, verified_in}}
use Rattle.cell_control.proofs.Fields.{plan_stays}
use Rattle.run_log.specs.Log.{Noted, Notes}
use Rattle.event_lines.specs.{declared.details.Overdue.Overdue, declared.requests.Request.Request}
use Rattle.cell_drive.specs.{declared.protocol.Protocol.Protocol, Session.HoldsRun, Refusals.IsAdmissible}
use Rattle.cell_drive.specs.{declared.requests.Acceptance.Acceptance, Acceptances.{IsToAccept, accepted_lines}}
use Rattle.cell_drive.specs.ProtocolText.{IsClaimAccepted, acceptance_lines, printed_overdue, prints_end, refusal_prefix}
use Rattle.cell_drive.specs.Replies.{AcceptedBy, HasAccepted, RepliesBy, accepted_events, reported_lines}
use Rattle.cell_drive.proofs.Rooms.{kept_more, never_full, room_for}

either_way : (version_2 : Bool) (prefix : List ℕ) → cond version_2 prefix prefix ≡ prefix
either_way true prefix = refl
either_way false prefix = refl

-- where nothing stands before a line, nothing does before a refusal
pub no_prefix : (protocol : Protocol) → refusal_prefix protocol [] ≡ []
no_prefix protocol = either_way protocol.version_2 []

-- what was claimed is accepted by these lines
pub accepts : (protocol : Protocol) (prefix : List ℕ) (v new : Control) (claim : Claim) (late : Bool) (ack : Ack) → IsAdmissible protocol v.planned v.cell claim → (late ≡ false) ↔ IsPunctual v.planned v.cell (claimed v.planned claim)
    → IsAnswered v (claimed v.planned claim) ack new
    → AcceptedBy protocol prefix v claim new (acceptance_lines prefix (claimed v.planned claim) late (printed_overdue protocol v.planned v.cell (claimed v.planned claim)) new.orders (prints_end protocol new.planned new.cell))
accepts protocol prefix v new claim late ack accepted late_is answered =
    let overdue = printed_overdue protocol v.planned v.cell (claimed v.planned claim) in record {
      accepted = accepted;
      movers = answered.movers;
      step = answered.step;
      late = late;
      late_is = late_is;
      text_is = ap (λ (orders : List MoveOrder). acceptance_lines prefix (claimed v.planned claim) late overdue orders (prints_end protocol new.planned new.cell)) answered.orders
          ∙ ap (λ (p : PlannedShop). acceptance_lines prefix (claimed v.planned claim) late overdue (step_orders v.planned v.cell (claimed v.planned claim) answered.movers) (prints_end protocol p new.cell)) answered.planned;
      events_are = ap (λ (orders : List MoveOrder). ReportEntry (claimed v.planned claim) ∷ map OrderEntry orders) answered.orders;
      next_is = answered.cell;
    }

-- and so is what is to be accepted, once it is
pub acceptance_replies : (protocol : Protocol) (prefix : List ℕ) (v new : Control) (number : ℕ) (request : Request) (acceptance : Acceptance) (ack : Ack) → IsToAccept protocol v request acceptance
    → IsAnswered v acceptance.possible.report ack new → RepliesBy protocol prefix v number request (Some acceptance.possible.report) new (accepted_lines protocol prefix new acceptance)
acceptance_replies protocol prefix v new number request acceptance ack to answered =
    let claim = to.claim in
    let own = claimed v.planned claim in
    let late = acceptance.possible.late in
    let is = to.examined.0 in
    let late_is = subst (λ (r : Report). (late ≡ false) ↔ IsPunctual v.planned v.cell r) is to.examined.1.late in
    let by_own = accepts protocol prefix v new claim late ack to.admissible late_is (subst (λ (r : Report). IsAnswered v r ack new) is answered) in
    let with_overdue = subst (λ (o : Option Overdue). AcceptedBy protocol prefix v claim new (reported_lines protocol prefix new own late o)) (sym to.overdue_is) by_own in
    let as_examined = subst (λ (r : Report). IsClaimAccepted v.planned protocol prefix v.cell claim (reported_lines protocol prefix new r late acceptance.overdue) (accepted_events new (Some r)) new.cell) (sym is) with_overdue in
    subst (λ (q : Request). RepliesBy protocol prefix v number q (Some acceptance.possible.report) new (accepted_lines protocol prefix new acceptance)) (sym to.asked) (inr as_examined)

-- the plan stays
pub plan_after : (v : Control) (accepted : Option Report) (new : Control) → HasAccepted v accepted new → verified_in new ≡ verified_in v
plan_after v None new stays = ap verified_in stays
plan_after v (Some report) new (late, answered) = plan_stays v new report _ answered

module _ (v : Control) (log : Noted) (kept : HoldsRun v log) where
  -- the log has room for what was accepted
  pub accepted_room : (accepted : Option Report) (new : Control) → HasAccepted v accepted new → length log.entries + length (accepted_events new accepted) ≤ log.reserved
  accepted_room None new stays = let fits = (never_full v log kept).fits in omega (arith, fits)
  accepted_room (Some report) new (late, answered) = room_for v log report _ new kept answered

  -- and with it there is a run of the plan again
  pub accepted_kept : (accepted : Option Report) (new : Control) (longer : Noted) → HasAccepted v accepted new → Notes log longer (accepted_events new accepted) → IsControl new → HoldsRun new longer
  accepted_kept None new longer stays notes control =
      let same : longer ≡ log = ap (λ (es : List Entry). let l : Noted = record { entries = es; reserved = longer.reserved } in l) (notes.entries ∙ append-nil log.entries)
      ∙ ap (λ (n : ℕ). let l : Noted = record { entries = log.entries; reserved = n } in l) notes.reserved in
      subst (λ (w : Control). HoldsRun w longer) (sym stays) (subst (HoldsRun v) (sym same) kept)
  accepted_kept (Some report) new longer (late, answered) notes control = kept_more v log report _ new kept answered longer notes control
