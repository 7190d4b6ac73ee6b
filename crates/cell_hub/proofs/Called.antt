-- What is done in the slots is a call of the definition.
use Rattle.std.proofs.Common.{◌≡◌, ◌↔◌, ℕ, ◌+◌, ◌<◌, Some, None, IfOk, IfErr, OnErr, refl, sym, ap, ◌∙◌, subst}
use Rattle.std.specs.{Prelude.Result, declared.result.Result.TheVariants.{Ok, Err}}
use Rattle.shop_base.specs.declared.report.Report as reports
use Rattle.cell_tables.specs.declared.claim.Claim.{Claim, TheVariants.Report}
use Rattle.slab.specs.Slab.{Slab, get, with_value, Updates}
use Rattle.plan_verifier.specs.Accepted.{VerifiedPlan}
use Rattle.cell_control.specs.{Control.{Control, IsAnswered, control_at_start}, Claims.IsClaimReason, declared.ack.Ack.Ack}
use Rattle.cell_control.specs.Examined.{ExaminedReport, IsPossible}
use Rattle.cell_control.proofs.ClaimReasons.{only_claim_reason}
use Rattle.cell_hub.specs.{declared.slots.Ticket.Ticket, declared.slots.Placed.Placed, Hub.{HubState, cell_at}}
use Rattle.cell_hub.specs.declared.hub_fault.HubFault.{HubFault, TheVariants.{NoSuchCell, SerialsSpent, Memory, Cell}}
use Rattle.cell_hub.specs.Slots.{hub_of}
use Rattle.cell_hub.specs.Calls.{Reported, Dismissed, no_serial, IsAdmitted, IsPossibleAt, IsSeated, IsReported, IsNotClaimed, IsOnlyRefusal, IsDismissed, IsCall}
use Rattle.cell_hub.proofs.{Puts.HasSerial, Hubs.{its_serial, none_there, puts_there, reports_there, stands_there}}

module _ {P D : Type 0} (s new : Slab (Placed P D)) (next : ℕ) (now : HubState) (seen : hub_of s next ≡ now) (t : Ticket) where
  pub report_called : (r : reports.Report) (result : Result Ack HubFault) → IfOk result (λ ack. (n : ℕ) → IsReported (hub_of s n) t r ack (hub_of new n)) → IfErr result (λ fault. (n : ℕ) → IsNotClaimed (hub_of s n) t (Report r) fault) → OnErr result (new ≡ s) → IsCall now (Reported t r result) (hub_of new next)
  report_called r (Ok ack) reported refused unchanged = subst (λ h. IsReported h t r ack (hub_of new next)) seen (reported next)
  report_called r (Err fault) reported refused unchanged = (subst (λ h. IsNotClaimed h t (Report r) fault) seen (refused next), ap (λ (x : Slab (Placed P D)). hub_of x next) unchanged ∙ seen)

  pub dismissal_called : (result : Result Control HubFault) → IfOk result (λ content. (n : ℕ) → IsDismissed (hub_of s n) t content (hub_of new n)) → OnErr result ((n : ℕ) → cell_at (hub_of s n) t ≡ None) → IfErr result (λ fault. fault ≡ NoSuchCell) → OnErr result (new ≡ s) → IsCall now (Dismissed t result) (hub_of new next)
  dismissal_called (Ok content) removed none fault unchanged = subst (λ h. IsDismissed h t content (hub_of new next)) seen (removed next)
  dismissal_called (Err _) removed none fault unchanged = (fault, subst (λ (h : HubState). cell_at h t ≡ None) seen (none next), ap (λ (x : Slab (Placed P D)). hub_of x next) unchanged ∙ seen)

module _ {P D : Type 0} (s reserved new : Slab (Placed P D)) (next : ℕ) (now : HubState) (seen : hub_of s next ≡ now) where
  -- a controller is put into a slot that was reserved
  pub is_seated : (slot : ℕ) (controller : Control) → reserved ≡ record s { capacity = reserved.capacity } → get reserved slot ≡ None → Updates reserved new slot (Some (record { serial = next; controller = controller })) → next < no_serial → IsSeated now controller (record { slot = slot; serial = next }) (hub_of new (next + 1))
  is_seated slot controller room vacant updates left =
      subst (λ h. IsSeated h controller t (hub_of new (next + 1))) seen (record {
        left = left;
        serial = refl;
        vacant = none_there s t (sym empty) next;
        cells = puts_there s t new next (next + 1) _ (record { changed = updates.changed; others = λ other differ. updates.others other differ ∙ as_before other }) (subst (λ o. HasSerial o next) (sym empty) tt) refl;
        next_serial = refl;
      })
    where
      t : Ticket
      t = record { slot = slot; serial = next }

      as_before : (key : ℕ) → get reserved key ≡ get s key
      as_before key = ap (λ (x : Slab (Placed P D)). get x key) room

      empty : get s slot ≡ None
      empty = sym (as_before slot) ∙ vacant

-- one that has just begun is made of its plan
pub is_admitted : (old new : HubState) (plan : VerifiedPlan) (t : Ticket) (controller : Control) → IsSeated old controller t new → controller ≡ control_at_start plan → IsAdmitted old plan t new
is_admitted old new plan t controller seated start = subst (λ (c : Control). IsSeated old c t new) start seated

-- a report finds no cell exactly where the ticket has none
pub report_finds : (old new : HubState) (t : Ticket) (r : reports.Report) (result : Result Ack HubFault) → IsCall old (Reported t r result) new → (result ≡ Err NoSuchCell) ↔ (cell_at old t ≡ None)
report_finds old new t r (Ok ack) is = ((λ same. absurd (cc)), λ none. let e = is.cell in absurd (cc))
report_finds old new t r (Err NoSuchCell) is = ((λ same. is.0), λ none. refl)
report_finds old new t r (Err SerialsSpent) is = absurd is.0
report_finds old new t r (Err Memory) is = absurd is.0
report_finds old new t r (Err (Cell reason)) is = ((λ same. absurd (cc)), λ none. let e = is.0.1 in absurd (cc))

-- why a claim isn't accepted has no second reason
pub only_refusal : (h : HubState) (t : Ticket) (claim : Claim) (fault : HubFault) → IsNotClaimed h t claim fault → IsOnlyRefusal h t claim fault
only_refusal h t claim NoSuchCell none NoSuchCell other = refl
only_refusal h t claim NoSuchCell none SerialsSpent other = absurd other
only_refusal h t claim NoSuchCell none Memory other = absurd other
only_refusal h t claim NoSuchCell none (Cell reason) other = let e = other.1 in absurd (cc)
only_refusal h t claim SerialsSpent first fault other = absurd first
only_refusal h t claim Memory first fault other = absurd first
only_refusal h t claim (Cell reason) first NoSuchCell other = let e = first.1 in absurd (cc)
only_refusal h t claim (Cell reason) first SerialsSpent other = absurd other
only_refusal h t claim (Cell reason) first Memory other = absurd other
only_refusal h t claim (Cell reason) first (Cell another) other =
    let e = first.1 in
    let f = other.1 in
    let same : other.0 ≡ first.0 = cc in
    ap Cell (only_claim_reason first.0.planned first.0.cell claim reason first.2 another (subst (λ (c : Control). IsClaimReason c.planned c.cell claim another) same other.2))

pub report_only : (old new : HubState) (t : Ticket) (r : reports.Report) (result : Result Ack HubFault) → IsCall old (Reported t r result) new → IfErr result (IsOnlyRefusal old t (Report r))
report_only old new t r (Ok ack) is = tt
report_only old new t r (Err fault) is = only_refusal old t (Report r) fault is.0

-- a dismissal finds no cell exactly where the ticket has none
pub dismissal_finds : (old new : HubState) (t : Ticket) (result : Result Control HubFault) → IsCall old (Dismissed t result) new → (result ≡ Err NoSuchCell) ↔ (cell_at old t ≡ None)
dismissal_finds old new t (Ok content) is = ((λ same. absurd (cc)), λ none. let e = is.cell in absurd (cc))
dismissal_finds old new t (Err fault) is = ((λ same. is.1), λ none. ap Err is.0)

-- a dismissal that finds a cell takes it out
pub dismissal_takes : (old new : HubState) (t : Ticket) (result : Result Control HubFault) → IsCall old (Dismissed t result) new → IfOk result (λ content. IsDismissed old t content new)
dismissal_takes old new t (Ok content) is = is
dismissal_takes old new t (Err fault) is = tt

-- a ticket with a cell isn't without one
pub there_not_none : (h : HubState) (t : Ticket) (v : Control) → cell_at h t ≡ Some v → cell_at h t ≡ None → ⊥
there_not_none h t v is none = absurd (cc)

-- and it has one
pub same_content : (h : HubState) (t : Ticket) (v w : Control) → cell_at h t ≡ Some v → cell_at h t ≡ Some w → v ≡ w
same_content h t v w is also = cc

-- a report that was found possible in the ticket's cell was so whatever the next serial is
pub possible_there : {P D : Type 0} (s : Slab (Placed P D)) (next : ℕ) (now : HubState) → hub_of s next ≡ now → (t : Ticket) (examined : ExaminedReport) → IsPossibleAt now t examined → (n : ℕ) → IsPossibleAt (hub_of s n) t examined
possible_there s next now seen t examined is n =
    let there = subst (λ (h : HubState). IsPossibleAt h t examined) (sym seen) is in
    record { control = there.control; cell = there.cell; possible = there.possible }

-- the slot of a ticket in whose cell a report was found possible
module _ {P D : Type 0} (s : Slab (Placed P D)) (t : Ticket) (examined : ExaminedReport) (there : (n : ℕ) → IsPossibleAt (hub_of s n) t examined) where
  its_own : (placed : Placed P D) → Some placed ≡ get s t.slot → placed.serial ≡ t.serial
  its_own placed found = its_serial s t placed found (λ none. there_not_none (hub_of s 0) t (there 0).control (there 0).cell none)

  pub possible_in : (placed : Placed P D) → Some placed ≡ get s t.slot → IsPossible placed.controller.planned placed.controller.cell examined
  possible_in placed found =
      subst (λ (v : Control). IsPossible v.planned v.cell examined)
      (same_content (hub_of s 0) t (there 0).control placed.controller (there 0).cell (stands_there s t placed found (its_own placed found) 0)) (there 0).possible

  pub not_empty : None ≡ get s t.slot → ⊥
  not_empty none = there_not_none (hub_of s 0) t (there 0).control (there 0).cell (none_there s t none 0)

  pub accepts_there : (placed : Placed P D) (ack : Ack) (after : Control) → Some placed ≡ get s t.slot → IsAnswered placed.controller examined.report ack after → (next : ℕ)
      → IsReported (hub_of s next) t examined.report ack (hub_of (with_value s t.slot (record placed { controller = after })) next)
  accepts_there placed ack after found is next = reports_there s t placed examined.report ack after found (its_own placed found) is next
