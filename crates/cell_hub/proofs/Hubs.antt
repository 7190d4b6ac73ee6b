-- What a look into a slot, and a change of it, say of a hub.
use Rattle.std.proofs.Common.{◌≡◌, ℕ, Option, Some, None, IsSome, is_some, IfSome, option_copied, Bor, true, false, inl, inr, refl, sym, ap, ◌∙◌, subst}
use Rattle.std.proofs.lemmas.Bool.{cases_eq, eq-eqb, ne_eqb}
use Rattle.shop_base.specs.declared.report.Report.{Report}
use Rattle.slab.specs.Slab.{Slab, get, with_value, Updates}
use Rattle.slab.proofs.SlabLemmas.{Updates-with_value}
use Rattle.cell_control.specs.{declared.ack.Ack.Ack, Control.{Control, IsAnswered}}
use Rattle.cell_hub.specs.{declared.slots.Ticket.Ticket, declared.slots.Placed.Placed, Hub.{cell_at, Puts}}
use Rattle.cell_hub.specs.{Slots.hub_of, Calls.{IsReported, IsDismissed}}
use Rattle.cell_hub.proofs.{Tickets.{in_slot, cell_at-slot}, Puts.{HasSerial, slot_puts}}

module _ {P D : Type 0} (s : Slab (Placed P D)) (t : Ticket) where
  pub stands_there : (placed : Placed P D) → Some placed ≡ get s t.slot → placed.serial ≡ t.serial → (next : ℕ) → cell_at (hub_of s next) t ≡ Some placed.controller
  stands_there placed found same next = cell_at-slot s next t ∙ ap (λ o. in_slot o t.serial) (sym found) ∙ rw (eq-eqb t.serial placed.serial (sym same)) refl

  pub another_there : (placed : Placed P D) → Some placed ≡ get s t.slot → (placed.serial ≡ t.serial → ⊥) → (next : ℕ) → cell_at (hub_of s next) t ≡ None
  another_there placed found differ next = cell_at-slot s next t ∙ ap (λ o. in_slot o t.serial) (sym found) ∙ rw (ne_eqb t.serial placed.serial (λ same. differ (sym same))) refl

  pub none_there : None ≡ get s t.slot → (next : ℕ) → cell_at (hub_of s next) t ≡ None
  none_there none next = cell_at-slot s next t ∙ ap (λ o. in_slot o t.serial) (sym none)

  -- what holds of the cell in the ticket's slot, under the ticket's serial, holds of the ticket's cell
  pub holds_there : (Holds : Control → Type 0) (placed : Placed P D) → Some placed ≡ get s t.slot → placed.serial ≡ t.serial → Holds placed.controller → (next : ℕ) → IfSome (cell_at (hub_of s next) t) Holds
  holds_there Holds placed found same holds next = subst (λ o. IfSome o Holds) (sym (stands_there placed found same next)) holds

  -- anything holds of a cell that isn't there
  pub holds_nowhere : (Holds : Control → Type 0) (next : ℕ) → cell_at (hub_of s next) t ≡ None → IfSome (cell_at (hub_of s next) t) Holds
  holds_nowhere Holds next none = subst (λ o. IfSome o Holds) (sym none) tt

  -- where a slot has no cell, or the ticket's, a cell of the ticket in it is the ticket's
  pub puts_there : (new : Slab (Placed P D)) (before after : ℕ) (placed : Placed P D) → Updates s new t.slot (Some placed) → HasSerial (get s t.slot) t.serial → placed.serial ≡ t.serial → Puts (hub_of s before) (hub_of new after) t (Some placed.controller)
  puts_there new before after placed updates had same =
      subst (Puts (hub_of s before) (hub_of new after) t) (rw (eq-eqb t.serial placed.serial (sym same)) refl)
      (slot_puts s new before after t (Some placed) updates had (sym same))

  pub reports_there : (placed : Placed P D) (r : Report) (ack : Ack) (after : Control) → Some placed ≡ get s t.slot → placed.serial ≡ t.serial → IsAnswered placed.controller r ack after → (next : ℕ) → IsReported (hub_of s next) t r ack (hub_of (with_value s t.slot (record placed { controller = after })) next)
  reports_there placed r ack after found same is next = record {
    before = placed.controller;
    after = after;
    cell = stands_there placed found same next;
    answered = is;
    cells = puts_there _ next next (record placed { controller = after }) (Updates-with_value s t.slot _ (subst IsSome found refl)) (subst (λ o. HasSerial o t.serial) found (sym same)) same;
    next_serial = refl;
  }

  -- a cell in the ticket's slot is the ticket's where the ticket has one
  pub its_serial : (placed : Placed P D) → Some placed ≡ get s t.slot → (cell_at (hub_of s 0) t ≡ None → ⊥) → placed.serial ≡ t.serial
  its_serial placed found stands = elim (cases_eq placed.serial t.serial) [ inl same ↦ same | inr differ ↦ absurd (stands (another_there placed found differ 0)) ]

  pub takes_there : (new : Slab (Placed P D)) (placed : Placed P D) → Some placed ≡ get s t.slot → (cell_at (hub_of s 0) t ≡ None → ⊥) → Updates s new t.slot None → (next : ℕ) → IsDismissed (hub_of s next) t placed.controller (hub_of new next)
  takes_there new placed found stands updates next =
      let same = its_serial placed found stands in
      record {
        cell = stands_there placed found same next;
        cells = slot_puts s new next next t None updates (subst (λ o. HasSerial o t.serial) found (sym same)) tt;
        next_serial = refl;
      }

-- a reference that is there is none to nothing
pub shows : {T : Type 0} (r : Option (Bor T)) → is_some r ≡ true → option_copied r ≡ None → ⊥
shows None some none = absurd (cc)
shows (Some x) some none = absurd (cc)

pub shows_none : {T : Type 0} (r : Option (Bor T)) → is_some r ≡ false → option_copied r ≡ None
shows_none None none = refl
shows_none (Some x) none = absurd (cc)
