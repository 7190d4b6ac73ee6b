-- What a change of one slot makes of the cells.
use Rattle.std.proofs.Common.{◌≡◌, ◌≢◌, ℕ, ◌<◌, ◌≤◌, Option, Some, None, refl, sym, ap, ◌∙◌, inl, inr, arith, subst}
use Rattle.std.proofs.lemmas.Bool.{cases_eq, ne_eqb}
use Rattle.slab.specs.Slab.{Slab, get, Updates}
use Rattle.cell_control.specs.Control.{Control}
use Rattle.cell_hub.specs.{declared.slots.Ticket.Ticket, declared.slots.Placed.Placed}
use Rattle.cell_hub.specs.{Hub.{HubState, cell_at, Puts, AreSerialsBelow}, Slots.hub_of}
use Rattle.cell_hub.proofs.Tickets.{same_ticket, in_slot, cell_at-slot}

-- the serials are still below the next one after a change of one cell, if that cell's is
pub serials_below : (old new : HubState) (t : Ticket) (content : Option Control) → Puts old new t content → old.next_serial ≤ new.next_serial → ((c : Control) → content ≡ Some c → t.serial < new.next_serial) → AreSerialsBelow old → AreSerialsBelow new
serials_below old new t content puts up own below other c found =
    elim (same_ticket other t) [
      | inl same ↦ subst (λ (u : Ticket). u.serial < new.next_serial) (sym same) (own c (sym puts.changed ∙ ap (cell_at new) (sym same) ∙ found))
      | inr differ ↦ let so = below other c (sym (puts.others other differ) ∙ found) in omega arith
    ]

module _ {P D : Type 0} where
  -- a slot is empty, or has a cell with this serial
  abbrev pub HasSerial : Option (Placed P D) → ℕ → Type 0
  HasSerial None serial = Unit {0}
  HasSerial (Some placed) serial = serial ≡ placed.serial

  in_own_slot : (slot : Option (Placed P D)) (serial other : ℕ) → HasSerial slot serial → other ≢ serial → in_slot slot other ≡ None
  in_own_slot None serial other has differ = refl
  in_own_slot (Some placed) serial other has differ = rw (ne_eqb other placed.serial (λ same. differ (same ∙ sym has))) refl

  -- a change of a ticket's slot, which had no cell of another ticket and has none, is one of the ticket's cell alone
  pub slot_puts : (old new : Slab (Placed P D)) (before after : ℕ) (t : Ticket) (slot : Option (Placed P D)) → Updates old new t.slot slot → HasSerial (get old t.slot) t.serial → HasSerial slot t.serial → Puts (hub_of old before) (hub_of new after) t (in_slot slot t.serial)
  slot_puts old new before after t slot updates had has = record {
    changed = cell_at-slot new after t ∙ ap (λ s. in_slot s t.serial) updates.changed;
    others = others;
  }
    where
      in_slot_of : (other : Ticket) → other ≢ t → in_slot (get new other.slot) other.serial ≡ in_slot (get old other.slot) other.serial
      in_slot_of other differ =
          elim (cases_eq other.slot t.slot) [
            | inl slots ↦
                let serials : other.serial ≢ t.serial = λ same. differ (λ i. record { slot = slots i; serial = same i }) in
                let now : in_slot (get new other.slot) other.serial ≡ None = ap (λ k. in_slot (get new k) other.serial) slots ∙ ap (λ s. in_slot s other.serial) updates.changed ∙ in_own_slot slot t.serial other.serial has serials in
                let was : in_slot (get old other.slot) other.serial ≡ None = ap (λ k. in_slot (get old k) other.serial) slots ∙ in_own_slot (get old t.slot) t.serial other.serial had serials in
                now ∙ sym was
            | inr apart ↦ ap (λ s. in_slot s other.serial) (updates.others other.slot apart)
          ]

      others : (other : Ticket) → other ≢ t → cell_at (hub_of new after) other ≡ cell_at (hub_of old before) other
      others other differ = cell_at-slot new after other ∙ in_slot_of other differ ∙ sym (cell_at-slot old before other)
