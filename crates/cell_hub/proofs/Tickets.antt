-- The cell of a ticket is the one in the ticket's slot, where it has the ticket's serial.
use Rattle.std.proofs.Common.{◌≡◌, ◌≢◌, ◌⊎◌, ℕ, zero, suc, ◌+◌, ◌<◌, List, [], ◌∷◌, Option, Some, None, map, get_or, refl, sym, ap, inl, inr, arith, cond, eqb, zero-add}
use Rattle.std.proofs.lemmas.Bool.{cases_eq, eq-eqb, ne_eqb}
use Rattle.slab.specs.Slab.{Slab, get, entries_from}
use Rattle.cell_control.specs.Control.{Control}
use Rattle.cell_hub.specs.{declared.slots.Ticket.Ticket, declared.slots.Placed.Placed, Hub.{find, cell_at}}
use Rattle.cell_hub.specs.Slots.{under_ticket, hub_of}

-- two tickets are one, or differ
pub same_ticket : (one other : Ticket) → (one ≡ other) ⊎ (one ≢ other)
same_ticket one other =
    elim (cases_eq one.slot other.slot) [
      | inl slots ↦ elim (cases_eq one.serial other.serial) [
        | inl serials ↦ inl (λ i. record { slot = slots i; serial = serials i })
        | inr differ ↦ inr (λ same. differ (ap (λ (t : Ticket). t.serial) same))
      ]
      | inr differ ↦ inr (λ same. differ (ap (λ (t : Ticket). t.slot) same))
    ]

module _ {P D : Type 0} where
  -- the content that a slot has under a serial
  abbrev pub in_slot : Option (Placed P D) → ℕ → Option Control
  in_slot None serial = None
  in_slot (Some placed) serial = cond (eqb serial placed.serial) (Some placed.controller) None

  -- nothing stands under a ticket whose slot comes before these
  before_slots : (first : ℕ) (slots : List (Option (Placed P D))) (t : Ticket) → t.slot < first → find t (map under_ticket (entries_from first slots)) ≡ None
  before_slots first [] t below = refl
  before_slots first (None ∷ rest) t below = before_slots (first + 1) rest t (omega arith)
  before_slots first (Some placed ∷ rest) t below =
      let differ : t.slot ≢ first = omega arith in
      rw (ne_eqb t.slot first differ) (before_slots (first + 1) rest t (omega arith))

  here : (serial : ℕ) (placed : Placed P D) (rest : Option Control) → rest ≡ None → cond (eqb serial placed.serial) (Some placed.controller) rest ≡ in_slot (Some placed) serial
  here serial placed rest none = rw none refl

  from_slots : (first : ℕ) (slots : List (Option (Placed P D))) (t : Ticket) (at : ℕ) → t.slot ≡ first + at → find t (map under_ticket (entries_from first slots)) ≡ in_slot (get_or slots at None) t.serial
  from_slots first [] t at is = refl
  from_slots first (None ∷ rest) t zero is = before_slots (first + 1) rest t (omega arith)
  from_slots first (None ∷ rest) t (suc at) is = from_slots (first + 1) rest t at (omega arith)
  from_slots first (Some placed ∷ rest) t zero is =
      let same : t.slot ≡ first = omega arith in
      rw (eq-eqb t.slot first same) (here t.serial placed _ (before_slots (first + 1) rest t (omega arith)))
  from_slots first (Some placed ∷ rest) t (suc at) is =
      let differ : t.slot ≢ first = omega arith in
      rw (ne_eqb t.slot first differ) (from_slots (first + 1) rest t at (omega arith))

  pub cell_at-slot : (s : Slab (Placed P D)) (next : ℕ) (t : Ticket) → cell_at (hub_of s next) t ≡ in_slot (get s t.slot) t.serial
  cell_at-slot s next t = from_slots 0 s.slots t t.slot (sym (zero-add t.slot))
