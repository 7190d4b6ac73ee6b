-- A run that is followed entry by entry.
use Rattle.std.proofs.Common.{◌≡◌, ℕ, ◌+◌, ◌<◌, ◌≤◌, Some, arith, List, ◌∷◌, length, get_or, drop, ap, ◌∙◌, subst, add-one, drop-cons, sym}
use Rattle.std.proofs.lemmas.List.{drop_all}
use Rattle.shop_base.specs.{Plan.PlannedShop, Cell.Cell, Report.IsNextMoment}
use Rattle.shop_base.specs.Run.{CanHappen, AreEvents, after, after_all}
use Rattle.cell_tables.specs.declared.entry.Entry.{Entry}
use Rattle.cell_tables.specs.Events.{event_of, events_of}
use Rattle.cell_tables.specs.Rests.{IsPresentFault}
use Rattle.cell_tables.specs.declared.present_fault.PresentFault.{PresentFault}
use Rattle.cell_tables.specs.declared.present_fault.PresentFault.TheVariants.{Past, TooLarge}

module _ (entries : List Entry) (i : ℕ) (d : Entry) (inside : i < length entries) where
  -- the entries from there on
  from_there : drop i entries ≡ get_or entries i d ∷ drop (i + 1) entries
  from_there = drop-cons entries i d inside ∙ ap (λ (n : ℕ). get_or entries i d ∷ drop n entries) (sym (add-one i))

  module _ (p : PlannedShop) (c : Cell) where
    -- the next one can happen, and those behind it can then
    pub next_happens : AreEvents p c (events_of (drop i entries))
        → CanHappen p c (event_of (get_or entries i d)) × AreEvents p (after p c (event_of (get_or entries i d))) (events_of (drop (i + 1) entries))
    next_happens events = subst (λ (es : List Entry). AreEvents p c (events_of es)) from_there events

    -- which leads to the same end
    pub next_leads : (end : Cell) → after_all p c (events_of (drop i entries)) ≡ end → after_all p (after p c (event_of (get_or entries i d))) (events_of (drop (i + 1) entries)) ≡ end
    next_leads end leads = subst (λ (es : List Entry). after_all p c (events_of es) ≡ end) from_there leads

-- behind the last entry is the end
pub ends_there : (entries : List Entry) (i : ℕ) (p : PlannedShop) (c end : Cell) → length entries ≤ i → after_all p c (events_of (drop i entries)) ≡ end → c ≡ end
ends_there entries i p c end past leads = subst (λ (es : List Entry). after_all p c (events_of es) ≡ end) (drop_all i entries past) leads

-- a moment that can be the next one can be the present one
pub can_be_present : (c : Cell) (t : ℕ) (fault : PresentFault) → IsNextMoment c t → IsPresentFault (Some t) c.last fault → ⊥
can_be_present c t (Past last) moment is = omega (arith, moment.in_order, is.0)
can_be_present c t TooLarge moment is = omega (arith, moment.in_range, is.1)
