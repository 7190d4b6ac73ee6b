-- Lists in parts, and moves among events.
use Rattle.std.proofs.Common.{◌≡◌, List, [], ◌∷◌, ◌++◌, map, ◌⊎◌, inl, inr, refl, sym, ap}
use Rattle.shop_base.specs.{declared.move_order.MoveOrder.MoveOrder, declared.report.Report.Report, Controlled.moved}
use Rattle.shop_base.specs.Run.{Event, Reported, Moved}
use Rattle.cell_tables.specs.declared.entry.Entry.{Entry, TheVariants.{Report as ReportEntry, Order as OrderEntry}}
use Rattle.cell_tables.specs.Events.{events_of}
use Rattle.cell_drive.specs.OneRun.{IsBeforeReport}

-- two ways to part a list: one front begins the other
pub append_parts : {A : Type 0} (a x b y : List A) → a ++ x ≡ b ++ y
    → ((c : List A) × (a ≡ b ++ c) × (y ≡ c ++ x)) ⊎ ((c : List A) × (b ≡ a ++ c) × (x ≡ c ++ y))
append_parts [] x b y same = inr (b, refl, same)
append_parts (i ∷ a) x [] y same = inl (i ∷ a, refl, sym same)
append_parts (i ∷ a) x (j ∷ b) y same =
    let heads : i ≡ j = cc in
    let tails : a ++ x ≡ b ++ y = cc in
    elim (append_parts a x b y tails) [
      | inl (c, first, second) ↦ inl (c, cc, second)
      | inr (c, first, second) ↦ inr (c, cc, second)
    ]

-- the events of orders are moves
pub events-orders : (os : List MoveOrder) → events_of (map OrderEntry os) ≡ moved os
events-orders [] = refl
events-orders (o ∷ os) = ap (λ es. Moved o ∷ es) (events-orders os)

-- what stands behind some of the moves are moves
pub moved_rest : (os : List MoveOrder) (a d : List Event) → moved os ≡ a ++ d → (ds : List MoveOrder) × (d ≡ moved ds)
moved_rest os [] d same = (os, sym same)
moved_rest [] (e ∷ a) d same = absurd (cc)
moved_rest (o ∷ os) (e ∷ a) d same = let tails : moved os ≡ a ++ d = cc in moved_rest os a d tails

-- nothing behind moves is a move and no move
pub moved_alone : (os : List MoveOrder) (b r : List Event) → moved os ≡ b ++ r → IsBeforeReport r → r ≡ []
moved_alone os b [] same before = refl
moved_alone os b (Moved o ∷ r) same before = absurd before
moved_alone os [] (Reported q ∷ r) same before = absurd (first os same)
  where
    first : (os : List MoveOrder) → moved os ≡ Reported q ∷ r → ⊥
    first [] is = absurd (cc)
    first (o ∷ os) is = absurd (cc)
moved_alone [] (e ∷ b) (Reported q ∷ r) same before = absurd (cc)
moved_alone (o ∷ os) (e ∷ b) (Reported q ∷ r) same before = let tails : moved os ≡ b ++ Reported q ∷ r = cc in moved_alone os b (Reported q ∷ r) tails before

pub moved_none : (os : List MoveOrder) → moved os ≡ [] → os ≡ []
moved_none [] same = refl
moved_none (o ∷ os) same = absurd (cc)

pub moved_no_report : (os : List MoveOrder) (q : Report) (r : List Event) → moved os ≡ Reported q ∷ r → ⊥
moved_no_report [] q r same = absurd (cc)
moved_no_report (o ∷ os) q r same = absurd (cc)

-- entries that begin with moves begin with these orders
pub entries_moved : (es : List Entry) (due : List MoveOrder) (gs : List Event) → events_of es ≡ moved due ++ gs
    → (later : List Entry) × (es ≡ map OrderEntry due ++ later) × (events_of later ≡ gs)
entries_moved es [] gs same = (es, refl, same)
entries_moved [] (o ∷ due) gs same = absurd (cc)
entries_moved (ReportEntry r ∷ es) (o ∷ due) gs same = absurd (cc)
entries_moved (OrderEntry q ∷ es) (o ∷ due) gs same =
    let tails : events_of es ≡ moved due ++ gs = cc in
    let heads : q ≡ o = cc in
    let (later, split, events) = entries_moved es due gs tails in
    (later, cc, events)
