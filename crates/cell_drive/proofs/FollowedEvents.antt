-- Events that are followed one after another, and which of them are late reports.
use Rattle.std.proofs.Common.{◌≡◌, ℕ, ◌+◌, ◌<◌, Bool, List, [], ◌∷◌, ◌++◌, length, take, drop, get_or, refl, sym, ap, ◌∙◌, subst}
use Rattle.std.proofs.lemmas.List.{take_more, drop_more}
use Rattle.shop_base.specs.{Plan.PlannedShop, Cell.Cell, Run.{AreEvents, CanHappen, after, after_all}}
use Rattle.shop_base.proofs.ControlledRuns.{after_all_join}
use Rattle.cell_tables.specs.{declared.entry.Entry.Entry, Events.{event_of, events_of}}
use Rattle.run_log.proofs.Audits.{events-join}
use Rattle.cell_drive.specs.LateEvents.{AreLate, IsLateEvent}

-- the next event can happen, and those after it behind it
pub next_event : (p : PlannedShop) (c : Cell) (entries : List Entry) (i : ℕ) (d : Entry) → i < length entries → AreEvents p c (events_of (drop i entries))
    → CanHappen p c (event_of (get_or entries i d)) × AreEvents p (after p c (event_of (get_or entries i d))) (events_of (drop (i + 1) entries))
next_event p c entries i d below events = subst (λ (es : List Entry). AreEvents p c (events_of es)) (drop_more entries i d below) events

-- and so from the cell that it makes
pub more_events : (p q : PlannedShop) (c x : Cell) (entries : List Entry) (i : ℕ) (d : Entry) → i < length entries → q ≡ p → x ≡ after p c (event_of (get_or entries i d))
    → AreEvents p c (events_of (drop i entries)) → AreEvents q x (events_of (drop (i + 1) entries))
more_events p q c x entries i d below same is events =
    subst (λ (r : PlannedShop). AreEvents r x (events_of (drop (i + 1) entries))) (sym same)
    (subst (λ (y : Cell). AreEvents p y (events_of (drop (i + 1) entries))) (sym is) (next_event p c entries i d below events).1)

late_more : (p : PlannedShop) (c : Cell) (es : List Entry) (late : List Bool) (e : Entry) (f : Bool) → AreLate p c es late → IsLateEvent p (after_all p c (events_of es)) e f
    → AreLate p c (es ++ e ∷ []) (late ++ f ∷ [])
late_more p c [] [] e f are is = (is, refl)
late_more p c [] (g ∷ late) e f are is = absurd (cc)
late_more p c (x ∷ es) [] e f are is = absurd are
late_more p c (x ∷ es) (g ∷ late) e f are is = (are.0, late_more p (after p c (event_of x)) es late e f are.1 is)

-- the first of some events have happened, by which it is known which were late, and the others can
pub record HaveHappened (p : PlannedShop) (c now : Cell) (entries : List Entry) (n : ℕ) (late : List Bool) : Type 0 where
  pub late_are : AreLate p c (take n entries) late
  pub cell : now ≡ after_all p c (events_of (take n entries))
  pub rest : AreEvents p now (events_of (drop n entries))

-- so has the next one
pub one_more_happened : (p q : PlannedShop) (c now new : Cell) (entries : List Entry) (i : ℕ) (d : Entry) (late more : List Bool) (f : Bool) → i < length entries → q ≡ p
    → HaveHappened p c now entries i late → IsLateEvent q now (get_or entries i d) f → new ≡ after q now (event_of (get_or entries i d)) → more ≡ late ++ f ∷ []
    → HaveHappened p c new entries (i + 1) more
one_more_happened p q c now new entries i d late more f below same so_far is_late new_is more_is =
    let e = get_or entries i d in
    let first = take i entries in
    let here : new ≡ after p now (event_of e) = new_is ∙ ap (λ (x : PlannedShop). after x now (event_of e)) same in
    let event : IsLateEvent p (after_all p c (events_of first)) e f =
    subst (λ (x : Cell). IsLateEvent p x e f) so_far.cell (subst (λ (x : PlannedShop). IsLateEvent x now e f) same is_late) in
    let more_first : take (i + 1) entries ≡ first ++ e ∷ [] = take_more entries i d below in
    record {
      late_are = subst (λ (ls : List Bool). AreLate p c (take (i + 1) entries) ls) (sym more_is)
          (subst (λ (es : List Entry). AreLate p c es (late ++ f ∷ [])) (sym more_first) (late_more p c first late e f so_far.late_are event));
      cell = here ∙ ap (λ (x : Cell). after p x (event_of e)) so_far.cell ∙ sym (after_all_join p c (events_of first) (event_of e ∷ []))
          ∙ ap (after_all p c) (sym (ap events_of more_first ∙ events-join first (e ∷ [])));
      rest = more_events p p now new entries i d below refl here so_far.rest;
    }
