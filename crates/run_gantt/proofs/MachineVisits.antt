-- The visits to each machine, with one entry more before the others.
use Rattle.std.proofs.Common.{◌≡◌, ℕ, ◌<◌, ◌≤◌, ◌⊎◌, inl, inr, List, [], ◌∷◌, length, get_or, set, refl, sym, ap, subst, ◌∙◌, arith, get_or-set_same, get_or-set_other, length-set}
use Rattle.std.proofs.lemmas.Bool.{cases_eq, eq-eqb, ne_eqb}
use Rattle.std.proofs.lemmas.List.{ext_get_or}
use Rattle.std.proofs.lemmas.List.FromFn.{get_or-map-range_with_len, length-map-range_with_len}
use Rattle.shop_base.specs.declared.move_order.Spot.TheVariants.{At}
use Rattle.shop_base.specs.declared.move_order.MoveOrder.{MoveOrder}
use Rattle.cell_tables.specs.declared.entry.Entry.{Entry}
use Rattle.cell_tables.specs.declared.entry.Entry.TheVariants.{Order as OrderEntry}
use Rattle.run_gantt.specs.declared.visits.LoggedVisit.{LoggedVisit}
use Rattle.run_gantt.specs.Visits.{logged_visit_of, visits_to, machine_visits}

pub machine_visits-count : (n : ℕ) (entries : List Entry) → length (machine_visits n entries) ≡ n
machine_visits-count n entries = length-map-range_with_len (λ m. visits_to m entries) 0 n

pub machine_visits-at : (n m : ℕ) (entries : List Entry) → m < n → get_or (machine_visits n entries) m [] ≡ visits_to m entries
machine_visits-at n m entries inside = get_or-map-range_with_len (λ m. visits_to m entries) 0 n m m [] inside (omega arith)

visits-elsewhere : (order : MoveOrder) (later : List Entry) (m i : ℕ) → order.target ≡ At m → (m ≡ i → ⊥) → visits_to i (OrderEntry order ∷ later) ≡ visits_to i later
visits-elsewhere order later m i to other = rw (to, ne_eqb m i other) refl

visits-here : (order : MoveOrder) (later : List Entry) (m : ℕ) → order.target ≡ At m → visits_to m (OrderEntry order ∷ later) ≡ logged_visit_of order m later ∷ visits_to m later
visits-here order later m to = rw (to, eq-eqb m m refl) refl

-- a move to a machine that isn't among them
pub machine_visits-passed : (n : ℕ) (order : MoveOrder) (later : List Entry) (m : ℕ) → order.target ≡ At m → n ≤ m → machine_visits n (OrderEntry order ∷ later) ≡ machine_visits n later
machine_visits-passed n order later m to past =
    ext_get_or [] (machine_visits n (OrderEntry order ∷ later)) (machine_visits n later)
    (machine_visits-count n (OrderEntry order ∷ later) ∙ sym (machine_visits-count n later)) λ i within.
    let inside : i < n = omega (arith, within, machine_visits-count n (OrderEntry order ∷ later)) in
    machine_visits-at n i (OrderEntry order ∷ later) inside
    ∙ visits-elsewhere order later m i to (λ same. absurd (omega (arith, same)))
    ∙ sym (machine_visits-at n i later inside)

-- the visit that a move begins is put before the others to its machine
module _ (n : ℕ) (order : MoveOrder) (later : List Entry) (m : ℕ) (to : order.target ≡ At m) (inside : m < n) where
  abbrev noted : List (List LoggedVisit)
  noted = set (machine_visits n later) m (logged_visit_of order m later ∷ get_or (machine_visits n later) m [])

  noted-here : get_or (machine_visits n (OrderEntry order ∷ later)) m [] ≡ get_or noted m []
  noted-here =
      machine_visits-at n m (OrderEntry order ∷ later) inside
      ∙ visits-here order later m to
      ∙ ap (λ (l : List LoggedVisit). logged_visit_of order m later ∷ l) (sym (machine_visits-at n m later inside))
      ∙ sym (get_or-set_same (machine_visits n later) m (logged_visit_of order m later ∷ get_or (machine_visits n later) m []) [] (omega (arith, inside, machine_visits-count n later)))

  noted-other : (i : ℕ) → i < n → (i ≡ m → ⊥) → get_or (machine_visits n (OrderEntry order ∷ later)) i [] ≡ get_or noted i []
  noted-other i within other =
      machine_visits-at n i (OrderEntry order ∷ later) within
      ∙ visits-elsewhere order later m i to (λ same. other (sym same))
      ∙ sym (machine_visits-at n i later within)
      ∙ sym (get_or-set_other (machine_visits n later) m i (logged_visit_of order m later ∷ get_or (machine_visits n later) m []) [] other)

  pub machine_visits-noted : machine_visits n (OrderEntry order ∷ later) ≡ noted
  machine_visits-noted =
      ext_get_or [] (machine_visits n (OrderEntry order ∷ later)) noted
      (machine_visits-count n (OrderEntry order ∷ later) ∙ sym (length-set (machine_visits n later) m (logged_visit_of order m later ∷ get_or (machine_visits n later) m []) ∙ machine_visits-count n later))
      λ i among. go i (omega (arith, among, machine_visits-count n (OrderEntry order ∷ later))) (cases_eq i m)
    where
      go : (i : ℕ) → i < n → (i ≡ m) ⊎ (i ≡ m → ⊥) → get_or (machine_visits n (OrderEntry order ∷ later)) i [] ≡ get_or noted i []
      go i within (inl same) = subst (λ (x : ℕ). get_or (machine_visits n (OrderEntry order ∷ later)) x [] ≡ get_or noted x []) (sym same) noted-here
      go i within (inr other) = noted-other i within other
