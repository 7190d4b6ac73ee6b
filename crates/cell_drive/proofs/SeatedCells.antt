-- The contents of the cells that a hub has under tickets.
use Rattle.std.proofs.Common.{◌≡◌, ℕ, zero, suc, ◌+◌, ◌<◌, ◌≤◌, List, [], ◌∷◌, ◌++◌, set, length, drop, get_or, None, Some, Option, refl, sym, ap, ◌∙◌, subst, arith}
use Rattle.std.proofs.{Math.ListN.drop_of_length-le, lemmas.List.length-map}
use Rattle.std.specs.Prelude.{◌≢◌, slice_get}
use Rattle.cell_control.specs.Control.{Control}
use Rattle.cell_hub.specs.{declared.slots.Ticket.Ticket, Hub.{HubState, cell_at, Puts}}
use Rattle.cell_drive.specs.{ManyCells.HubCell, Numbers.{planned_cell, planned_cells}}
use Rattle.cell_drive.specs.Tickets.{AreSeated, HasCell, cells_of, contents, with_content}

head_is : (h : HubState) (t : Ticket) (ts : List Ticket) (v : Control) → cell_at h t ≡ Some v → contents h (t ∷ ts) ≡ v ∷ contents h ts
head_is h t ts v has = ap (λ (o : Option Control). with_content o (contents h ts)) has

-- there are as many
pub as_many : (h : HubState) (n : ℕ) (ts : List Ticket) → AreSeated h n ts → length (contents h ts) ≡ length ts
as_many h n [] seated = refl
as_many h n (t ∷ ts) (has, serial, others) = ap (λ (cs : List Control). length cs) (head_is h t ts has.0 has.1) ∙ ap suc (as_many h (suc n) ts others)

-- the cell of the ticket of a number, and its serial
pub record IsThere (h : HubState) (n : ℕ) (ts : List Ticket) (k : ℕ) (t : Ticket) : Type 0 where
  pub content : Control
  pub cell : cell_at h t ≡ Some content
  pub found : slice_get (planned_cells (contents h ts)) k ≡ Some (planned_cell content)
  pub serial : t.serial ≡ n + k

pub there : (h : HubState) (n : ℕ) (ts : List Ticket) (k : ℕ) (d : Ticket) → AreSeated h n ts → k < length ts → IsThere h n ts k (get_or ts k d)
there h n [] k d seated below = absurd (omega (arith, below))
there h n (t ∷ ts) zero d (has, serial, others) below = record {
  content = has.0;
  cell = has.1;
  found = ap (λ (cs : List Control). slice_get (planned_cells cs) 0) (head_is h t ts has.0 has.1);
  serial = omega (arith, serial);
}
there h n (t ∷ ts) (suc k) d (has, serial, others) below =
    let next = there h (suc n) ts k d others (omega (arith, below)) in
    record {
      content = next.content;
      cell = next.cell;
      found = ap (λ (cs : List Control). slice_get (planned_cells cs) (suc k)) (head_is h t ts has.0 has.1) ∙ next.found;
      serial = omega (arith, next.serial);
    }

-- what the tickets have after a change
pub record AreNow (h : HubState) (n : ℕ) (ts : List Ticket) (cs : List Control) : Type 0 where
  pub contents_are : contents h ts ≡ cs
  pub seated : AreSeated h n ts

apart : (t u : Ticket) → (t.serial ≡ u.serial → ⊥) → t ≢ u
apart t u differ same = differ (ap (λ (x : Ticket). x.serial) same)

module _ (old new : HubState) where
  -- a ticket that isn't changed has what it had
  kept : (n : ℕ) (u : Ticket) (us : List Ticket) (cs : List Control) (had : (v : Control) × (cell_at old u ≡ Some v)) → u.serial ≡ n → cell_at new u ≡ cell_at old u → AreNow new (suc n) us cs
      → AreNow new n (u ∷ us) (had.0 ∷ cs)
  kept n u us cs had serial same now = record {
    contents_are = head_is new u us had.0 (same ∙ had.1) ∙ ap (λ (rest : List Control). had.0 ∷ rest) now.contents_are;
    seated = ((had.0, same ∙ had.1), serial, now.seated);
  }

  -- those with later serials stay
  later_stay : (n : ℕ) (ts : List Ticket) (t : Ticket) (v : Control) → Puts old new t (Some v) → t.serial < n → AreSeated old n ts → AreNow new n ts (contents old ts)
  later_stay n [] t v puts below seated = record { contents_are = refl; seated = tt }
  later_stay n (u ∷ us) t v puts below (had, serial, others) =
      subst (AreNow new n (u ∷ us)) (sym (head_is old u us had.0 had.1))
      (kept n u us (contents old us) had serial (puts.others u (apart u t (λ same. omega (arith, same, serial, below))))
      (later_stay (suc n) us t v puts (omega (arith, below)) others))

  -- the ticket of a number is given another content
  pub put_there : (n : ℕ) (ts : List Ticket) (k : ℕ) (d : Ticket) (v : Control) → AreSeated old n ts → k < length ts → Puts old new (get_or ts k d) (Some v) → AreNow new n ts (set (contents old ts) k v)
  put_there n [] k d v seated below puts = absurd (omega (arith, below))
  put_there n (t ∷ ts) zero d v (had, serial, others) below puts =
      let rest = later_stay (suc n) ts t v puts (omega (arith, serial)) others in
      subst (λ (cs : List Control). AreNow new n (t ∷ ts) (set cs 0 v)) (sym (head_is old t ts had.0 had.1)) (record {
        contents_are = head_is new t ts v puts.changed ∙ ap (λ (cs : List Control). v ∷ cs) rest.contents_are;
        seated = ((v, puts.changed), serial, rest.seated);
      })
  put_there n (u ∷ us) (suc k) d v (had, serial, others) below puts =
      let next = there old (suc n) us k d others (omega (arith, below)) in
      subst (λ (cs : List Control). AreNow new n (u ∷ us) (set cs (suc k) v)) (sym (head_is old u us had.0 had.1))
      (kept n u us (set (contents old us) k v) had serial (puts.others u (apart u (get_or us k d) (λ same. let later = next.serial in omega (arith, same, serial, later))))
      (put_there (suc n) us k d v others (omega (arith, below)) puts))

  -- one more is made
  pub one_more : (n : ℕ) (ts : List Ticket) (t : Ticket) (v : Control) → AreSeated old n ts → t.serial ≡ n + length ts → Puts old new t (Some v) → AreNow new n (ts ++ t ∷ []) (contents old ts ++ v ∷ [])
  one_more n [] t v seated serial puts = record { contents_are = head_is new t [] v puts.changed; seated = ((v, puts.changed), omega (arith, serial), tt) }
  one_more n (u ∷ us) t v (had, own, others) serial puts =
      subst (λ (cs : List Control). AreNow new n (u ∷ (us ++ t ∷ [])) (cs ++ v ∷ [])) (sym (head_is old u us had.0 had.1))
      (kept n u (us ++ t ∷ []) (contents old us ++ v ∷ []) had own (puts.others u (apart u t (λ same. omega (arith, same, own, serial))))
      (one_more (suc n) us t v others (omega (arith, serial)) puts))

-- a ticket has one cell
pub one_content : (h : HubState) (t : Ticket) (v w : Control) → cell_at h t ≡ Some v → cell_at h t ≡ Some w → v ≡ w
one_content h t v w is also = cc

-- a cell whose content is known is the one of its ticket's number
pub found_there : (h : HubState) (ts : List Ticket) (k : ℕ) (d : Ticket) (v : Control) → AreSeated h 0 ts → k < length ts → cell_at h (get_or ts k d) ≡ Some v → slice_get (planned_cells (contents h ts)) k ≡ Some (planned_cell v)
found_there h ts k d v seated below has =
    let here = there h 0 ts k d seated below in
    here.found ∙ ap (λ (x : Control). Some (planned_cell x)) (one_content h (get_or ts k d) here.content v here.cell has)

pub has_there : (h : HubState) (ts : List Ticket) (k : ℕ) (d : Ticket) → AreSeated h 0 ts → k < length ts → HasCell h (get_or ts k d)
has_there h ts k d seated below = let here = there h 0 ts k d seated below in (here.content, here.cell)

-- a list of contents with one more
pub planned_more : (cs : List Control) (v : Control) → planned_cells (cs ++ v ∷ []) ≡ planned_cells cs ++ planned_cell v ∷ []
planned_more [] v = refl
planned_more (w ∷ cs) v = ap (λ (cells : List HubCell). planned_cell w ∷ cells) (planned_more cs v)

pub not_none : (h : HubState) (t : Ticket) (v : Control) → cell_at h t ≡ Some v → None ≡ cell_at h t → ⊥
not_none h t v is none = absurd (cc)

-- past the last ticket there is no cell
pub none_past : (h : HubState) (ts : List Ticket) (k : ℕ) → AreSeated h 0 ts → length ts ≤ k → drop k (cells_of h ts) ≡ []
none_past h ts k seated past = drop_of_length-le (cells_of h ts) (omega (arith, past, as_many h 0 ts seated, length-map (contents h ts) planned_cell))
