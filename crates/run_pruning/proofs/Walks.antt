-- What walks over jobs, machines and entries have kept so far.
use Rattle.std.proofs.Common.{◌≡◌, ℕ, suc, ◌+◌, ◌<◌, ◌↔◌, inl, inr, List, [], ◌∷◌, ◌++◌, length, length-append, get_or, drop, drop-cons, Bool, true, false, not, IsTrue, MatchBool, Option, None, Some, if◌then◌else◌, nat_eq, eq-eqb, add-one, append_assoc, refl, sym, ap, ap₂, ◌∙◌, subst, arith}
use Rattle.std.specs.Option.{option_eq}
use Rattle.std.proofs.lemmas.Bool.{cases_lt}
use Rattle.shop_base.specs.Plan.{PlannedShop}
use Rattle.shop_base.specs.Cell.{Cell, IsGone}
use Rattle.shop_base.specs.Run.{Event}
use Rattle.cell_tables.specs.declared.entry.Entry.{Entry}
use Rattle.cell_tables.specs.Events.{event_of, events_of}
use Rattle.cell_tables.specs.Readings.{IsCleanedAfter, IsCleanedFor}
use Rattle.run_pruning.specs.Staying.{stays, staying}
use Rattle.run_pruning.specs.PrunedEvents.{owner, left_after, renamed, pruned_events}
use Rattle.run_pruning.specs.Over.{IsJobOver, DropsOver}
use Rattle.run_pruning.proofs.Marking.{stays_before, stays_last}

-- what is left from a place on, where the job there stays or doesn't
staying_next : {A : Type 0} (marks : List Bool) (xs : List A) (i : ℕ) (d : A) (b : Bool) → i < length marks → i < length xs → stays marks i ≡ b
    → staying (drop i marks) (drop i xs) ≡ (if b then get_or xs i d ∷ staying (drop (i + 1) marks) (drop (i + 1) xs) else staying (drop (i + 1) marks) (drop (i + 1) xs))
staying_next {A} marks xs i d b marked inside is = rw (add-one i)
    (ap₂ staying (drop-cons marks i false marked) (drop-cons xs i d inside)
    ∙ ap {B = List A} (λ (y : Bool). if y then get_or xs i d ∷ staying (drop (suc i) marks) (drop (suc i) xs) else staying (drop (suc i) marks) (drop (suc i) xs)) is)

-- what is had so far, and what is left, are the whole, also after a job that stays
pub staying_more : {A : Type 0} (marks : List Bool) (xs had more whole : List A) (i : ℕ) (d x : A) → i < length marks → i < length xs → stays marks i ≡ true
    → x ≡ get_or xs i d → more ≡ had ++ x ∷ [] → had ++ staying (drop i marks) (drop i xs) ≡ whole → more ++ staying (drop (i + 1) marks) (drop (i + 1) xs) ≡ whole
staying_more marks xs had more whole i d x marked inside kept here is known =
    let rest = staying (drop (i + 1) marks) (drop (i + 1) xs) in
    ap (λ l. l ++ rest) is ∙ append_assoc had (x ∷ []) rest ∙ ap (λ y. had ++ y ∷ rest) here ∙ ap (λ l. had ++ l) (sym (staying_next marks xs i d true marked inside kept)) ∙ known

-- and after one that doesn't
pub staying_without : {A : Type 0} (marks : List Bool) (xs had whole : List A) (i : ℕ) (d : A) → i < length marks → i < length xs → stays marks i ≡ false
    → had ++ staying (drop i marks) (drop i xs) ≡ whole → had ++ staying (drop (i + 1) marks) (drop (i + 1) xs) ≡ whole
staying_without marks xs had whole i d marked inside dropped known = ap (λ l. had ++ l) (sym (staying_next marks xs i d false marked inside dropped)) ∙ known

-- no test found a job that is there
pub option_apart : (o : Option ℕ) (j : ℕ) (b : Bool) → b ≡ option_eq nat_eq o (Some j) → b ≡ false → o ≡ Some j → ⊥
option_apart o j b is differs same = let equal : b ≡ true = is ∙ ap (λ x. option_eq nat_eq x (Some j)) same ∙ eq-eqb j j refl in absurd (cc)

-- the job after which a machine is being cleaned is the one that is found
pub cleaned_found : (p : PlannedShop) (c : Cell) (m j : ℕ) (found : Option ℕ) → IsCleanedFor p c m found → IsCleanedAfter p c m j → found ≡ Some j
cleaned_found p c m j None none after = absurd (let some = after.is_cleaned in cc)
cleaned_found p c m j (Some i) found after = ap Some (sym found.last_in ∙ after.last_in)

-- where a job is gone and wasn't the last, it is over unless a machine is being cleaned after it
pub over_unless : (p : PlannedShop) (c : Cell) (last : Option ℕ) (j : ℕ) (b : Bool) → IsGone p c j → (last ≡ Some j → ⊥)
    → MatchBool b ((m : ℕ) × IsCleanedAfter p c m j) ((m : ℕ) → IsCleanedAfter p c m j → ⊥) → IsTrue (not b) ↔ IsJobOver p c last j
over_unless p c last j true gone other cleaned = (λ t. absurd (cc), λ over. absurd (over.not_cleaned cleaned.0 cleaned.1))
over_unless p c last j false gone other none = (λ t. record { gone = gone; not_cleaned = none; not_last = other }, λ over. refl)

-- one job more
pub drops_more : (p : PlannedShop) (c : Cell) (last : Option ℕ) (n : ℕ) (marks : List Bool) (b : Bool) → (IsTrue b ↔ IsJobOver p c last n) → DropsOver p c last n marks
    → DropsOver p c last (n + 1) (marks ++ not b ∷ [])
drops_more p c last n marks b is drops = record {
  count = omega (arith, drops.count, length-append marks (not b ∷ []));
  exact = λ j less. elim (cases_lt j n) [
    | inl before ↦ subst (λ x. (x ≡ false) ↔ IsJobOver p c last j) (sym (stays_before marks (not b) j (omega (arith, before, drops.count)))) (drops.exact j before)
    | inr past ↦ (let here : n ≡ j = omega (arith, past, less) in
        subst (λ x. (stays (marks ++ not b ∷ []) x ≡ false) ↔ IsJobOver p c last x) here
        (subst (λ x. (x ≡ false) ↔ IsJobOver p c last n) (sym (ap (stays (marks ++ not b ∷ [])) (sym drops.count) ∙ stays_last marks (not b))) (go b is)))
  ];
}
  where
    go : (x : Bool) → (IsTrue x ↔ IsJobOver p c last n) → (not x ≡ false) ↔ IsJobOver p c last n
    go true both = (λ t. both.0 refl, λ over. refl)
    go false both = (λ t. absurd (cc), λ over. sym (both.1 over))

events_last : (entries : List Entry) (entry : Entry) → events_of (entries ++ entry ∷ []) ≡ events_of entries ++ event_of entry ∷ []
events_last [] entry = refl
events_last (x ∷ entries) entry = ap {B = List Event} (λ l. event_of x ∷ l) (events_last entries entry)

-- the events that are left from a place on, by whose the one there is
pruned_next : (marks : List Bool) (left : List ℕ) (entries : List Entry) (i : ℕ) (d : Entry) (b : Bool) → i < length entries → stays marks (owner left (event_of (get_or entries i d))) ≡ b
    → pruned_events marks left (events_of (drop i entries))
    ≡ (if b then renamed marks (event_of (get_or entries i d)) ∷ pruned_events marks (left_after left (event_of (get_or entries i d))) (events_of (drop (i + 1) entries))
    else pruned_events marks (left_after left (event_of (get_or entries i d))) (events_of (drop (i + 1) entries)))
pruned_next marks left entries i d b inside is = rw (add-one i)
    (ap (λ xs. pruned_events marks left (events_of xs)) (drop-cons entries i d inside)
    ∙ ap {B = List Event} (λ (x : Bool). if x then renamed marks (event_of (get_or entries i d)) ∷ pruned_events marks (left_after left (event_of (get_or entries i d))) (events_of (drop (suc i) entries))
    else pruned_events marks (left_after left (event_of (get_or entries i d))) (events_of (drop (suc i) entries))) is)

-- the events that are had so far, and those that are left, are the whole, also after one of a job that stays
pub pruned_more : (marks : List Bool) (left next : List ℕ) (entries had more : List Entry) (whole : List Event) (i : ℕ) (d new : Entry) → i < length entries
    → stays marks (owner left (event_of (get_or entries i d))) ≡ true → event_of new ≡ renamed marks (event_of (get_or entries i d)) → more ≡ had ++ new ∷ []
    → next ≡ left_after left (event_of (get_or entries i d)) → events_of had ++ pruned_events marks left (events_of (drop i entries)) ≡ whole
    → events_of more ++ pruned_events marks next (events_of (drop (i + 1) entries)) ≡ whole
pruned_more marks left next entries had more whole i d new inside kept same is passed known =
    let rest : List Event = pruned_events marks (left_after left (event_of (get_or entries i d))) (events_of (drop (i + 1) entries)) in
    ap₂ (λ xs l. events_of xs ++ pruned_events marks l (events_of (drop (i + 1) entries))) is passed
    ∙ ap (λ l. l ++ rest) (events_last had new) ∙ append_assoc (events_of had) (event_of new ∷ []) rest
    ∙ ap (λ x. events_of had ++ x ∷ rest) same ∙ ap (λ l. events_of had ++ l) (sym (pruned_next marks left entries i d true inside kept)) ∙ known

-- and after one of another
pub pruned_without : (marks : List Bool) (left next : List ℕ) (entries had : List Entry) (whole : List Event) (i : ℕ) (d : Entry) → i < length entries
    → stays marks (owner left (event_of (get_or entries i d))) ≡ false → next ≡ left_after left (event_of (get_or entries i d)) → events_of had ++ pruned_events marks left (events_of (drop i entries)) ≡ whole
    → events_of had ++ pruned_events marks next (events_of (drop (i + 1) entries)) ≡ whole
pruned_without marks left next entries had whole i d inside dropped passed known =
    ap (λ l. events_of had ++ pruned_events marks l (events_of (drop (i + 1) entries))) passed ∙ ap (λ l. events_of had ++ l) (sym (pruned_next marks left entries i d false inside dropped)) ∙ known
