-- The lists of a table: without faults exactly where they are what a plan wants.
use Rattle.std.proofs.Common.{◌≡◌, ℕ, ◌+◌, nat_lt, pos, negsuc, List, [], ◌∷◌, ◌++◌, Option, Some, None, refl, inl, inr}
use Rattle.std.proofs.lemmas.Bool.{cases_Bool, ltb-true, lt-ltb}
use Rattle.std.proofs.lemmas.Option.{same_Some}
use Rattle.toml.specs.Data.{Data, string, integer, float, boolean, datetime, array, table, Items, no_items, item}
use Rattle.plan_text.specs.declared.keys.PlanKey.{PlanKey}
use Rattle.plan_text.specs.declared.keys.PlanKey.TheVariants.{Order}
use Rattle.plan_text.specs.declared.plan_fault.PlanFault.{PlanFault}
use Rattle.plan_text.specs.Keys.{number_limit}
use Rattle.plan_text.specs.Numbers.{AreEach, IsNumberOf, IsNumberArray, IsRow, IsRowArray}
use Rattle.plan_text.specs.Listing.{number_faults, each_faults, list_faults, row_faults, order_faults, faults_at, missing_faults}
use Rattle.plan_text.specs.Reading.{number_in, numbers_in, rows_in, each_item, list_at}

-- no fault in two lists is none in each
pub none_parts : (a b : List PlanFault) → a ++ b ≡ [] → (a ≡ []) × (b ≡ [])
none_parts [] b h = (refl, h)
none_parts (x ∷ a) b h = cc

pub none_both : (a b : List PlanFault) → a ≡ [] → b ≡ [] → a ++ b ≡ []
none_both a b e h = rw e h

-- ---- one number

pub number_found : (key : PlanKey) (row : Option ℕ) (place : ℕ) (d : Data) → number_faults key row place d ≡ [] → IsNumberOf key d (number_in d)
number_found key row place (string s) h = cc
number_found key row place (integer (pos n)) h =
    elim (cases_Bool (nat_lt n (number_limit key))) [
      | inl below ↦ record { is = refl; in_range = ltb-true n (number_limit key) below }
      | inr above ↦ let e = rw above at h in cc
    ]
number_found key row place (integer (negsuc n)) h = cc
number_found key row place (float x) h = cc
number_found key row place (boolean b) h = cc
number_found key row place (datetime dt) h = cc
number_found key row place (array ds) h = cc
number_found key row place (table ms) h = cc

pub number_only : (key : PlanKey) (row : Option ℕ) (place : ℕ) (d : Data) (n : ℕ) → IsNumberOf key d n → (number_faults key row place d ≡ []) × (n ≡ number_in d)
number_only key row place d n h = rw h.is (rw (lt-ltb n (number_limit key) h.in_range) refl, refl)

-- ---- each item

pub each_found : {A : Type 0} (faults : ℕ → Data → List PlanFault) (Is : Data → A → Type 0) (f : Data → A)
    → ((place : ℕ) (d : Data) → faults place d ≡ [] → Is d (f d))
    → (place : ℕ) (items : Items) → each_faults faults place items ≡ [] → AreEach Is items (each_item f items)
each_found faults Is f one place no_items h = tt
each_found faults Is f one place (item d ds) h =
    let p = none_parts (faults place d) (each_faults faults (place + 1) ds) h in
    (one place d p.0, each_found faults Is f one (place + 1) ds p.1)

pub each_only : {A : Type 0} (faults : ℕ → Data → List PlanFault) (Is : Data → A → Type 0) (f : Data → A)
    → ((place : ℕ) (d : Data) (x : A) → Is d x → (faults place d ≡ []) × (x ≡ f d))
    → (place : ℕ) (items : Items) (xs : List A) → AreEach Is items xs → (each_faults faults place items ≡ []) × (xs ≡ each_item f items)
each_only faults Is f one place no_items [] h = (refl, refl)
each_only faults Is f one place no_items (x ∷ xs) h = absurd h
each_only faults Is f one place (item d ds) [] h = absurd h
each_only faults Is f one place (item d ds) (x ∷ xs) h =
    let p = one place d x h.0 in
    let q = each_only faults Is f one (place + 1) ds xs h.1 in
    (none_both (faults place d) (each_faults faults (place + 1) ds) p.0 q.0, rw (p.1, ← q.1) refl)

-- ---- an array of numbers

pub list_found : (key : PlanKey) (row : Option ℕ) (d : Data) → list_faults key row d ≡ [] → IsNumberArray key (Some d) (numbers_in d)
list_found key row (string s) h = cc
list_found key row (integer z) h = cc
list_found key row (float x) h = cc
list_found key row (boolean b) h = cc
list_found key row (datetime dt) h = cc
list_found key row (array items) h = record { items = items; is = refl; each = each_found (number_faults key row) (IsNumberOf key) number_in (number_found key row) 0 items h }
list_found key row (table ms) h = cc

pub list_only : (key : PlanKey) (row : Option ℕ) (d : Data) (numbers : List ℕ) → IsNumberArray key (Some d) numbers → (list_faults key row d ≡ []) × (numbers ≡ numbers_in d)
list_only key row d numbers h =
    let e : d ≡ array h.items = same_Some d (array h.items) h.is in
    rw e (each_only (number_faults key row) (IsNumberOf key) number_in (number_only key row) 0 h.items numbers h.each)

-- ---- an array of rows

pub rows_found : (d : Data) → order_faults d ≡ [] → IsRowArray (Some d) (rows_in d)
rows_found (string s) h = cc
rows_found (integer z) h = cc
rows_found (float x) h = cc
rows_found (boolean b) h = cc
rows_found (datetime dt) h = cc
rows_found (array items) h = record { items = items; is = refl; each = each_found row_faults IsRow numbers_in (λ machine d. list_found Order (Some machine) d) 0 items h }
rows_found (table ms) h = cc

pub rows_only : (d : Data) (rows : List (List ℕ)) → IsRowArray (Some d) rows → (order_faults d ≡ []) × (rows ≡ rows_in d)
rows_only d rows h =
    let e : d ≡ array h.items = same_Some d (array h.items) h.is in
    rw e (each_only row_faults IsRow numbers_in (λ machine d row. list_only Order (Some machine) d row) 0 h.items rows h.each)

-- ---- at a key

pub list_at_found : (key : PlanKey) (value : Option Data) → missing_faults key value ≡ [] → faults_at (list_faults key None) value ≡ [] → IsNumberArray key value (list_at numbers_in value)
list_at_found key None there h = cc
list_at_found key (Some d) there h = list_found key None d h

pub list_at_only : (key : PlanKey) (value : Option Data) (numbers : List ℕ) → IsNumberArray key value numbers
    → (missing_faults key value ≡ []) × (faults_at (list_faults key None) value ≡ []) × (numbers ≡ list_at numbers_in value)
list_at_only key None numbers h = cc
list_at_only key (Some d) numbers h =
    let p = list_only key None d numbers h in
    (refl, p.0, p.1)

pub rows_at_found : (value : Option Data) → missing_faults Order value ≡ [] → faults_at order_faults value ≡ [] → IsRowArray value (list_at rows_in value)
rows_at_found None there h = cc
rows_at_found (Some d) there h = rows_found d h

pub rows_at_only : (value : Option Data) (rows : List (List ℕ)) → IsRowArray value rows
    → (missing_faults Order value ≡ []) × (faults_at order_faults value ≡ []) × (rows ≡ list_at rows_in value)
rows_at_only None rows h = cc
rows_at_only (Some d) rows h =
    let p = rows_only d rows h in
    (refl, p.0, p.1)
