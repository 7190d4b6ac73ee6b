-- A table has exactly the faults that are listed for it.
use Rattle.std.proofs.Common.{◌≡◌, ℕ, ◌+◌, ◌<◌, ◌≤◌, ◌==◌, ◌||◌, nat_lt, ℤ, pos, negsuc, Bool, true, false, List, [], ◌∷◌, ◌++◌, Option, Some, None, refl, sym, ap, ◌∙◌, inl, inr, arith}
use Rattle.std.proofs.lemmas.Bool.{cases_Bool, ltb-true, ltb-false, eqb-true, eq-eqb, or_cases, or_left, or_right, false≢true}
use Rattle.toml.specs.Data.{Data, string, integer, float, boolean, datetime, array, table, Items, get_item, Members, no_members, member}
use Rattle.plan_text.specs.declared.keys.PlanKey.{PlanKey}
use Rattle.plan_text.specs.declared.keys.PlanKey.TheVariants.{Release, Budget, Order, Clean}
use Rattle.plan_text.specs.declared.plan_fault.PlanFault.{PlanFault}
use Rattle.plan_text.specs.declared.plan_fault.PlanFault.TheVariants.{NotToml, BadVersion, UnknownKey, MissingKey, NotArray, NotWhole, OutOfRange, Memory, NotReadBack}
use Rattle.plan_text.specs.Keys.{number_limit, plan_value_at, version_in}
use Rattle.plan_text.specs.Numbers.{IsNumberOf}
use Rattle.plan_text.specs.Faults.{HasCleaning, HasBadVersion, HasKey, IsKnownKey, HasUnknownKey, IsWanted, IsListAt, IsElementAt, HasFault}
use Rattle.plan_text.specs.Listing.{version_faults, has_cleaning, is_known_key, key_faults, missing_faults, number_faults, list_faults, row_faults, order_faults, faults_at, if_cleaning, missing_keys, list_values, content_faults, faults_of}
use Rattle.plan_text.proofs.Known.{common_key, common_test, same_bytes, test_bytes}
use Rattle.plan_text.proofs.Listed.{In, in_left, in_right, in_either, each_has, each_in}

pub only_one : (fault other : PlanFault) → In fault (other ∷ []) → fault ≡ other
only_one fault other h = elim h [ inl here ↦ here | inr more ↦ absurd more ]

-- ---- the version

cleaning_true : (version : Option Data) → has_cleaning version ≡ true → version ≡ Some (integer (pos 2))
cleaning_true None h = cc
cleaning_true (Some (string s)) h = cc
cleaning_true (Some (integer (pos n))) h = ap (λ m. Some (integer (pos m))) (eqb-true n 2 h)
cleaning_true (Some (integer (negsuc n))) h = cc
cleaning_true (Some (float x)) h = cc
cleaning_true (Some (boolean b)) h = cc
cleaning_true (Some (datetime dt)) h = cc
cleaning_true (Some (array ds)) h = cc
cleaning_true (Some (table ms)) h = cc

cleaning_from : (t : Members) → HasCleaning t → has_cleaning (version_in t) ≡ true
cleaning_from t h = rw h refl

-- the version is stated, and is neither 1 nor 2
abbrev pub IsBad : Data → Type 0
IsBad d = (d ≡ integer (pos 1) → ⊥) × (d ≡ integer (pos 2) → ⊥)

bad_number : (fault : PlanFault) (n : ℕ) → In fault (version_faults (Some (integer (pos n)))) → (fault ≡ BadVersion) × IsBad (integer (pos n))
bad_number fault n h =
    elim (cases_Bool (n == 1 || n == 2)) [
      | inl good ↦ absurd (rw good at h)
      | inr bad ↦ (only_one fault BadVersion (rw bad at h), (λ e. not_this n 1 e bad (or_left (n == 1) (n == 2)), λ e. not_this n 2 e bad (or_right (n == 1) (n == 2))))
    ]
  where
    not_this : (n k : ℕ) → integer (pos n) ≡ integer (pos k) → (n == 1 || n == 2) ≡ false → ((n == k) ≡ true → (n == 1 || n == 2) ≡ true) → ⊥
    not_this n k e bad or = let i : n ≡ k = cc in false≢true (sym bad ∙ or (eq-eqb n k i))

pub bad_version : (fault : PlanFault) (d : Data) → In fault (version_faults (Some d)) → (fault ≡ BadVersion) × IsBad d
bad_version fault (string s) h = (only_one fault BadVersion h, (λ e. cc, λ e. cc))
bad_version fault (integer (pos n)) h = bad_number fault n h
bad_version fault (integer (negsuc n)) h = (only_one fault BadVersion h, (λ e. cc, λ e. cc))
bad_version fault (float x) h = (only_one fault BadVersion h, (λ e. cc, λ e. cc))
bad_version fault (boolean b) h = (only_one fault BadVersion h, (λ e. cc, λ e. cc))
bad_version fault (datetime dt) h = (only_one fault BadVersion h, (λ e. cc, λ e. cc))
bad_version fault (array ds) h = (only_one fault BadVersion h, (λ e. cc, λ e. cc))
bad_version fault (table ms) h = (only_one fault BadVersion h, (λ e. cc, λ e. cc))

version_has_at : (t : Members) (fault : PlanFault) (version : Option Data) → version_in t ≡ version → In fault (version_faults version) → HasFault t fault
version_has_at t fault None e h = absurd h
version_has_at t fault (Some d) e h =
    let p = bad_version fault d h in
    rw p.0 (record { version = d; given = e; not_one = p.1.0; not_two = p.1.1 })

bad_listed : (d : Data) → IsBad d → In BadVersion (version_faults (Some d))
bad_listed (string s) h = inl refl
bad_listed (integer (pos n)) h =
    elim (cases_Bool (n == 1 || n == 2)) [
      | inl good ↦ elim (or_cases (n == 1) (n == 2) good) [
        | inl one ↦ absurd (h.0 (ap (λ m. integer (pos m)) (eqb-true n 1 one)))
        | inr two ↦ absurd (h.1 (ap (λ m. integer (pos m)) (eqb-true n 2 two)))
      ]
      | inr bad ↦ rw bad (inl refl)
    ]
bad_listed (integer (negsuc n)) h = inl refl
bad_listed (float x) h = inl refl
bad_listed (boolean b) h = inl refl
bad_listed (datetime dt) h = inl refl
bad_listed (array ds) h = inl refl
bad_listed (table ms) h = inl refl

version_listed : (t : Members) → HasBadVersion t → In BadVersion (version_faults (version_in t))
version_listed t h = rw h.given (bad_listed h.version (h.not_one, h.not_two))

-- ---- the keys

known_by : (t : Members) (cleaning : Bool) (key : List ℕ) → cleaning ≡ has_cleaning (version_in t) → is_known_key cleaning key ≡ true → IsKnownKey t key
known_by t true key e h = elim (or_cases _ _ h) [
  | inl common ↦ inl (common_key key common)
  | inr clean ↦ inr (same_bytes key _ clean, cleaning_true (version_in t) (sym e))
]
known_by t false key e h = inl (common_key key h)

known_of : (t : Members) (cleaning : Bool) (key : List ℕ) → cleaning ≡ has_cleaning (version_in t) → IsKnownKey t key → is_known_key cleaning key ≡ true
known_of t true key e h = elim h [
  | inl common ↦ or_left _ _ (common_test key common)
  | inr clean ↦ or_right _ _ (test_bytes key _ clean.0)
]
known_of t false key e h = elim h [
  | inl common ↦ common_test key common
  | inr clean ↦ absurd (false≢true (e ∙ cleaning_from t clean.1))
]

-- a key that isn't known
abbrev pub Unknown : Bool → Members → Type 0
Unknown cleaning t = (key : List ℕ) × HasKey key t × (is_known_key cleaning key ≡ false)

pub unknown_has : (cleaning : Bool) (t : Members) (fault : PlanFault) → In fault (key_faults cleaning t) → (fault ≡ UnknownKey) × Unknown cleaning t
unknown_has cleaning no_members fault h = absurd h
unknown_has cleaning (member key d rest) fault h =
    elim (cases_Bool (is_known_key cleaning key)) [
      | inl known ↦
          let r = unknown_has cleaning rest fault (rw known at h) in
          (r.0, (r.1.0, inr r.1.1, r.1.2))
      | inr unknown ↦ elim (rw unknown at h) [
        | inl here ↦ (here, (key, inl refl, unknown))
        | inr more ↦
            let r = unknown_has cleaning rest fault more in
            (r.0, (r.1.0, inr r.1.1, r.1.2))
      ]
    ]

unknown_listed : (cleaning : Bool) (t : Members) (key : List ℕ) → HasKey key t → is_known_key cleaning key ≡ false → In UnknownKey (key_faults cleaning t)
unknown_listed cleaning no_members key there unknown = absurd there
unknown_listed cleaning (member other d rest) key there unknown = elim there [
  | inl here ↦ in_left UnknownKey _ (key_faults cleaning rest) (rw (← here, unknown) (inl refl))
  | inr more ↦ in_right UnknownKey _ (key_faults cleaning rest) (unknown_listed cleaning rest key more unknown)
]

keys_has : (t : Members) (fault : PlanFault) → In fault (key_faults (has_cleaning (version_in t)) t) → HasFault t fault
keys_has t fault h =
    let r = unknown_has (has_cleaning (version_in t)) t fault h in
    rw r.0 (record { key = r.1.0; there = r.1.1; unknown = λ known. false≢true (sym r.1.2 ∙ known_of t (has_cleaning (version_in t)) r.1.0 refl known) })

keys_listed : (t : Members) → HasUnknownKey t → In UnknownKey (key_faults (has_cleaning (version_in t)) t)
keys_listed t h =
    elim (cases_Bool (is_known_key (has_cleaning (version_in t)) h.key)) [
      | inl known ↦ absurd (h.unknown (known_by t (has_cleaning (version_in t)) h.key refl known))
      | inr unknown ↦ unknown_listed (has_cleaning (version_in t)) t h.key h.there unknown
    ]

-- ---- the keys of a version, one after the other

-- the faults of each key that the version wants
abbrev pub each_key : Bool → (PlanKey → List PlanFault) → List PlanFault
each_key cleaning part = part Release ++ (part Budget ++ (part Order ++ if_cleaning cleaning (part Clean)))

cleaning_has : (cleaning : Bool) (fault : PlanFault) (faults : List PlanFault) → In fault (if_cleaning cleaning faults) → (cleaning ≡ true) × In fault faults
cleaning_has true fault faults h = (refl, h)
cleaning_has false fault faults h = absurd h

-- a fault of a key that is wanted
record FromKey (t : Members) (part : PlanKey → List PlanFault) (fault : PlanFault) : Type 0 where
  key : PlanKey
  wanted : IsWanted t key
  listed : In fault (part key)

each_key_has : (t : Members) (part : PlanKey → List PlanFault) (fault : PlanFault) → In fault (each_key (has_cleaning (version_in t)) part) → FromKey t part fault
each_key_has t part fault h =
    elim (in_either fault (part Release) _ h) [
      | inl here ↦ record { key = Release; wanted = tt; listed = here }
      | inr more ↦ elim (in_either fault (part Budget) _ more) [
        | inl here ↦ record { key = Budget; wanted = tt; listed = here }
        | inr more ↦ elim (in_either fault (part Order) _ more) [
          | inl here ↦ record { key = Order; wanted = tt; listed = here }
          | inr more ↦
              let r = cleaning_has (has_cleaning (version_in t)) fault (part Clean) more in
              record { key = Clean; wanted = cleaning_true (version_in t) r.0; listed = r.1 }
        ]
      ]
    ]

each_key_in : (t : Members) (part : PlanKey → List PlanFault) (fault : PlanFault) (key : PlanKey) → IsWanted t key → In fault (part key) → In fault (each_key (has_cleaning (version_in t)) part)
each_key_in t part fault Release wanted h = in_left fault (part Release) _ h
each_key_in t part fault Budget wanted h = in_right fault (part Release) _ (in_left fault (part Budget) _ h)
each_key_in t part fault Order wanted h = in_right fault (part Release) _ (in_right fault (part Budget) _ (in_left fault (part Order) _ h))
each_key_in t part fault Clean wanted h =
    let e = cleaning_from t wanted in
    in_right fault (part Release) _ (in_right fault (part Budget) _ (in_right fault (part Order) _ (rw e h)))

-- ---- missing keys

abbrev pub missing_part : Members → PlanKey → List PlanFault
missing_part t key = missing_faults key (plan_value_at t key)

pub missing_at : (key : PlanKey) (value : Option Data) (fault : PlanFault) → In fault (missing_faults key value) → (fault ≡ MissingKey key) × (value ≡ None)
missing_at key None fault h = (only_one fault (MissingKey key) h, refl)
missing_at key (Some d) fault h = absurd h

missing_has : (t : Members) (fault : PlanFault) → In fault (missing_keys (has_cleaning (version_in t)) t) → HasFault t fault
missing_has t fault h =
    let r = each_key_has t (missing_part t) fault h in
    let p = missing_at r.key (plan_value_at t r.key) fault r.listed in
    rw p.0 (r.wanted, p.1)

missing_listed : (t : Members) (key : PlanKey) → IsWanted t key → plan_value_at t key ≡ None → In (MissingKey key) (missing_keys (has_cleaning (version_in t)) t)
missing_listed t key wanted none = each_key_in t (missing_part t) (MissingKey key) key wanted (rw none (inl refl))

-- ---- lists

element_has : (t : Members) (key : PlanKey) (row : Option ℕ) (place : ℕ) (fault : PlanFault) (d : Data) → IsElementAt t key row place d → In fault (number_faults key row place d) → HasFault t fault
element_has t key row place fault (string s) here h = rw (only_one fault _ h) (record { value = string s; here = here; no_number = λ z e. cc })
element_has t key row place fault (integer (pos n)) here h =
    elim (cases_Bool (nat_lt n (number_limit key))) [
      | inl below ↦ absurd (rw below at h)
      | inr above ↦ rw (only_one fault _ (rw above at h)) (record { number = pos n; here = here; outside = λ m k. past m k.is k.in_range (ltb-false n (number_limit key) above) })
    ]
  where
    past : (m : ℕ) → integer (pos n) ≡ integer (pos m) → m < number_limit key → number_limit key ≤ n → ⊥
    past m e below above = let i : n ≡ m = cc in omega arith
element_has t key row place fault (integer (negsuc n)) here h = rw (only_one fault _ h) (record { number = negsuc n; here = here; outside = λ m k. let e = k.is in cc })
element_has t key row place fault (float x) here h = rw (only_one fault _ h) (record { value = float x; here = here; no_number = λ z e. cc })
element_has t key row place fault (boolean b) here h = rw (only_one fault _ h) (record { value = boolean b; here = here; no_number = λ z e. cc })
element_has t key row place fault (datetime dt) here h = rw (only_one fault _ h) (record { value = datetime dt; here = here; no_number = λ z e. cc })
element_has t key row place fault (array ds) here h = rw (only_one fault _ h) (record { value = array ds; here = here; no_number = λ z e. cc })
element_has t key row place fault (table ms) here h = rw (only_one fault _ h) (record { value = table ms; here = here; no_number = λ z e. cc })

-- the items of a list stand where numbers are wanted
abbrev HoldsElements : Members → PlanKey → Option ℕ → Data → Type 0
HoldsElements t key row d = (items : Items) (place : ℕ) (e : Data) → d ≡ array items → get_item place items ≡ Some e → IsElementAt t key row place e

list_has : (t : Members) (key : PlanKey) (row : Option ℕ) (fault : PlanFault) (d : Data) → HoldsElements t key row d → IsListAt t key row d → In fault (list_faults key row d) → HasFault t fault
list_has t key row fault (string s) holds here h = rw (only_one fault _ h) (record { value = string s; here = here; no_array = λ items e. cc })
list_has t key row fault (integer z) holds here h = rw (only_one fault _ h) (record { value = integer z; here = here; no_array = λ items e. cc })
list_has t key row fault (float x) holds here h = rw (only_one fault _ h) (record { value = float x; here = here; no_array = λ items e. cc })
list_has t key row fault (boolean b) holds here h = rw (only_one fault _ h) (record { value = boolean b; here = here; no_array = λ items e. cc })
list_has t key row fault (datetime dt) holds here h = rw (only_one fault _ h) (record { value = datetime dt; here = here; no_array = λ items e. cc })
list_has t key row fault (array items) holds here h =
    let r = each_has (number_faults key row) 0 items fault h in
    let k : 0 + r.index ≡ r.index = omega arith in
    element_has t key row r.index fault r.value (holds items r.index r.value refl r.here) (rw k at r.listed)
list_has t key row fault (table ms) holds here h = rw (only_one fault _ h) (record { value = table ms; here = here; no_array = λ items e. cc })

order_has : (t : Members) (fault : PlanFault) (d : Data) → plan_value_at t Order ≡ Some d → In fault (order_faults d) → HasFault t fault
order_has t fault (string s) here h = rw (only_one fault _ h) (record { value = string s; here = (tt, here); no_array = λ items e. cc })
order_has t fault (integer z) here h = rw (only_one fault _ h) (record { value = integer z; here = (tt, here); no_array = λ items e. cc })
order_has t fault (float x) here h = rw (only_one fault _ h) (record { value = float x; here = (tt, here); no_array = λ items e. cc })
order_has t fault (boolean b) here h = rw (only_one fault _ h) (record { value = boolean b; here = (tt, here); no_array = λ items e. cc })
order_has t fault (datetime dt) here h = rw (only_one fault _ h) (record { value = datetime dt; here = (tt, here); no_array = λ items e. cc })
order_has t fault (array rows) here h =
    let r = each_has row_faults 0 rows fault h in
    let k : 0 + r.index ≡ r.index = omega arith in
    list_has t Order (Some r.index) fault r.value (λ items place e is there. (items, (rows, here, r.here ∙ ap (λ (d : Data). Some d) is), there)) (rows, here, r.here) (rw k at r.listed)
order_has t fault (table ms) here h = rw (only_one fault _ h) (record { value = table ms; here = (tt, here); no_array = λ items e. cc })

-- the faults of the value of a key
abbrev pub value_part : Members → PlanKey → List PlanFault
value_part t Release = faults_at (list_faults Release None) (plan_value_at t Release)
value_part t Budget = faults_at (list_faults Budget None) (plan_value_at t Budget)
value_part t Order = faults_at order_faults (plan_value_at t Order)
value_part t Clean = faults_at (list_faults Clean None) (plan_value_at t Clean)

-- a fault of a value that is there
record FromValue (faults : Data → List PlanFault) (value : Option Data) (fault : PlanFault) : Type 0 where
  d : Data
  here : value ≡ Some d
  listed : In fault (faults d)

at_has : (faults : Data → List PlanFault) (value : Option Data) (fault : PlanFault) → In fault (faults_at faults value) → FromValue faults value fault
at_has faults None fault h = absurd h
at_has faults (Some d) fault h = record { d = d; here = refl; listed = h }

at_in : (faults : Data → List PlanFault) (value : Option Data) (d : Data) (fault : PlanFault) → value ≡ Some d → In fault (faults d) → In fault (faults_at faults value)
at_in faults value d fault e h = rw e h

value_has : (t : Members) (key : PlanKey) (fault : PlanFault) → IsWanted t key → In fault (value_part t key) → HasFault t fault
value_has t Release fault wanted h =
    let r = at_has (list_faults Release None) (plan_value_at t Release) fault h in
    list_has t Release None fault r.d (λ items place e is there. (items, (tt, r.here ∙ ap (λ (d : Data). Some d) is), there)) (tt, r.here) r.listed
value_has t Budget fault wanted h =
    let r = at_has (list_faults Budget None) (plan_value_at t Budget) fault h in
    list_has t Budget None fault r.d (λ items place e is there. (items, (tt, r.here ∙ ap (λ (d : Data). Some d) is), there)) (tt, r.here) r.listed
value_has t Order fault wanted h =
    let r = at_has order_faults (plan_value_at t Order) fault h in
    order_has t fault r.d r.here r.listed
value_has t Clean fault wanted h =
    let r = at_has (list_faults Clean None) (plan_value_at t Clean) fault h in
    list_has t Clean None fault r.d (λ items place e is there. (items, (wanted, r.here ∙ ap (λ (d : Data). Some d) is), there)) (wanted, r.here) r.listed

lists_has : (t : Members) (fault : PlanFault) → In fault (list_values (has_cleaning (version_in t)) t) → HasFault t fault
lists_has t fault h =
    let r = each_key_has t (value_part t) fault h in
    value_has t r.key fault r.wanted r.listed

pub has_fault : (t : Members) (fault : PlanFault) → In fault (faults_of t) → HasFault t fault
has_fault t fault h =
    let cleaning = has_cleaning (version_in t) in
    elim (in_either fault (version_faults (version_in t)) (content_faults cleaning t) h) [
      | inl version ↦ version_has_at t fault (version_in t) refl version
      | inr more ↦ elim (in_either fault (key_faults cleaning t) (missing_keys cleaning t ++ list_values cleaning t) more) [
        | inl key ↦ keys_has t fault key
        | inr more ↦ elim (in_either fault (missing_keys cleaning t) (list_values cleaning t) more) [
          | inl missing ↦ missing_has t fault missing
          | inr lists ↦ lists_has t fault lists
        ]
      ]
    ]

-- ---- a fault of the lists is listed

no_number_listed : (key : PlanKey) (row : Option ℕ) (place : ℕ) (d : Data) → ((z : ℤ) → d ≡ integer z → ⊥) → In (NotWhole key row place) (number_faults key row place d)
no_number_listed key row place (string s) h = inl refl
no_number_listed key row place (integer (pos n)) h = absurd (h (pos n) refl)
no_number_listed key row place (integer (negsuc n)) h = absurd (h (negsuc n) refl)
no_number_listed key row place (float x) h = inl refl
no_number_listed key row place (boolean b) h = inl refl
no_number_listed key row place (datetime dt) h = inl refl
no_number_listed key row place (array ds) h = inl refl
no_number_listed key row place (table ms) h = inl refl

outside_listed : (key : PlanKey) (row : Option ℕ) (place : ℕ) (z : ℤ) → ((n : ℕ) → IsNumberOf key (integer z) n → ⊥) → In (OutOfRange key row place) (number_faults key row place (integer z))
outside_listed key row place (pos n) h =
    elim (cases_Bool (nat_lt n (number_limit key))) [
      | inl below ↦ absurd (h n (record { is = refl; in_range = ltb-true n (number_limit key) below }))
      | inr above ↦ rw above (inl refl)
    ]
outside_listed key row place (negsuc n) h = inl refl

no_array_listed : (key : PlanKey) (row : Option ℕ) (d : Data) → ((items : Items) → d ≡ array items → ⊥) → In (NotArray key row) (list_faults key row d)
no_array_listed key row (string s) h = inl refl
no_array_listed key row (integer z) h = inl refl
no_array_listed key row (float x) h = inl refl
no_array_listed key row (boolean b) h = inl refl
no_array_listed key row (datetime dt) h = inl refl
no_array_listed key row (array ds) h = absurd (h ds refl)
no_array_listed key row (table ms) h = inl refl

no_order_listed : (d : Data) → ((items : Items) → d ≡ array items → ⊥) → In (NotArray Order None) (order_faults d)
no_order_listed (string s) h = inl refl
no_order_listed (integer z) h = inl refl
no_order_listed (float x) h = inl refl
no_order_listed (boolean b) h = inl refl
no_order_listed (datetime dt) h = inl refl
no_order_listed (array ds) h = absurd (h ds refl)
no_order_listed (table ms) h = inl refl

list_listed : (key : PlanKey) (row : Option ℕ) (items : Items) (place : ℕ) (d : Data) (fault : PlanFault) → get_item place items ≡ Some d → In fault (number_faults key row place d) → In fault (list_faults key row (array items))
list_listed key row items place d fault here h =
    let k : 0 + place ≡ place = omega arith in
    each_in (number_faults key row) 0 items place d fault here (rw k h)

row_listed : (rows : Items) (machine : ℕ) (d : Data) (fault : PlanFault) → get_item machine rows ≡ Some d → In fault (list_faults Order (Some machine) d) → In fault (order_faults (array rows))
row_listed rows machine d fault here h =
    let k : 0 + machine ≡ machine = omega arith in
    each_in row_faults 0 rows machine d fault here (rw k h)

element_listed : (t : Members) (key : PlanKey) (row : Option ℕ) (place : ℕ) (d : Data) (fault : PlanFault) → IsElementAt t key row place d → In fault (number_faults key row place d) → In fault (list_values (has_cleaning (version_in t)) t)
element_listed t Release None place d fault here h = each_key_in t (value_part t) fault Release tt (at_in (list_faults Release None) (plan_value_at t Release) (array here.0) fault here.1.1 (list_listed Release None here.0 place d fault here.2 h))
element_listed t Release (Some machine) place d fault here h = absurd here.1
element_listed t Budget None place d fault here h = each_key_in t (value_part t) fault Budget tt (at_in (list_faults Budget None) (plan_value_at t Budget) (array here.0) fault here.1.1 (list_listed Budget None here.0 place d fault here.2 h))
element_listed t Budget (Some machine) place d fault here h = absurd here.1
element_listed t Order None place d fault here h = absurd here
element_listed t Order (Some machine) place d fault here h = each_key_in t (value_part t) fault Order tt (at_in order_faults (plan_value_at t Order) (array here.1.0) fault here.1.1
    (row_listed here.1.0 machine (array here.0) fault here.1.2 (list_listed Order (Some machine) here.0 place d fault here.2 h)))
element_listed t Clean None place d fault here h = each_key_in t (value_part t) fault Clean here.1.0 (at_in (list_faults Clean None) (plan_value_at t Clean) (array here.0) fault here.1.1 (list_listed Clean None here.0 place d fault here.2 h))
element_listed t Clean (Some machine) place d fault here h = absurd here.1

array_listed : (t : Members) (key : PlanKey) (row : Option ℕ) (d : Data) → IsListAt t key row d → ((items : Items) → d ≡ array items → ⊥) → In (NotArray key row) (list_values (has_cleaning (version_in t)) t)
array_listed t Release None d here no_array = each_key_in t (value_part t) _ Release tt (at_in (list_faults Release None) (plan_value_at t Release) d _ here.1 (no_array_listed Release None d no_array))
array_listed t Release (Some machine) d here no_array = absurd here
array_listed t Budget None d here no_array = each_key_in t (value_part t) _ Budget tt (at_in (list_faults Budget None) (plan_value_at t Budget) d _ here.1 (no_array_listed Budget None d no_array))
array_listed t Budget (Some machine) d here no_array = absurd here
array_listed t Order None d here no_array = each_key_in t (value_part t) _ Order tt (at_in order_faults (plan_value_at t Order) d _ here.1 (no_order_listed d no_array))
array_listed t Order (Some machine) d here no_array = each_key_in t (value_part t) _ Order tt (at_in order_faults (plan_value_at t Order) (array here.0) _ here.1 (row_listed here.0 machine d _ here.2 (no_array_listed Order (Some machine) d no_array)))
array_listed t Clean None d here no_array = each_key_in t (value_part t) _ Clean here.0 (at_in (list_faults Clean None) (plan_value_at t Clean) d _ here.1 (no_array_listed Clean None d no_array))
array_listed t Clean (Some machine) d here no_array = absurd here

in_content : (t : Members) (fault : PlanFault) → In fault (content_faults (has_cleaning (version_in t)) t) → In fault (faults_of t)
in_content t fault h = in_right fault (version_faults (version_in t)) _ h

in_lists : (t : Members) (fault : PlanFault) → In fault (list_values (has_cleaning (version_in t)) t) → In fault (faults_of t)
in_lists t fault h =
    let cleaning = has_cleaning (version_in t) in
    in_content t fault (in_right fault (key_faults cleaning t) _ (in_right fault (missing_keys cleaning t) _ h))

pub fault_listed : (t : Members) (fault : PlanFault) → HasFault t fault → In fault (faults_of t)
fault_listed t NotToml h = absurd h
fault_listed t BadVersion h = in_left BadVersion (version_faults (version_in t)) _ (version_listed t h)
fault_listed t UnknownKey h = in_content t UnknownKey (in_left UnknownKey (key_faults (has_cleaning (version_in t)) t) _ (keys_listed t h))
fault_listed t (MissingKey key) h =
    let cleaning = has_cleaning (version_in t) in
    in_content t (MissingKey key) (in_right (MissingKey key) (key_faults cleaning t) _ (in_left (MissingKey key) (missing_keys cleaning t) _ (missing_listed t key h.0 h.1)))
fault_listed t (NotArray key row) h = in_lists t (NotArray key row) (array_listed t key row h.value h.here h.no_array)
fault_listed t (NotWhole key row place) h = in_lists t (NotWhole key row place) (element_listed t key row place h.value (NotWhole key row place) h.here (no_number_listed key row place h.value h.no_number))
fault_listed t (OutOfRange key row place) h = in_lists t (OutOfRange key row place) (element_listed t key row place (integer h.number) (OutOfRange key row place) h.here (outside_listed key row place h.number h.outside))
fault_listed t Memory h = absurd h
fault_listed t NotReadBack h = absurd h
