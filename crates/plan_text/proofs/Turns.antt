-- The listed faults stand in the order of their turns.
use Rattle.std.proofs.Common.{◌≡◌, ◌⊎◌, ℕ, ◌+◌, ◌<◌, ◌≤◌, nat_lt, pos, negsuc, Bool, true, false, List, [], ◌∷◌, ◌++◌, Option, Some, None, refl, sym, ap, ◌∙◌, inl, inr, arith}
use Rattle.toml.specs.Data.{Data, string, integer, float, boolean, datetime, array, table, Items, no_items, item, Members}
use Rattle.plan_text.specs.declared.keys.PlanKey.{PlanKey}
use Rattle.plan_text.specs.declared.keys.PlanKey.TheVariants.{Release, Budget, Order, Clean}
use Rattle.plan_text.specs.declared.plan_fault.PlanFault.{PlanFault}
use Rattle.plan_text.specs.declared.plan_fault.PlanFault.TheVariants.{BadVersion, UnknownKey, MissingKey, NotArray, NotWhole, OutOfRange}
use Rattle.plan_text.specs.Keys.{number_limit, plan_value_at, version_in}
use Rattle.plan_text.specs.Answers.{IsFirstOf}
use Rattle.plan_text.specs.Faults.{place_of, list_turn, turn_of, IsTurnBefore, IsFirstTableFault}
use Rattle.plan_text.specs.Listing.{unless, version_faults, has_cleaning, key_faults, number_faults, each_faults, list_faults, row_faults, order_faults, faults_at, if_cleaning, missing_keys, list_values, content_faults, faults_of}
use Rattle.plan_text.proofs.Listed.{In, in_either}
use Rattle.plan_text.proofs.Has.{only_one, bad_version, unknown_has, missing_at, each_key, missing_part, value_part, has_fault, fault_listed}

-- ---- turns

never_before_itself : (t : List ℕ) → IsTurnBefore t t → ⊥
never_before_itself [] h = h
never_before_itself (n ∷ t) h = elim h [ inl less ↦ absurd (omega arith) | inr same ↦ never_before_itself t same.1 ]

never_both : (s t : List ℕ) → IsTurnBefore s t → IsTurnBefore t s → ⊥
never_both [] [] h k = h
never_both [] (n ∷ t) h k = k
never_both (m ∷ s) [] h k = h
never_both (m ∷ s) (n ∷ t) h k = elim h [
  | inl less ↦ elim k [ inl more ↦ absurd (omega arith) | inr same ↦ let e = same.0 in absurd (omega arith) ]
  | inr rest ↦ elim k [ inl more ↦ let e = rest.0 in absurd (omega arith) | inr same ↦ never_both s t rest.1 same.1 ]
]

-- the first of the faults comes before each other one
abbrev pub Leads : List PlanFault → Type 0
Leads [] = Unit {0}
Leads (x ∷ xs) = (fault : PlanFault) → In fault xs → (fault ≡ x) ⊎ IsTurnBefore (turn_of x) (turn_of fault)

-- ---- how a turn begins

-- the turn begins with these numbers
abbrev pub Starts : List ℕ → List ℕ → Type 0
Starts [] t = Unit {0}
Starts (m ∷ p) [] = ⊥
Starts (m ∷ p) (n ∷ t) = (n ≡ m) × Starts p t

starts_itself : (t : List ℕ) → Starts t t
starts_itself [] = tt
starts_itself (n ∷ t) = (refl, starts_itself t)

starts_shorter : (p : List ℕ) (j : ℕ) (t : List ℕ) → Starts (p ++ j ∷ []) t → Starts p t
starts_shorter [] j t h = tt
starts_shorter (m ∷ p) j [] h = absurd h
starts_shorter (m ∷ p) j (n ∷ t) h = (h.0, starts_shorter p j t h.1)

starts_before : (p : List ℕ) (i j : ℕ) (s t : List ℕ) → i < j → Starts (p ++ i ∷ []) s → Starts (p ++ j ∷ []) t → IsTurnBefore s t
starts_before [] i j [] t lt h k = absurd h
starts_before [] i j (m ∷ s) [] lt h k = absurd k
starts_before [] i j (m ∷ s) (n ∷ t) lt h k = let a = h.0 in let b = k.0 in inl (omega arith)
starts_before (q ∷ p) i j [] t lt h k = absurd h
starts_before (q ∷ p) i j (m ∷ s) [] lt h k = absurd k
starts_before (q ∷ p) i j (m ∷ s) (n ∷ t) lt h k = inr (h.0 ∙ sym k.0, starts_before p i j s t lt h.1 k.1)

-- ---- one list of faults behind another

leads_append : (a b : List PlanFault) → Leads a → Leads b → ((x y : PlanFault) → In x a → In y b → IsTurnBefore (turn_of x) (turn_of y)) → Leads (a ++ b)
leads_append [] b la lb cross = lb
leads_append (x ∷ a) b la lb cross = λ fault h. elim (in_either fault a b h) [
  | inl left ↦ la fault left
  | inr right ↦ inr (cross x fault (inl refl) right)
]

leads_alike : (a : List PlanFault) (x : PlanFault) → ((fault : PlanFault) → In fault a → fault ≡ x) → Leads a
leads_alike [] x alike = tt
leads_alike (y ∷ a) x alike = λ fault h. inl (alike fault (inr h) ∙ sym (alike y (inl refl)))

-- behind these numbers each turn has a number from n on
record Begins (p : List ℕ) (n : ℕ) (t : List ℕ) : Type 0 where
  number : ℕ
  least : n ≤ number
  starts : Starts (p ++ number ∷ []) t

-- faults whose first one leads, and whose turns are of this kind
record Part (p : List ℕ) (n : ℕ) (faults : List PlanFault) : Type 0 where
  leads : Leads faults
  begins : (fault : PlanFault) → In fault faults → Begins p n (turn_of fault)

part_none : (p : List ℕ) (n : ℕ) → Part p n []
part_none p n = record { leads = tt; begins = λ fault h. absurd h }

part_last : (p : List ℕ) (n : ℕ) (a : List PlanFault) → Leads a → ((fault : PlanFault) → In fault a → Starts (p ++ n ∷ []) (turn_of fault)) → Part p n a
part_last p n a leads starts = record { leads = leads; begins = λ fault h. record { number = n; least = omega arith; starts = starts fault h } }

part_append : (p : List ℕ) (i n : ℕ) (a b : List PlanFault) → Leads a → ((fault : PlanFault) → In fault a → Starts (p ++ i ∷ []) (turn_of fault)) → i < n → Part p n b → Part p i (a ++ b)
part_append p i n a b leads starts lt rest = record {
  leads = leads_append a b leads rest.leads (λ x y hx hy. cross x y hx (rest.begins y hy));
  begins = λ fault h. elim (in_either fault a b h) [
    | inl left ↦ record { number = i; least = omega arith; starts = starts fault left }
    | inr right ↦ let r = rest.begins fault right in further r
  ];
}
  where
    cross : (x y : PlanFault) → In x a → Begins p n (turn_of y) → IsTurnBefore (turn_of x) (turn_of y)
    cross x y hx r = let further : i < r.number = omega (arith, r.least) in starts_before p i r.number (turn_of x) (turn_of y) further (starts x hx) r.starts

    further : {t : List ℕ} → Begins p n t → Begins p i t
    further r = record { number = r.number; least = omega (arith, r.least); starts = r.starts }

-- ---- items

part_each : (faults : ℕ → Data → List PlanFault) (p : List ℕ) → ((place : ℕ) (d : Data) → Leads (faults place d))
    → ((place : ℕ) (d : Data) (fault : PlanFault) → In fault (faults place d) → Starts (p ++ place ∷ []) (turn_of fault))
    → (place : ℕ) (items : Items) → Part p place (each_faults faults place items)
part_each faults p leads starts place no_items = part_none p place
part_each faults p leads starts place (item d ds) = part_append p place (place + 1) (faults place d) (each_faults faults (place + 1) ds) (leads place d) (starts place d) (omega arith) (part_each faults p leads starts (place + 1) ds)

unless_leads : (good : Bool) (fault : PlanFault) → Leads (unless good fault)
unless_leads true fault = tt
unless_leads false fault = λ other h. absurd h

number_leads : (key : PlanKey) (row : Option ℕ) (place : ℕ) (d : Data) → Leads (number_faults key row place d)
number_leads key row place (string s) = λ other h. absurd h
number_leads key row place (integer (pos n)) = unless_leads (nat_lt n (number_limit key)) (OutOfRange key row place)
number_leads key row place (integer (negsuc n)) = λ other h. absurd h
number_leads key row place (float x) = λ other h. absurd h
number_leads key row place (boolean b) = λ other h. absurd h
number_leads key row place (datetime dt) = λ other h. absurd h
number_leads key row place (array ds) = λ other h. absurd h
number_leads key row place (table ms) = λ other h. absurd h

unless_one : (good : Bool) (fault other : PlanFault) → In fault (unless good other) → fault ≡ other
unless_one true fault other h = absurd h
unless_one false fault other h = only_one fault other h

number_turn : (key : PlanKey) (row : Option ℕ) (place : ℕ) (d : Data) (fault : PlanFault) → In fault (number_faults key row place d) → turn_of fault ≡ 3 ∷ list_turn key row (place ∷ [])
number_turn key row place (string s) fault h = ap turn_of (only_one fault (NotWhole key row place) h)
number_turn key row place (integer (pos n)) fault h = ap turn_of (unless_one (nat_lt n (number_limit key)) fault (OutOfRange key row place) h)
number_turn key row place (integer (negsuc n)) fault h = ap turn_of (only_one fault (OutOfRange key row place) h)
number_turn key row place (float x) fault h = ap turn_of (only_one fault (NotWhole key row place) h)
number_turn key row place (boolean b) fault h = ap turn_of (only_one fault (NotWhole key row place) h)
number_turn key row place (datetime dt) fault h = ap turn_of (only_one fault (NotWhole key row place) h)
number_turn key row place (array ds) fault h = ap turn_of (only_one fault (NotWhole key row place) h)
number_turn key row place (table ms) fault h = ap turn_of (only_one fault (NotWhole key row place) h)

number_starts : (key : PlanKey) (row : Option ℕ) (place : ℕ) (d : Data) (fault : PlanFault) → In fault (number_faults key row place d) → Starts ((3 ∷ list_turn key row []) ++ place ∷ []) (turn_of fault)
number_starts key None place d fault h = rw (number_turn key None place d fault h) (starts_itself (3 ∷ list_turn key None (place ∷ [])))
number_starts key (Some machine) place d fault h = rw (number_turn key (Some machine) place d fault h) (starts_itself (3 ∷ list_turn key (Some machine) (place ∷ [])))

-- ---- lists

list_part : (key : PlanKey) (row : Option ℕ) (items : Items) → Part (3 ∷ list_turn key row []) 0 (each_faults (number_faults key row) 0 items)
list_part key row items = part_each (number_faults key row) (3 ∷ list_turn key row []) (number_leads key row) (number_starts key row) 0 items

list_leads : (key : PlanKey) (row : Option ℕ) (d : Data) → Leads (list_faults key row d)
list_leads key row (string s) = λ other h. absurd h
list_leads key row (integer z) = λ other h. absurd h
list_leads key row (float x) = λ other h. absurd h
list_leads key row (boolean b) = λ other h. absurd h
list_leads key row (datetime dt) = λ other h. absurd h
list_leads key row (array items) = (list_part key row items).leads
list_leads key row (table ms) = λ other h. absurd h

no_array_starts : (key : PlanKey) (row : Option ℕ) (fault : PlanFault) → In fault (NotArray key row ∷ []) → Starts (3 ∷ list_turn key row []) (turn_of fault)
no_array_starts key row fault h = rw (only_one fault (NotArray key row) h) (starts_itself (3 ∷ list_turn key row []))

list_starts : (key : PlanKey) (row : Option ℕ) (d : Data) (fault : PlanFault) → In fault (list_faults key row d) → Starts (3 ∷ list_turn key row []) (turn_of fault)
list_starts key row (string s) fault h = no_array_starts key row fault h
list_starts key row (integer z) fault h = no_array_starts key row fault h
list_starts key row (float x) fault h = no_array_starts key row fault h
list_starts key row (boolean b) fault h = no_array_starts key row fault h
list_starts key row (datetime dt) fault h = no_array_starts key row fault h
list_starts key row (array items) fault h =
    let r = (list_part key row items).begins fault h in
    starts_shorter (3 ∷ list_turn key row []) r.number (turn_of fault) r.starts
list_starts key row (table ms) fault h = no_array_starts key row fault h

order_part : (rows : Items) → Part (3 ∷ 2 ∷ []) 0 (each_faults row_faults 0 rows)
order_part rows = part_each row_faults (3 ∷ 2 ∷ []) (λ machine d. list_leads Order (Some machine) d) (λ machine d fault h. list_starts Order (Some machine) d fault h) 0 rows

order_leads : (d : Data) → Leads (order_faults d)
order_leads (string s) = λ other h. absurd h
order_leads (integer z) = λ other h. absurd h
order_leads (float x) = λ other h. absurd h
order_leads (boolean b) = λ other h. absurd h
order_leads (datetime dt) = λ other h. absurd h
order_leads (array rows) = (order_part rows).leads
order_leads (table ms) = λ other h. absurd h

order_starts : (d : Data) (fault : PlanFault) → In fault (order_faults d) → Starts (3 ∷ 2 ∷ []) (turn_of fault)
order_starts (string s) fault h = no_array_starts Order None fault h
order_starts (integer z) fault h = no_array_starts Order None fault h
order_starts (float x) fault h = no_array_starts Order None fault h
order_starts (boolean b) fault h = no_array_starts Order None fault h
order_starts (datetime dt) fault h = no_array_starts Order None fault h
order_starts (array rows) fault h =
    let r = (order_part rows).begins fault h in
    starts_shorter (3 ∷ 2 ∷ []) r.number (turn_of fault) r.starts
order_starts (table ms) fault h = no_array_starts Order None fault h

at_leads : (faults : Data → List PlanFault) (value : Option Data) → ((d : Data) → Leads (faults d)) → Leads (faults_at faults value)
at_leads faults None leads = tt
at_leads faults (Some d) leads = leads d

at_starts : (faults : Data → List PlanFault) (value : Option Data) (p : List ℕ) (fault : PlanFault) → ((d : Data) → In fault (faults d) → Starts p (turn_of fault)) → In fault (faults_at faults value) → Starts p (turn_of fault)
at_starts faults None p fault starts h = absurd h
at_starts faults (Some d) p fault starts h = starts d h

value_leads : (t : Members) (key : PlanKey) → Leads (value_part t key)
value_leads t Release = at_leads (list_faults Release None) (plan_value_at t Release) (list_leads Release None)
value_leads t Budget = at_leads (list_faults Budget None) (plan_value_at t Budget) (list_leads Budget None)
value_leads t Order = at_leads order_faults (plan_value_at t Order) order_leads
value_leads t Clean = at_leads (list_faults Clean None) (plan_value_at t Clean) (list_leads Clean None)

value_starts : (t : Members) (key : PlanKey) (fault : PlanFault) → In fault (value_part t key) → Starts (3 ∷ place_of key ∷ []) (turn_of fault)
value_starts t Release fault h = at_starts (list_faults Release None) (plan_value_at t Release) (3 ∷ 0 ∷ []) fault (λ d k. list_starts Release None d fault k) h
value_starts t Budget fault h = at_starts (list_faults Budget None) (plan_value_at t Budget) (3 ∷ 1 ∷ []) fault (λ d k. list_starts Budget None d fault k) h
value_starts t Order fault h = at_starts order_faults (plan_value_at t Order) (3 ∷ 2 ∷ []) fault (λ d k. order_starts d fault k) h
value_starts t Clean fault h = at_starts (list_faults Clean None) (plan_value_at t Clean) (3 ∷ 3 ∷ []) fault (λ d k. list_starts Clean None d fault k) h

-- ---- the keys of a version, and the whole

part_cleaning : (p : List ℕ) (n : ℕ) (cleaning : Bool) (a : List PlanFault) → Part p n a → Part p n (if_cleaning cleaning a)
part_cleaning p n true a h = h
part_cleaning p n false a h = part_none p n

part_keys : (stage : ℕ) (cleaning : Bool) (part : PlanKey → List PlanFault) → ((key : PlanKey) → Leads (part key))
    → ((key : PlanKey) (fault : PlanFault) → In fault (part key) → Starts (stage ∷ place_of key ∷ []) (turn_of fault)) → Part (stage ∷ []) 0 (each_key cleaning part)
part_keys stage cleaning part leads starts =
    let p3 = part_cleaning (stage ∷ []) 3 cleaning (part Clean) (part_last (stage ∷ []) 3 (part Clean) (leads Clean) (starts Clean)) in
    let p2 = part_append (stage ∷ []) 2 3 (part Order) (if_cleaning cleaning (part Clean)) (leads Order) (starts Order) (omega arith) p3 in
    let p1 = part_append (stage ∷ []) 1 2 (part Budget) (part Order ++ if_cleaning cleaning (part Clean)) (leads Budget) (starts Budget) (omega arith) p2 in
    part_append (stage ∷ []) 0 1 (part Release) (part Budget ++ (part Order ++ if_cleaning cleaning (part Clean))) (leads Release) (starts Release) (omega arith) p1

part_starts : (stage : ℕ) (faults : List PlanFault) → Part (stage ∷ []) 0 faults → (fault : PlanFault) → In fault faults → Starts (stage ∷ []) (turn_of fault)
part_starts stage faults part fault h =
    let r = part.begins fault h in
    starts_shorter (stage ∷ []) r.number (turn_of fault) r.starts

version_alike : (version : Option Data) (fault : PlanFault) → In fault (version_faults version) → fault ≡ BadVersion
version_alike None fault h = absurd h
version_alike (Some d) fault h = (bad_version fault d h).0

missing_starts : (t : Members) (key : PlanKey) (fault : PlanFault) → In fault (missing_part t key) → Starts (2 ∷ place_of key ∷ []) (turn_of fault)
missing_starts t key fault h = rw (missing_at key (plan_value_at t key) fault h).0 (starts_itself (2 ∷ place_of key ∷ []))

faults_lead : (t : Members) → Leads (faults_of t)
faults_lead t =
    let cleaning = has_cleaning (version_in t) in
    let lists = part_keys 3 cleaning (value_part t) (value_leads t) (value_starts t) in
    let missing = part_keys 2 cleaning (missing_part t) (λ key. leads_alike (missing_part t key) (MissingKey key) (λ fault h. (missing_at key (plan_value_at t key) fault h).0)) (missing_starts t) in
    let p3 = part_last [] 3 (list_values cleaning t) lists.leads (part_starts 3 (list_values cleaning t) lists) in
    let p2 = part_append [] 2 3 (missing_keys cleaning t) (list_values cleaning t) missing.leads (part_starts 2 (missing_keys cleaning t) missing) (omega arith) p3 in
    let known : (fault : PlanFault) → In fault (key_faults cleaning t) → fault ≡ UnknownKey = λ fault h. (unknown_has cleaning t fault h).0 in
    let p1 = part_append [] 1 2 (key_faults cleaning t) (missing_keys cleaning t ++ list_values cleaning t) (leads_alike (key_faults cleaning t) UnknownKey known)
    (λ fault h. rw (known fault h) (starts_itself (1 ∷ []))) (omega arith) p2 in
    let version : (fault : PlanFault) → In fault (version_faults (version_in t)) → fault ≡ BadVersion = version_alike (version_in t) in
    (part_append [] 0 1 (version_faults (version_in t)) (content_faults cleaning t) (leads_alike (version_faults (version_in t)) BadVersion version)
    (λ fault h. rw (version fault h) (starts_itself (0 ∷ []))) (omega arith) p1).leads

-- ---- the first of the listed faults is the first of all

first_in : (faults : List PlanFault) (fault : PlanFault) → IsFirstOf faults fault → In fault faults
first_in [] fault h = absurd h
first_in (x ∷ faults) fault h = inl (sym h)

least : (faults : List PlanFault) (fault other : PlanFault) → Leads faults → IsFirstOf faults fault → In other faults → IsTurnBefore (turn_of other) (turn_of fault) → ⊥
least [] fault other leads h inside before = absurd h
least (x ∷ faults) fault other leads h inside before =
    elim inside [
      | inl same ↦ never_before_itself (turn_of fault) (rw (same, h) at before)
      | inr more ↦ elim (leads other more) [
        | inl same ↦ never_before_itself (turn_of fault) (rw (same, h) at before)
        | inr after ↦ never_both (turn_of fault) (turn_of other) (rw h at after) before
      ]
    ]

pub listed_first : (t : Members) (fault : PlanFault) → IsFirstOf (faults_of t) fault → IsFirstTableFault t fault
listed_first t fault h = record {
  has = has_fault t fault (first_in (faults_of t) fault h);
  first = λ other has before. least (faults_of t) fault other (faults_lead t) h (fault_listed t other has) before;
}

head_first : (faults : List PlanFault) (fault : PlanFault) → Leads faults → In fault faults → ((other : PlanFault) → In other faults → IsTurnBefore (turn_of other) (turn_of fault) → ⊥) → IsFirstOf faults fault
head_first [] fault leads inside first = absurd inside
head_first (x ∷ faults) fault leads inside first =
    elim inside [
      | inl same ↦ sym same
      | inr more ↦ elim (leads fault more) [
        | inl same ↦ sym same
        | inr after ↦ absurd (first x (inl refl) after)
      ]
    ]

pub first_listed : (t : Members) (fault : PlanFault) → IsFirstTableFault t fault → IsFirstOf (faults_of t) fault
first_listed t fault h = head_first (faults_of t) fault (faults_lead t) (fault_listed t fault h.has) (λ other inside before. h.first other (has_fault t other inside) before)
