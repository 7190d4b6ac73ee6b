-- Tests that compute on a plan, a cell and a list of events that are written out, and that decide the definitions of the cell.
use Rattle.std.proofs.Common.{◌≡◌, ℕ, zero, suc, ◌+◌, ◌-◌, ◌<◌, ◌≤◌, List, [], ◌∷◌, ◌++◌, Option, None, Some, is_none, is_some, Bool, true, false, not, ◌&&◌, ◌||◌, ltb, leb, eqb, Decides, ◌⊎◌, inl, inr, refl, sym, ◌∙◌, ap, subst, arith}
use Rattle.std.proofs.lemmas.Bool.{leb-true, le-leb, cases_lt}
use Rattle.std.proofs.lemmas.Bool.Decides.{Decides-like, Decides-and, Decides-or, Decides-not, Decides-ltb, Decides-eqb, Decides-below_and, Decides-below_or}
use Rattle.shop_base.specs.declared.limits.TheConstants.{MAX_MOMENT}
use Rattle.shop_base.specs.declared.report.Report.{Report}
use Rattle.shop_base.specs.Plan.{PlannedShop, jobs, steps, machine_of, release, nominal, clean, order, Visits}
use Rattle.shop_base.specs.Cell.{Cell, made, ready, since, entries, cleaning, IsOn, IsFree}
use Rattle.shop_base.specs.Activity.{Activity, Arrival, Operation, Cleaning, GoesOn}
use Rattle.shop_base.specs.Report.{ended, at, IsNextMoment, CanReport}
use Rattle.shop_base.specs.Move.{CanLeave, CanEnter, CanMove, IsPrefix, KeepsPlan, order_for, CanObey}
use Rattle.shop_base.specs.declared.move_order.MoveOrder.{MoveOrder}
use Rattle.shop_base.specs.declared.move_order.Spot.{Spot}
use Rattle.shop_base.specs.declared.move_order.Spot.TheVariants.{Out, At}
use Rattle.shop_base.specs.Run.{Event, Reported, Moved, CanHappen, after, AreEvents}
use Rattle.shop_base.proofs.Visits.{visits_job, leaves_past, past_leaves}

-- whether the test passes at each number below n
abbrev pub all_below : (ℕ → Bool) → ℕ → Bool
all_below test zero = true
all_below test (suc n) = test n && all_below test n

-- whether the test passes at a number below n
abbrev pub some_below : (ℕ → Bool) → ℕ → Bool
some_below test zero = false
some_below test (suc n) = test n || some_below test n

pub all_below_decides : (test : ℕ → Bool) (P : ℕ → Type 0) → ((k : ℕ) → Decides (test k) (P k)) → (n : ℕ) → Decides (all_below test n) ((k : ℕ) → k < n → P k)
all_below_decides test P each n = Decides-below_and test P (all_below test) each refl (λ _. refl) n

pub some_below_decides : (test : ℕ → Bool) (P : ℕ → Type 0) → ((k : ℕ) → Decides (test k) (P k)) → (n : ℕ) → Decides (some_below test n) ((k : ℕ) × (k < n) × P k)
some_below_decides test P each n = Decides-below_or test P (some_below test) each refl (λ _. refl) n

pub leb_decides : (a b : ℕ) → Decides (leb a b) (a ≤ b)
leb_decides a b = (leb-true a b, le-leb a b)

pub none_decides : (o : Option ℕ) → Decides (is_none o) (o ≡ None)
none_decides None = ((λ _. refl), (λ _. refl))
none_decides (Some x) = ((λ bad. absurd (differ bad)), (λ bad. absurd (cc)))
  where
    differ : false ≡ true → ⊥
    differ bad = cc

abbrev pub visits_test : PlannedShop → ℕ → ℕ → ℕ → Bool
visits_test p j k m = ltb k (steps p j) && eqb (machine_of p j k) m

pub visits_decides : (p : PlannedShop) (j k m : ℕ) → Decides (visits_test p j k m) (Visits p j k m)
visits_decides p j k m = Decides-like (visits_test p j k m) (λ both. record { within = both.0; here = both.1 }) (λ visits. (visits.within, visits.here))
    (Decides-and (ltb k (steps p j)) (eqb (machine_of p j k) m) (Decides-ltb k (steps p j)) (Decides-eqb (machine_of p j k) m))

-- whether job j is on machine m, in some step
abbrev pub on_test : PlannedShop → Cell → ℕ → ℕ → Bool
on_test p c j m = ltb 0 (made c j) && visits_test p j (made c j - 1) m

pub on_decides : (p : PlannedShop) (c : Cell) (j m : ℕ) → Decides (on_test p c j m) ((k : ℕ) × IsOn p c j k m)
on_decides p c j m = Decides-like (on_test p c j m) is_on was_on
    (Decides-and (ltb 0 (made c j)) (visits_test p j (made c j - 1) m) (Decides-ltb 0 (made c j)) (visits_decides p j (made c j - 1) m))
  where
    is_on : (0 < made c j) × Visits p j (made c j - 1) m → (k : ℕ) × IsOn p c j k m
    is_on (some, visits) = (made c j - 1, record { entered = omega arith; visits = visits })

    was_on : (k : ℕ) × IsOn p c j k m → (0 < made c j) × Visits p j (made c j - 1) m
    was_on (k, on) = let same : k ≡ made c j - 1 = omega (arith, on.entered) in
        (omega (arith, on.entered), subst (λ (l : ℕ). Visits p j l m) same on.visits)

abbrev pub free_test : PlannedShop → Cell → ℕ → Bool
free_test p c m = all_below (λ j. not (on_test p c j m)) (jobs p)

pub free_decides : (p : PlannedShop) (c : Cell) (m : ℕ) → Decides (free_test p c m) (IsFree p c m)
free_decides p c m = Decides-like (free_test p c m) is_free was_free
    (all_below_decides (λ j. not (on_test p c j m)) (λ j. (k : ℕ) × IsOn p c j k m → ⊥) (λ j. Decides-not (on_test p c j m) (on_decides p c j m)) (jobs p))
  where
    is_free : ((j : ℕ) → j < jobs p → (k : ℕ) × IsOn p c j k m → ⊥) → IsFree p c m
    is_free none j k on = none j (visits_job p j k m on.visits) (k, on)

    was_free : IsFree p c m → (j : ℕ) → j < jobs p → (k : ℕ) × IsOn p c j k m → ⊥
    was_free free j within (k, on) = free j k on

abbrev pub enter_test : PlannedShop → Cell → ℕ → ℕ → Bool
enter_test p c j m = visits_test p j (made c j) m && (free_test p c m && is_none (cleaning c m))

pub enter_decides : (p : PlannedShop) (c : Cell) (j m : ℕ) → Decides (enter_test p c j m) (CanEnter p c j m)
enter_decides p c j m = Decides-like (enter_test p c j m) can_enter could_enter
    (Decides-and (visits_test p j (made c j) m) (free_test p c m && is_none (cleaning c m)) (visits_decides p j (made c j) m)
    (Decides-and (free_test p c m) (is_none (cleaning c m)) (free_decides p c m) (none_decides (cleaning c m))))
  where
    can_enter : Visits p j (made c j) m × (IsFree p c m × (cleaning c m ≡ None)) → CanEnter p c j m
    can_enter (next, (free, is_clean)) = record { next = next; free = free; is_clean = is_clean }

    could_enter : CanEnter p c j m → Visits p j (made c j) m × (IsFree p c m × (cleaning c m ≡ None))
    could_enter enters = (enters.next, (enters.free, enters.is_clean))

-- whether job j can leave, or can enter its next machine
abbrev pub way_test : PlannedShop → Cell → ℕ → Bool
way_test p c j = leb (steps p j) (made c j) || enter_test p c j (machine_of p j (made c j))

pub way_decides : (p : PlannedShop) (c : Cell) (j : ℕ) → Decides (way_test p c j) (CanLeave p c j ⊎ ((m : ℕ) × CanEnter p c j m))
way_decides p c j = Decides-like (way_test p c j) has_way had_way
    (Decides-or (leb (steps p j) (made c j)) (enter_test p c j next) (leb_decides (steps p j) (made c j)) (enter_decides p c j next))
  where
    next : ℕ
    next = machine_of p j (made c j)

    has_way : (steps p j ≤ made c j) ⊎ CanEnter p c j next → CanLeave p c j ⊎ ((m : ℕ) × CanEnter p c j m)
    has_way (inl past) = inl (past_leaves p c j past)
    has_way (inr enters) = inr (next, enters)

    had_way : CanLeave p c j ⊎ ((m : ℕ) × CanEnter p c j m) → (steps p j ≤ made c j) ⊎ CanEnter p c j next
    had_way (inl leaves) = inl (leaves_past p c j leaves)
    had_way (inr (m, enters)) = inr (subst (CanEnter p c j) (sym enters.next.here) enters)

abbrev pub moment_test : Cell → ℕ → Bool
moment_test c t = leb c.last t && leb t MAX_MOMENT

pub moment_decides : (c : Cell) (t : ℕ) → Decides (moment_test c t) (IsNextMoment c t)
moment_decides c t = Decides-like (moment_test c t) (λ both. record { in_order = both.0; in_range = both.1 }) (λ moment. (moment.in_order, moment.in_range))
    (Decides-and (leb c.last t) (leb t MAX_MOMENT) (leb_decides c.last t) (leb_decides t MAX_MOMENT))

abbrev pub move_test : PlannedShop → Cell → ℕ → ℕ → Bool
move_test p c j t = ready c j && (way_test p c j && moment_test c t)

pub move_decides : (p : PlannedShop) (c : Cell) (j t : ℕ) → Decides (move_test p c j t) (CanMove p c j t)
move_decides p c j t = Decides-like (move_test p c j t) can_move could_move
    (Decides-and (ready c j) (way_test p c j && moment_test c t) ((λ is. is), (λ is. is))
    (Decides-and (way_test p c j) (moment_test c t) (way_decides p c j) (moment_decides c t)))
  where
    can_move : (ready c j ≡ true) × ((CanLeave p c j ⊎ ((m : ℕ) × CanEnter p c j m)) × IsNextMoment c t) → CanMove p c j t
    can_move (is_ready, (way, moment)) = record { is_ready = is_ready; way = way; moment = moment }

    could_move : CanMove p c j t → (ready c j ≡ true) × ((CanLeave p c j ⊎ ((m : ℕ) × CanEnter p c j m)) × IsNextMoment c t)
    could_move can = (can.is_ready, (can.way, can.moment))

abbrev pub prefix_test : List ℕ → List ℕ → Bool
prefix_test [] whole = true
prefix_test (x ∷ front) [] = false
prefix_test (x ∷ front) (y ∷ whole) = eqb x y && prefix_test front whole

pub prefix_decides : (front whole : List ℕ) → Decides (prefix_test front whole) (IsPrefix front whole)
prefix_decides [] whole = ((λ _. (whole, refl)), (λ _. refl))
prefix_decides (x ∷ front) [] = ((λ bad. absurd (differ bad)), (λ prefix. absurd (longer prefix)))
  where
    differ : false ≡ true → ⊥
    differ bad = cc

    longer : IsPrefix (x ∷ front) [] → ⊥
    longer (rest, is) = cc
prefix_decides (x ∷ front) (y ∷ whole) = Decides-like (eqb x y && prefix_test front whole) is_prefix was_prefix
    (Decides-and (eqb x y) (prefix_test front whole) (Decides-eqb x y) (prefix_decides front whole))
  where
    is_prefix : (x ≡ y) × IsPrefix front whole → IsPrefix (x ∷ front) (y ∷ whole)
    is_prefix (same, (rest, is)) = (rest, cc)

    was_prefix : IsPrefix (x ∷ front) (y ∷ whole) → (x ≡ y) × IsPrefix front whole
    was_prefix (rest, is) = (cc, (rest, cc))

-- whether the next move of job j keeps the plan
abbrev pub keeps_test : PlannedShop → Cell → ℕ → Bool
keeps_test p c j = not (ltb (made c j) (steps p j)) || prefix_test (entries c (machine_of p j (made c j)) ++ j ∷ []) (order p (machine_of p j (made c j)))

pub keeps_decides : (p : PlannedShop) (c : Cell) (j : ℕ) → Decides (keeps_test p c j) (KeepsPlan p c j)
keeps_decides p c j = Decides-like (keeps_test p c j) keeps kept
    (Decides-or (not (ltb (made c j) (steps p j))) (prefix_test (entered next) (order p next))
    (Decides-not (ltb (made c j) (steps p j)) (Decides-ltb (made c j) (steps p j))) (prefix_decides (entered next) (order p next)))
  where
    next : ℕ
    next = machine_of p j (made c j)

    entered : ℕ → List ℕ
    entered m = entries c m ++ j ∷ []

    keeps : (made c j < steps p j → ⊥) ⊎ IsPrefix (entered next) (order p next) → KeepsPlan p c j
    keeps (inl leaves) m visits = absurd (leaves visits.within)
    keeps (inr prefix) m visits = subst (λ (n : ℕ). IsPrefix (entered n) (order p n)) visits.here prefix

    kept : KeepsPlan p c j → (made c j < steps p j → ⊥) ⊎ IsPrefix (entered next) (order p next)
    kept keeps_plan = elim (cases_lt (made c j) (steps p j)) [ inl within ↦ inr (keeps_plan next (record { within = within; here = refl })) | inr past ↦ inl (λ within. omega arith) ]

abbrev pub spot_test : Spot → Spot → Bool
spot_test Out Out = true
spot_test Out (At n) = false
spot_test (At m) Out = false
spot_test (At m) (At n) = eqb m n

pub spot_decides : (s t : Spot) → Decides (spot_test s t) (s ≡ t)
spot_decides Out Out = ((λ _. refl), (λ _. refl))
spot_decides Out (At n) = ((λ bad. absurd (cc)), (λ bad. absurd (cc)))
spot_decides (At m) Out = ((λ bad. absurd (cc)), (λ bad. absurd (cc)))
spot_decides (At m) (At n) = Decides-like (eqb m n) (λ same. ap At same) (λ same. cc) (Decides-eqb m n)

abbrev pub order_test : MoveOrder → MoveOrder → Bool
order_test o q = eqb o.job q.job && (spot_test o.source q.source && (spot_test o.target q.target && eqb o.at q.at))

pub order_decides : (o q : MoveOrder) → Decides (order_test o q) (o ≡ q)
order_decides o q = Decides-like (order_test o q) same were_same
    (Decides-and (eqb o.job q.job) _ (Decides-eqb o.job q.job) (Decides-and (spot_test o.source q.source) _ (spot_decides o.source q.source)
    (Decides-and (spot_test o.target q.target) (eqb o.at q.at) (spot_decides o.target q.target) (Decides-eqb o.at q.at))))
  where
    same : (o.job ≡ q.job) × ((o.source ≡ q.source) × ((o.target ≡ q.target) × (o.at ≡ q.at))) → o ≡ q
    same (job, (source, (target, at))) = λ i. record { job = job i; source = source i; target = target i; at = at i }

    were_same : o ≡ q → (o.job ≡ q.job) × ((o.source ≡ q.source) × ((o.target ≡ q.target) × (o.at ≡ q.at)))
    were_same is = (ap (λ (x : MoveOrder). x.job) is, (ap (λ (x : MoveOrder). x.source) is, (ap (λ (x : MoveOrder). x.target) is, ap (λ (x : MoveOrder). x.at) is)))

abbrev pub obey_test : PlannedShop → Cell → MoveOrder → Bool
obey_test p c o = move_test p c o.job o.at && order_test o (order_for p c o.job o.at)

pub obey_decides : (p : PlannedShop) (c : Cell) (o : MoveOrder) → Decides (obey_test p c o) (CanObey p c o)
obey_decides p c o = Decides-like (obey_test p c o) (λ both. record { can = both.0; is_move = both.1 }) (λ obeys. (obeys.can, obeys.is_move))
    (Decides-and (move_test p c o.job o.at) (order_test o (order_for p c o.job o.at)) (move_decides p c o.job o.at) (order_decides o (order_for p c o.job o.at)))

-- whether the activity is going on
abbrev pub going_test : PlannedShop → Cell → Activity → Bool
going_test p c (Arrival j) = eqb (made c j) 0 && not (ready c j)
going_test p c (Operation j m) = on_test p c j m && not (ready c j)
going_test p c (Cleaning m) = is_some (cleaning c m)

abbrev pub cleaned_from : Option ℕ → ℕ
cleaned_from None = 0
cleaned_from (Some from) = from

-- when the activity is due, if it is going on
abbrev pub due_of : PlannedShop → Cell → Activity → ℕ
due_of p c (Arrival j) = release p j
due_of p c (Operation j m) = since c j + nominal p j (made c j - 1)
due_of p c (Cleaning m) = cleaned_from (cleaning c m) + clean p m

not_decides : (b : Bool) → Decides (not b) (b ≡ false)
not_decides true = ((λ bad. cc), (λ bad. cc))
not_decides false = ((λ _. refl), (λ _. refl))

some_decides : (o : Option ℕ) → Decides (is_some o) ((from : ℕ) × (o ≡ Some from))
some_decides None = ((λ bad. absurd (cc)), (λ bad. absurd (none bad)))
  where
    none : (from : ℕ) × (None ≡ Some from) → ⊥
    none (from, bad) = cc
some_decides (Some from) = ((λ _. (from, refl)), (λ _. refl))

pub going_decides : (p : PlannedShop) (c : Cell) (a : Activity) → Decides (going_test p c a) (GoesOn p c a (due_of p c a))
going_decides p c (Arrival j) = Decides-like (going_test p c (Arrival j)) (λ both. record { outside = both.0; not_ready = both.1; is_due = refl }) (λ awaited. (awaited.outside, awaited.not_ready))
    (Decides-and (eqb (made c j) 0) (not (ready c j)) (Decides-eqb (made c j) 0) (not_decides (ready c j)))
going_decides p c (Operation j m) = Decides-like (going_test p c (Operation j m)) goes_on went_on
    (Decides-and (on_test p c j m) (not (ready c j)) (on_decides p c j m) (not_decides (ready c j)))
  where
    goes_on : ((k : ℕ) × IsOn p c j k m) × (ready c j ≡ false) → GoesOn p c (Operation j m) (due_of p c (Operation j m))
    goes_on ((k, on), idle) = let same : made c j - 1 ≡ k = omega (arith, on.entered) in
        (k, record { on = on; not_ready = idle; is_due = ap (λ (l : ℕ). since c j + nominal p j l) same })

    went_on : GoesOn p c (Operation j m) (due_of p c (Operation j m)) → ((k : ℕ) × IsOn p c j k m) × (ready c j ≡ false)
    went_on (k, works) = ((k, works.on), works.not_ready)
going_decides p c (Cleaning m) = Decides-like (is_some (cleaning c m)) goes_on went_on (some_decides (cleaning c m))
  where
    goes_on : (from : ℕ) × (cleaning c m ≡ Some from) → GoesOn p c (Cleaning m) (due_of p c (Cleaning m))
    goes_on (from, is) = (from, record { is_cleaned = is; is_due = ap (λ (o : Option ℕ). cleaned_from o + clean p m) is })

    went_on : GoesOn p c (Cleaning m) (due_of p c (Cleaning m)) → (from : ℕ) × (cleaning c m ≡ Some from)
    went_on (from, works) = (from, works.is_cleaned)

-- an activity that goes on is due at exactly that moment
pub due-is : (p : PlannedShop) (c : Cell) (a : Activity) (due : ℕ) → GoesOn p c a due → due ≡ due_of p c a
due-is p c (Arrival j) due awaited = awaited.is_due
due-is p c (Operation j m) due (k, works) = let same : k ≡ made c j - 1 = omega (arith, works.on.entered) in works.is_due ∙ ap (λ (l : ℕ). since c j + nominal p j l) same
due-is p c (Cleaning m) due (from, works) = works.is_due ∙ ap (λ (o : Option ℕ). cleaned_from o + clean p m) (sym works.is_cleaned)

abbrev pub report_test : PlannedShop → Cell → Report → Bool
report_test p c r = going_test p c (ended r) && moment_test c (at r)

pub report_decides : (p : PlannedShop) (c : Cell) (r : Report) → Decides (report_test p c r) (CanReport p c r)
report_decides p c r = Decides-like (report_test p c r) can could
    (Decides-and (going_test p c (ended r)) (moment_test c (at r)) (going_decides p c (ended r)) (moment_decides c (at r)))
  where
    can : GoesOn p c (ended r) (due_of p c (ended r)) × IsNextMoment c (at r) → CanReport p c r
    can (going, moment) = record { going = (due_of p c (ended r), going); moment = moment }

    could : CanReport p c r → GoesOn p c (ended r) (due_of p c (ended r)) × IsNextMoment c (at r)
    could possible = (subst (GoesOn p c (ended r)) (due-is p c (ended r) possible.going.0 possible.going.1) possible.going.1, possible.moment)

abbrev pub happen_test : PlannedShop → Cell → Event → Bool
happen_test p c (Reported r) = report_test p c r
happen_test p c (Moved o) = obey_test p c o && keeps_test p c o.job

pub happen_decides : (p : PlannedShop) (c : Cell) (e : Event) → Decides (happen_test p c e) (CanHappen p c e)
happen_decides p c (Reported r) = report_decides p c r
happen_decides p c (Moved o) = Decides-and (obey_test p c o) (keeps_test p c o.job) (obey_decides p c o) (keeps_decides p c o.job)

abbrev pub events_test : PlannedShop → Cell → List Event → Bool
events_test p c [] = true
events_test p c (e ∷ es) = happen_test p c e && events_test p (after p c e) es

pub events_decides : (p : PlannedShop) (c : Cell) (es : List Event) → Decides (events_test p c es) (AreEvents p c es)
events_decides p c [] = ((λ _. tt), (λ _. refl))
events_decides p c (e ∷ es) = Decides-and (happen_test p c e) (events_test p (after p c e) es) (happen_decides p c e) (events_decides p (after p c e) es)
