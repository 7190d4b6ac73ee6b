-- The tables of counts that the checks of an order keep.
use Rattle.std.proofs.Common.{◌≡◌, ◌≢◌, ℕ, ◌+◌, ◌<◌, ◌≤◌, List, [], nat_eq, length, get_or, set, arith, get_or-set_same, get_or-set_other, sym, inl, inr, replicate, ap, ◌∙◌, eq-eqb, ne_eqb, add-one}
use Rattle.std.proofs.lemmas.List.{get_or-replicate, get_or_past, length-replicate, length-set}
use Rattle.std.proofs.lemmas.Bool.{cases_eq, cases_lt, cases_order}
use Rattle.shop_base.specs.declared.limits.TheConstants.{MAX_JOBS, MAX_MACHINES}
use Rattle.shop_base.specs.declared.shop.Step.{Step}
use Rattle.shop_base.specs.Shop.{route_at}
use Rattle.shop_base.specs.Plan.{PlannedShop, job_at, count_below}
use Rattle.shop_base.specs.ShapeFault.{IsGoodPlace}
use Rattle.shop_base.specs.Marks.{AreTheCounts, AreVisited, AreVisits, route_visits}
use Rattle.shop_base.proofs.Counting.{count_passed, count_failed}

-- how often number i is that of one of the first n places
abbrev pub times_before : (ℕ → ℕ) → ℕ → ℕ → ℕ
times_before number n i = count_below (λ a. nat_eq (number a) i) n

-- no count is above 0 at first
pub zero_at : (size j : ℕ) → ◌≡◌ {A = ℕ} (get_or (replicate size 0) j 0) 0
zero_at size j = elim (cases_lt j size) [
  | inl lower ↦ get_or-replicate size j 0 0 lower
  | inr higher ↦ get_or_past (replicate size 0) j 0 (omega (arith, length-replicate {A = ℕ} size 0))
]

-- no place was looked at
pub times_none : (size : ℕ) (number : ℕ → ℕ) → AreTheCounts (replicate size 0) (times_before number 0)
times_none size number = λ i lt. zero_at size i

module _ (counts : List ℕ) (number : ℕ → ℕ) (n : ℕ) (are : AreTheCounts counts (times_before number n)) (inside : number n < length counts) where
  -- one more place, whose number is counted
  pub times_more : AreTheCounts (set counts (number n) (get_or counts (number n) 0 + 1)) (times_before number (n + 1))
  times_more = λ i lt. at i (omega (arith, length-set counts (number n) (get_or counts (number n) 0 + 1)))
    where
      value : ℕ
      value = get_or counts (number n) 0 + 1

      at : (i : ℕ) → i < length counts → ◌≡◌ {A = ℕ} (get_or (set counts (number n) value) i 0) (times_before number (n + 1) i)
      at i lt = elim (cases_eq i (number n)) [
        | inl same ↦ (
            let counted : times_before number (n + 1) i ≡ times_before number n i + 1 = ap (λ x. times_before number x i) (add-one n) ∙ count_passed (λ (a : ℕ). nat_eq (number a) i) n (eq-eqb (number n) i (sym same)) in
            let put : get_or (set counts (number n) value) (number n) 0 ≡ value = get_or-set_same counts (number n) value 0 inside in
            let was : get_or counts i 0 ≡ times_before number n i = are i lt in
            let moved : get_or (set counts (number n) value) i 0 ≡ get_or (set counts (number n) value) (number n) 0 = ap (λ (x : ℕ). get_or (set counts (number n) value) x 0) same in
            let there : get_or counts i 0 ≡ get_or counts (number n) 0 = ap (λ (x : ℕ). get_or counts x 0) same in
            moved ∙ put ∙ omega (arith, counted, was, there))
        | inr other ↦ (
            let same : times_before number (n + 1) i ≡ times_before number n i = ap (λ x. times_before number x i) (add-one n) ∙ count_failed (λ (a : ℕ). nat_eq (number a) i) n (ne_eqb (number n) i (λ is. other (sym is))) in
            get_or-set_other counts (number n) i value 0 other ∙ are i lt ∙ sym same)
      ]

-- the first n places of an order are good, and it is counted how often each job stands there
pub record ArePlacesChecked (p : PlannedShop) (m : ℕ) (listed : List ℕ) (n : ℕ) : Type 0 where
  pub good : (a : ℕ) → a < n → IsGoodPlace p m a
  pub counts : AreTheCounts listed (times_before (job_at p m) n)
  pub size : length listed ≡ MAX_JOBS

-- no place was looked at
pub places_none : (p : PlannedShop) (m : ℕ) → ArePlacesChecked p m (replicate MAX_JOBS 0) 0
places_none p m = record {
  good = λ a lt. absurd (omega arith);
  counts = times_none MAX_JOBS (job_at p m);
  size = length-replicate {A = ℕ} MAX_JOBS 0;
}

module _ (p : PlannedShop) (m : ℕ) (listed : List ℕ) (n : ℕ) (checked : ArePlacesChecked p m listed n) where
  -- one more good place, whose job is counted
  pub places_more : job_at p m n < length listed → IsGoodPlace p m n → ArePlacesChecked p m (set listed (job_at p m n) (get_or listed (job_at p m n) 0 + 1)) (n + 1)
  places_more inside good = record {
    good = λ a lt. elim (cases_order a n) [
      | inl same ↦ rw same good
      | inr other ↦ (let lower : a < n = elim other [ inl l ↦ omega arith | inr g ↦ omega arith ] in checked.good a lower)
    ];
    counts = times_more listed (job_at p m) n checked.counts inside;
    size = length-set listed (job_at p m n) (get_or listed (job_at p m n) 0 + 1) ∙ checked.size;
  }

-- a route without steps visits nothing
visited_none : (route : List Step) → length route ≡ 0 → AreVisited (replicate MAX_MACHINES 0) route
visited_none route empty = record {
  counts = λ m lt. zero_at MAX_MACHINES m ∙ sym (ap (λ (n : ℕ). route_visits route n m) empty);
  size = length-replicate {A = ℕ} MAX_MACHINES 0;
}

-- for each of the first n jobs it is counted how often its route visits each machine, and for no other
pub record AreVisitsBelow (visits : List (List ℕ)) (routes : List (List Step)) (n : ℕ) : Type 0 where
  pub marks : (j : ℕ) → j < n → AreVisited (get_or visits j []) (route_at routes j)
  pub unset : (j : ℕ) → n ≤ j → j < length visits → get_or visits j [] ≡ replicate MAX_MACHINES 0
  pub size : length visits ≡ MAX_JOBS

-- no job was looked at
pub visits_none : (routes : List (List Step)) → AreVisitsBelow (replicate MAX_JOBS (replicate MAX_MACHINES 0)) routes 0
visits_none routes =
    let row : List ℕ = replicate MAX_MACHINES 0 in
    record {
      marks = λ j lt. absurd (omega arith);
      unset = λ j le lt. get_or-replicate MAX_JOBS j row [] (omega (arith, length-replicate MAX_JOBS row));
      size = length-replicate MAX_JOBS row;
    }

module _ (visits : List (List ℕ)) (routes : List (List Step)) (n : ℕ) (below : AreVisitsBelow visits routes n) where
  -- one more job, the machines of whose route are counted
  pub visits_more : (row : List ℕ) → n < length visits → AreVisited row (route_at routes n) → AreVisitsBelow (set visits n row) routes (n + 1)
  visits_more row inside visited = record {
    marks = λ j lt. elim (cases_order j n) [
      | inl same ↦ rw (same, get_or-set_same visits n row [] inside) visited
      | inr other ↦ (
          let lower : j < n = elim other [ inl l ↦ omega arith | inr g ↦ omega arith ] in
          let apart : j ≢ n = omega arith in
          rw (get_or-set_other visits n j row [] apart) (below.marks j lower))
    ];
    unset = λ j le lt.
        let apart : j ≢ n = omega arith in
        get_or-set_other visits n j row [] apart ∙ below.unset j (omega arith) (omega (arith, length-set visits n row));
    size = length-set visits n row ∙ below.size;
  }

  -- there are no more jobs
  pub visits_all : length routes ≤ n → AreVisits visits routes
  visits_all end = λ j within. elim (cases_lt j n) [
    | inl lower ↦ below.marks j lower
    | inr higher ↦ rw (below.unset j higher within) (visited_none (route_at routes j) (ap length (get_or_past routes j [] (omega arith))))
  ]
