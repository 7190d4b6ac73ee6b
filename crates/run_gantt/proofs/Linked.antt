-- The table of visits, in which those to a machine follow each other.
use Rattle.std.proofs.Common.{◌≡◌, ℕ, zero, suc, ◌<◌, ◌≤◌, ◌⊎◌, inl, inr, List, [], ◌∷◌, ◌++◌, length, get_or, set, Option, None, Some, refl, sym, ap, subst, ◌∙◌, arith, length-append, replicate, get_or-set_same, get_or-set_other, length-set}
use Rattle.std.proofs.Math.Seq.{get_or-append_seam}
use Rattle.std.proofs.lemmas.Bool.{cases_eq}
use Rattle.std.proofs.lemmas.List.{get_or_append_left, get_or-map, ext_get_or, length-map, length-replicate}
use Rattle.run_gantt.specs.declared.visits.LoggedVisit.{LoggedVisit}
use Rattle.run_gantt.specs.declared.visits.LinkedVisit.{LinkedVisit}
use Rattle.run_gantt.specs.Visits.{machine_visits}
use Rattle.run_gantt.proofs.MachineVisits.{machine_visits-count, machine_visits-at}
use Rattle.run_gantt.specs.LinkedVisits.{no_visit, linked_from, rows_of, IsBelow, AreLinked, AreAllLinked}

-- a chain is one in a longer table too
chain-longer : (table : List LinkedVisit) (more : LinkedVisit) (first : Option ℕ) (visits : List LoggedVisit) → AreLinked table first visits → AreLinked (table ++ more ∷ []) first visits
chain-longer table more first [] chain = chain
chain-longer table more first (visit ∷ visits) (place, is, within, here, below, chain) =
    let same : get_or (table ++ more ∷ []) place no_visit ≡ get_or table place no_visit = get_or_append_left table (more ∷ []) no_visit place within in (
      place,
      is,
      omega (arith, within, length-append table (more ∷ [])),
      rw same here,
      rw same below,
      rw same (chain-longer table more (get_or table place no_visit).next visits chain),
    )

-- a chain begins within the table
chain-below : (table : List LinkedVisit) (first : Option ℕ) (visits : List LoggedVisit) → AreLinked table first visits → IsBelow first (length table)
chain-below table first [] chain = rw chain tt
chain-below table first (visit ∷ visits) (place, is, within, here, below, chain) = rw is within

-- a visit put before a chain
chain-cons : (table : List LinkedVisit) (first : Option ℕ) (visit : LoggedVisit) (visits : List LoggedVisit) → AreLinked table first visits
    → AreLinked (table ++ record { visit = visit; next = first } ∷ []) (Some (length table)) (visit ∷ visits)
chain-cons table first visit visits chain =
    let new : LinkedVisit = record { visit = visit; next = first } in
    let same : get_or (table ++ new ∷ []) (length table) no_visit ≡ new = get_or-append_seam table new [] no_visit in (
      length table,
      refl,
      omega (arith, length-append table (new ∷ [])),
      rw same refl,
      rw same (chain-below table first visits chain),
      rw same (chain-longer table new first visits chain),
    )

below-more : (next : Option ℕ) (place most : ℕ) → IsBelow next place → place ≤ most → IsBelow next most
below-more None place most below le = tt
below-more (Some n) place most below le = omega (arith, below)

none_linked : (table : List LinkedVisit) (most : ℕ) → linked_from table most None ≡ []
none_linked table zero = refl
none_linked table (suc most) = refl

-- a chain is what is linked from its first place on
chain-is : (table : List LinkedVisit) (most : ℕ) (first : Option ℕ) (visits : List LoggedVisit) → AreLinked table first visits → IsBelow first most → linked_from table most first ≡ visits
chain-is table most first [] chain below = rw chain (none_linked table most)
chain-is table zero first (visit ∷ visits) (place, is, within, here, under, chain) below =
    let less : place < zero = rw is at below in absurd (omega (arith, less))
chain-is table (suc most) first (visit ∷ visits) (place, is, within, here, under, chain) below =
    let less : place < suc most = rw is at below in
    let next = (get_or table place no_visit).next in
    let rest : linked_from table most next ≡ visits = chain-is table most next visits chain (below-more next place most under (omega (arith, less))) in
    rw (is, here, rest) refl

-- a visit is put before the others to machine m
module _ (table : List LinkedVisit) (first : List (Option ℕ)) (m : ℕ) (visit : LoggedVisit) (inside : m < length first) (are : AreAllLinked table first) where
  abbrev old : List (List LoggedVisit)
  old = rows_of table first

  abbrev longer : List LinkedVisit
  longer = table ++ record { visit = visit; next = get_or first m None } ∷ []

  abbrev places : List (Option ℕ)
  places = set first m (Some (length table))

  abbrev rows : List (List LoggedVisit)
  rows = set old m (visit ∷ get_or old m [])

  row-is : (n : ℕ) → n < length first → get_or old n [] ≡ linked_from table (length table) (get_or first n None)
  row-is n within = get_or-map (linked_from table (length table)) first n None [] within

  row-first : AreLinked longer (get_or places m None) (get_or rows m [])
  row-first =
      rw (get_or-set_same first m (Some (length table)) None inside, get_or-set_same old m (visit ∷ get_or old m []) [] (omega (arith, inside, length-map first (linked_from table (length table)))), row-is m inside)
      (chain-cons table (get_or first m None) visit (linked_from table (length table) (get_or first m None)) (are.chains m inside))

  row-other : (n : ℕ) → n < length first → (n ≡ m → ⊥) → AreLinked longer (get_or places n None) (get_or rows n [])
  row-other n within other =
      rw (get_or-set_other first m n (Some (length table)) None other, get_or-set_other old m n (visit ∷ get_or old m []) [] other, row-is n within)
      (chain-longer table _ (get_or first n None) (linked_from table (length table) (get_or first n None)) (are.chains n within))

  row-linked : (n : ℕ) → n < length first → AreLinked longer (get_or places n None) (get_or rows n [])
  row-linked n within = go (cases_eq n m)
    where
      go : (n ≡ m) ⊎ (n ≡ m → ⊥) → AreLinked longer (get_or places n None) (get_or rows n [])
      go (inl same) = subst (λ (x : ℕ). AreLinked longer (get_or places x None) (get_or rows x [])) (sym same) row-first
      go (inr other) = row-other n within other

  row-now : (n : ℕ) → n < length first → linked_from longer (length longer) (get_or places n None) ≡ get_or rows n []
  row-now n within =
      let linked = row-linked n within in
      chain-is longer (length longer) (get_or places n None) (get_or rows n []) linked (chain-below longer (get_or places n None) (get_or rows n []) linked)

  pub put-rows : rows_of longer places ≡ rows
  put-rows = ext_get_or [] (rows_of longer places) rows
      (length-map places (linked_from longer (length longer)) ∙ length-set first m (Some (length table))
      ∙ sym (length-set old m (visit ∷ get_or old m []) ∙ length-map first (linked_from table (length table))))
      λ n below.
      let among : n < length places = omega (arith, below, length-map places (linked_from longer (length longer))) in
      get_or-map (linked_from longer (length longer)) places n None [] among ∙ row-now n (omega (arith, among, length-set first m (Some (length table))))

  pub put-linked : AreAllLinked longer places
  put-linked = record {
    chains = λ n among.
        let within : n < length first = omega (arith, among, length-set first m (Some (length table))) in
        subst (λ (l : List LoggedVisit). AreLinked longer (get_or places n None) l) (sym (row-now n within)) (row-linked n within);
  }

-- the visits to machine m are linked from the place of the first one on
pub row-chain : (table : List LinkedVisit) (first : List (Option ℕ)) (rows : List (List LoggedVisit)) (m : ℕ) (next : Option ℕ) → AreAllLinked table first → rows_of table first ≡ rows
    → m < length first → next ≡ get_or first m None → AreLinked table next (get_or rows m [])
row-chain table first rows m next are is inside at =
    let same : linked_from table (length table) (get_or first m None) ≡ get_or rows m [] =
    sym (get_or-map (linked_from table (length table)) first m None [] inside) ∙ ap (λ (l : List (List LoggedVisit)). get_or l m []) is
    in rw at (subst (λ (l : List LoggedVisit). AreLinked table (get_or first m None) l) same (are.chains m inside))

-- a table without visits
module _ (n : ℕ) (first : List (Option ℕ)) (none : first ≡ replicate n None) where
  length-none : length first ≡ n
  length-none = rw none (length-replicate n None)

  pub none-rows : rows_of [] first ≡ machine_visits n []
  none-rows = ext_get_or [] (rows_of [] first) (machine_visits n [])
      (length-map first (linked_from [] 0) ∙ length-none ∙ sym (machine_visits-count n []))
      λ m within.
      let among : m < length first = omega (arith, within, length-map first (linked_from [] 0)) in
      get_or-map (linked_from [] 0) first m None [] among ∙ sym (machine_visits-at n m [] (omega (arith, among, length-none)))
