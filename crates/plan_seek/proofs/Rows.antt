-- Orders that grow by the visits of jobs in a row.
use Rattle.std.proofs.Common.{◌≡◌, ℕ, zero, suc, ◌+◌, ◌-◌, ◌<◌, ◌≤◌, List, [], ◌∷◌, ◌++◌, Vec, Global, Bool, true, false, cond, map, length, get_or, set, take, replicate, eqb, refl, sym, ap, ◌∙◌, subst, inl, inr, ◌⊎◌, arith}
use Rattle.std.specs.List.{range_with_len, count_by, flat_map}
use Rattle.std.proofs.lemmas.Bool.{cases_eq, eq-eqb, ne_eqb}
use Rattle.std.proofs.lemmas.List.{append-nil, append_assoc, get_or-map, get_or-set_same, get_or-set_other, length-map, length-set, map-append, map-set, replicate_more, ext_get_or}
use Rattle.std.proofs.lemmas.List.FromFn.{length-map-range_with_len, get_or-map-range_with_len, map-range_with_len_more}
use Rattle.std.proofs.lemmas.List.Sums.{count_by_more_yes, count_by_more_no}
use Rattle.std.proofs.lemmas.Grind.{flat_map-append}
use Rattle.std.proofs.Math.Seq.{take-length}
use Rattle.shop_base.specs.declared.shop.Step.{Step}
use Rattle.shop_base.specs.Shop.{JobShop, no_step, step_at}
use Rattle.shop_base.specs.Vectors.{lists_of}
use Rattle.plan_seek.specs.Orders.{visits_in, visits_of, visitors, orders_along}
use Rattle.plan_seek.specs.Growing.{IsGrown}

-- one number more
range_more : (a n j : ℕ) → a + n ≡ j → range_with_len a (n + 1) ≡ range_with_len a n ++ j ∷ []
range_more a zero j is = let same : a ≡ j = omega arith in ap (λ x. x ∷ []) same
range_more a (suc n) j is =
    let longer : suc n + 1 ≡ suc (n + 1) = omega arith in
    ap (range_with_len a) longer ∙ ap (λ xs. a ∷ xs) (range_more (a + 1) n j (omega arith))

-- nothing more
grown_none : (rows : List (List ℕ)) (more : ℕ → List ℕ) → ((m : ℕ) → more m ≡ []) → IsGrown rows rows more
grown_none rows more none = record { count = refl; rows = λ m inside. sym (ap (λ xs. get_or rows m [] ++ xs) (none m) ∙ append-nil (get_or rows m [])) }

-- more, and then still more
pub grown_then : (before between after : List (List ℕ)) (one other both : ℕ → List ℕ) → IsGrown before between one → IsGrown between after other
    → ((m : ℕ) → both m ≡ one m ++ other m) → IsGrown before after both
grown_then before between after one other both first then_more is = record {
  count = then_more.count ∙ first.count;
  rows = λ m inside. then_more.rows m (omega (arith, inside, first.count)) ∙ ap (λ xs. xs ++ other m) (first.rows m inside)
      ∙ append_assoc (get_or before m []) (one m) (other m) ∙ sym (ap (λ xs. get_or before m [] ++ xs) (is m));
}

-- the same, by another word for what is more
pub grown_same : (before after : List (List ℕ)) (one other : ℕ → List ℕ) → IsGrown before after one → ((m : ℕ) → other m ≡ one m) → IsGrown before after other
grown_same before after one other grown is = record { count = grown.count; rows = λ m inside. grown.rows m inside ∙ sym (ap (λ xs. get_or before m [] ++ xs) (is m)) }

pub length_lists : (rows : List (Vec ℕ Global)) → length (lists_of rows) ≡ length rows
length_lists rows = length-map rows (λ (r : Vec ℕ Global). r.items)

-- one job is put behind the order of a machine
put_behind : (rows : List (List ℕ)) (at j : ℕ) → at < length rows → IsGrown rows (set rows at (get_or rows at [] ++ j ∷ [])) (λ m. cond (eqb at m) (j ∷ []) [])
put_behind rows at j within = record {
  count = length-set rows at (get_or rows at [] ++ j ∷ []);
  rows = λ m inside. elim (cases_eq at m) [
    | inl same ↦ rw (eq-eqb at m same) (subst (λ n. get_or (set rows at (get_or rows at [] ++ j ∷ [])) n [] ≡ get_or rows n [] ++ j ∷ []) same
        (get_or-set_same rows at (get_or rows at [] ++ j ∷ []) [] within))
    | inr apart ↦ rw (ne_eqb at m apart) (get_or-set_other rows at m (get_or rows at [] ++ j ∷ []) [] (λ is. apart (sym is)) ∙ sym (append-nil (get_or rows m [])))
  ];
}

grown_push : (rows : List (Vec ℕ Global)) (at j : ℕ) (old new : Vec ℕ Global) → at < length rows → old ≡ get_or rows at old → new.items ≡ old.items ++ j ∷ []
    → IsGrown (lists_of rows) (lists_of (set rows at new)) (λ m. cond (eqb at m) (j ∷ []) [])
grown_push rows at j old new within read pushed =
    let before : old.items ≡ get_or (lists_of rows) at [] = ap (λ (r : Vec ℕ Global). r.items) read ∙ sym (get_or-map (λ (r : Vec ℕ Global). r.items) rows at old [] within) in
    let written : lists_of (set rows at new) ≡ set (lists_of rows) at (get_or (lists_of rows) at [] ++ j ∷ []) =
    map-set (λ (r : Vec ℕ Global). r.items) rows at new ∙ ap (set (lists_of rows) at) (pushed ∙ ap (λ xs. xs ++ j ∷ []) before) in
    subst (λ after. IsGrown (lists_of rows) after (λ m. cond (eqb at m) (j ∷ []) [])) (sym written) (put_behind (lists_of rows) at j (omega (arith, within, length_lists rows)))

-- the visits of the job in the first steps of its route
abbrev pub visits_to : List Step → ℕ → ℕ → ℕ → List ℕ
visits_to route j i m = replicate (visits_in (take i route) m) j

one_visit : (route : List Step) (j i m : ℕ) → i < length route → (b : Bool) → eqb (step_at route i).machine m ≡ b → visits_to route j (i + 1) m ≡ visits_to route j i m ++ cond b (j ∷ []) []
one_visit route j i m within true is =
    ap (λ n. replicate n j) (count_by_more_yes (λ (step : Step). eqb step.machine m) route i no_step within is) ∙ sym (replicate_more (visits_in (take i route) m) j)
one_visit route j i m within false is =
    ap (λ n. replicate n j) (count_by_more_no (λ (step : Step). eqb step.machine m) route i no_step within is) ∙ sym (append-nil (visits_to route j i m))

-- before the first step
pub route_none : (rows : List (List ℕ)) (route : List Step) (j : ℕ) → IsGrown rows rows (visits_to route j 0)
route_none rows route j = grown_none rows (visits_to route j 0) (λ m. refl)

-- one step more
pub route_more : (route : List Step) (start : List (List ℕ)) (rows : List (Vec ℕ Global)) (i j : ℕ) (old new : Vec ℕ Global) → i < length route → (step_at route i).machine < length rows
    → old ≡ get_or rows (step_at route i).machine old → new.items ≡ old.items ++ j ∷ []
    → IsGrown start (lists_of rows) (visits_to route j i) → IsGrown start (lists_of (set rows (step_at route i).machine new)) (visits_to route j (i + 1))
route_more route start rows i j old new within inside read pushed so_far =
    grown_then start (lists_of rows) (lists_of (set rows (step_at route i).machine new)) (visits_to route j i) (λ m. cond (eqb (step_at route i).machine m) (j ∷ []) []) (visits_to route j (i + 1))
    so_far (grown_push rows (step_at route i).machine j old new inside read pushed) (λ m. one_visit route j i m within (eqb (step_at route i).machine m) refl)

-- after the last step
pub route_whole : (route : List Step) (start after : List (List ℕ)) (i j : ℕ) → i ≡ length route → IsGrown start after (visits_to route j i)
    → IsGrown start after (λ m. replicate (visits_in route m) j)
route_whole route start after i j all so_far = subst (λ r. IsGrown start after (λ m. replicate (visits_in r m) j)) (ap (λ n. take n route) all ∙ take-length route) so_far

module _ (shop : JobShop) where
  visitors_more : (a j m : ℕ) → a ≤ j → visitors shop (range_with_len a (j + 1 - a)) m ≡ visitors shop (range_with_len a (j - a)) m ++ visits_of shop j m
  visitors_more a j m from =
      let longer : j + 1 - a ≡ (j - a) + 1 = omega arith in
      ap (λ n. visitors shop (range_with_len a n) m) longer
      ∙ ap (flat_map (λ i. visits_of shop i m)) (range_more a (j - a) j (omega arith))
      ∙ flat_map-append (λ i. visits_of shop i m) (range_with_len a (j - a)) (j ∷ [])
      ∙ ap (λ xs. visitors shop (range_with_len a (j - a)) m ++ xs) (append-nil (visits_of shop j m))

  -- before the first job
  pub row_none : (rows : List (List ℕ)) (a : ℕ) → IsGrown rows rows (visitors shop (range_with_len a (a - a)))
  row_none rows a = let none : a - a ≡ 0 = omega arith in grown_none rows (visitors shop (range_with_len a (a - a))) (λ m. ap (λ n. visitors shop (range_with_len a n) m) none)

  -- one job more
  pub row_more : (start before after : List (List ℕ)) (a j : ℕ) → a ≤ j → IsGrown before after (visits_of shop j)
      → IsGrown start before (visitors shop (range_with_len a (j - a))) → IsGrown start after (visitors shop (range_with_len a (j + 1 - a)))
  row_more start before after a j from grown so_far =
      grown_then start before after (visitors shop (range_with_len a (j - a))) (visits_of shop j) (visitors shop (range_with_len a (j + 1 - a))) so_far grown (λ m. visitors_more a j m from)

  -- after the last job
  pub row_whole : (start after : List (List ℕ)) (a b j : ℕ) → j ≡ b → IsGrown start after (visitors shop (range_with_len a (j - a)))
      → IsGrown start after (visitors shop (range_with_len a (b - a)))
  row_whole start after a b j same so_far = subst (λ n. IsGrown start after (visitors shop (range_with_len a (n - a)))) same so_far

  -- orders without jobs, to which those of a row are added in two parts
  pub orders_whole : (empty between after : List (List ℕ)) (one other : List ℕ) → empty ≡ orders_along shop [] → IsGrown empty between (visitors shop one) → IsGrown between after (visitors shop other)
      → after ≡ orders_along shop (one ++ other)
  orders_whole empty between after one other none first second =
      let size : length empty ≡ shop.machines = ap length none ∙ length-map-range_with_len (visitors shop []) 0 shop.machines in
      let both : IsGrown empty after (visitors shop (one ++ other)) = grown_then empty between after (visitors shop one) (visitors shop other) (visitors shop (one ++ other)) first second
      (λ m. flat_map-append (λ j. visits_of shop j m) one other) in
      ext_get_or [] after (orders_along shop (one ++ other)) (both.count ∙ size ∙ sym (length-map-range_with_len (visitors shop (one ++ other)) 0 shop.machines))
      (λ m within.
      let inside : m < shop.machines = omega (arith, within, both.count, size) in
      both.rows m (omega (arith, inside, size)) ∙ ap (λ rows. get_or rows m [] ++ visitors shop (one ++ other) m) none
      ∙ ap (λ xs. xs ++ visitors shop (one ++ other) m) (get_or-map-range_with_len (visitors shop []) 0 shop.machines m m [] inside (omega arith))
      ∙ sym (get_or-map-range_with_len (visitors shop (one ++ other)) 0 shop.machines m m [] inside (omega arith)))

-- one order without jobs more
pub empty_more : (shop : JobShop) (before after : List (Vec ℕ Global)) (x : Vec ℕ Global) (m : ℕ)
    → lists_of before ≡ map (visitors shop []) (range_with_len 0 m) → after ≡ before ++ x ∷ [] → x.items ≡ []
    → lists_of after ≡ map (visitors shop []) (range_with_len 0 (m + 1))
empty_more shop before after x m so_far added is =
    ap lists_of added ∙ map-append (λ (r : Vec ℕ Global). r.items) before (x ∷ []) ∙ ap (λ rows. rows ++ x.items ∷ []) so_far
    ∙ ap (λ row. map (visitors shop []) (range_with_len 0 m) ++ row ∷ []) is ∙ sym (map-range_with_len_more (visitors shop []) 0 m m (omega arith))
