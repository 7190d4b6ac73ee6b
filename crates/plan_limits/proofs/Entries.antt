-- Entries of machines by number, row by row.
use Rattle.std.proofs.Common.{◌≡◌, ◌≢◌, ℕ, ◌+◌, ◌<◌, ◌⊎◌, inl, inr, List, [], ◌∷◌, ◌++◌, length, get_or, set, Vec, Global, arith, sym, ap, ◌∙◌, subst}
use Rattle.std.proofs.lemmas.Bool.{cases_eq, cases_order}
use Rattle.std.proofs.lemmas.List.{get_or-map, get_or-set_same, get_or-set_other, map-set, map-append, length-map, length-set, length_push, get_or_append_left, get_or_past, get_or_push}
use Rattle.shop_base.specs.declared.node.Node.{Node}
use Rattle.shop_base.specs.Vectors.{lists_of}
use Rattle.plan_bounds.specs.Bounds.{ShopTimes}
use Rattle.plan_limits.specs.Asked.{AreEmpty, IsEntry, AreEntries}
use Rattle.plan_limits.proofs.Numbered.{pushed}

-- a row of rows, as a list
abbrev pub row_of : List (Vec ℕ Global) → ℕ → List ℕ
row_of rows m = get_or (lists_of rows) m []

-- the items of the vector that stands there
pub row_at : (rows : List (Vec ℕ Global)) (m : ℕ) (row : Vec ℕ Global) → m < length rows → row ≡ get_or rows m row → row.items ≡ row_of rows m
row_at rows m row within is = ap (λ (r : Vec ℕ Global). r.items) is ∙ sym (get_or-map (λ (r : Vec ℕ Global). r.items) rows m row [] within)

module _ (t : ShopTimes) (nodes : List Node) where
  -- a row has entries of machine m below n
  abbrev IsRow : ℕ → ℕ → List ℕ → Type 0
  IsRow m n row = (i : ℕ) → i < length row → IsEntry t nodes m n (get_or row i 0)

  later : (m n e : ℕ) → IsEntry t nodes m n e → IsEntry t nodes m (n + 1) e
  later m n e entry = record { inside = entry.inside; earlier = omega (arith, entry.earlier); visit = entry.visit }

  pub entries_on : (n : ℕ) (rows : List (Vec ℕ Global)) → AreEntries t nodes n rows → AreEntries t nodes (n + 1) rows
  entries_on n rows are = record { count = are.count; rows = λ m i lower. later m n _ (are.rows m i lower) }

  pub entries_none : (rows : List (Vec ℕ Global)) → length rows ≡ t.shop.machines → AreEmpty rows → AreEntries t nodes 0 rows
  entries_none rows count none = record { count = count; rows = λ m i lower. absurd (omega (arith, lower, ap length (none m))) }

  -- what is in a row is an entry
  pub entry_at : (m n i : ℕ) (rows : List (Vec ℕ Global)) (row : List ℕ) → AreEntries t nodes n rows → row ≡ row_of rows m → i < length row → IsEntry t nodes m n (get_or row i 0)
  entry_at m n i rows row are is within = subst (IsRow m n) (sym is) (are.rows m) i within

  -- number n is an entry of machine m, and noted
  pub entries_push : (n m : ℕ) (rows : List (Vec ℕ Global)) (row : Vec ℕ Global) → AreEntries t nodes n rows → m < length rows → row.items ≡ row_of rows m ++ n ∷ []
      → IsEntry t nodes m (n + 1) n → AreEntries t nodes (n + 1) (set rows m row)
  entries_push n m rows row are within items here = record {
    count = length-set rows m row ∙ are.count;
    rows = λ l. go l (cases_eq l m);
  }
    where
      changed : lists_of (set rows m row) ≡ set (lists_of rows) m row.items
      changed = map-set (λ (r : Vec ℕ Global). r.items) rows m row

      inside : m < length (lists_of rows)
      inside = omega (arith, within, length-map rows (λ (r : Vec ℕ Global). r.items))

      all : IsRow m (n + 1) (row_of rows m ++ n ∷ [])
      all = pushed (λ i e. IsEntry t nodes m (n + 1) e) (row_of rows m) n 0 (λ i lower. later m n _ (are.rows m i lower)) here

      go : (l : ℕ) → (l ≡ m) ⊎ (l ≢ m) → IsRow l (n + 1) (row_of (set rows m row) l)
      go l (inl same) =
          let is : row_of (set rows m row) m ≡ row_of rows m ++ n ∷ [] = ap (λ (rs : List (List ℕ)). get_or rs m []) changed ∙ get_or-set_same (lists_of rows) m row.items [] inside ∙ items in
          subst (λ (x : ℕ). IsRow x (n + 1) (row_of (set rows m row) x)) (sym same) (subst (IsRow m (n + 1)) (sym is) all)
      go l (inr other) =
          let is : row_of (set rows m row) l ≡ row_of rows l = ap (λ (rs : List (List ℕ)). get_or rs l []) changed ∙ get_or-set_other (lists_of rows) m l row.items [] other in
          subst (IsRow l (n + 1)) (sym is) (λ i lower. later l n _ (are.rows l i lower))

-- one more empty row
pub empty_push : (rows : List (Vec ℕ Global)) (row : Vec ℕ Global) → AreEmpty rows → row.items ≡ [] → AreEmpty (rows ++ row ∷ [])
empty_push rows row before none m = ap (λ (rs : List (List ℕ)). get_or rs m []) (map-append (λ (r : Vec ℕ Global). r.items) rows (row ∷ [])) ∙ go (cases_order m (length (lists_of rows)))
  where
    go : (m ≡ length (lists_of rows)) ⊎ ((m < length (lists_of rows)) ⊎ (length (lists_of rows) < m)) → get_or (lists_of rows ++ row.items ∷ []) m [] ≡ []
    go (inl same) = get_or_push (lists_of rows) row.items [] m (sym same) ∙ none
    go (inr (inl less)) = get_or_append_left (lists_of rows) (row.items ∷ []) [] m less ∙ before m
    go (inr (inr more)) = get_or_past (lists_of rows ++ row.items ∷ []) m [] (omega (arith, more, length_push (lists_of rows) row.items))
