-- Rows that are compared one after the other.
use Rattle.std.proofs.Common.{◌≡◌, ℕ, ◌+◌, ◌<◌, List, [], ◌∷◌, ◌++◌, length, take, get_or, Vec, Global, sym, refl, ap, ◌∙◌}
use Rattle.std.proofs.lemmas.List.{take_more, map_push, get_or-map}
use Rattle.shop_base.specs.Vectors.{lists_of}

abbrev Rows : Type 0
Rows = List (Vec ℕ Global)

-- one more row
rows_more : (rows : Rows) (i : ℕ) (row : Vec ℕ Global) → i < length rows → row ≡ get_or rows i row → lists_of (take (i + 1) rows) ≡ lists_of (take i rows) ++ row.items ∷ []
rows_more rows i row lt read = ap lists_of (take_more rows i row lt) ∙ (map_push (λ r. r.items) (take i rows) (get_or rows i row) ∙ ap (λ (r : Vec ℕ Global). lists_of (take i rows) ++ r.items ∷ []) (sym read))

pub same_more : (a b : Rows) (i : ℕ) (x y : Vec ℕ Global) → i < length a → i < length b → x ≡ get_or a i x → y ≡ get_or b i y → x.items ≡ y.items
    → lists_of (take i a) ≡ lists_of (take i b) → lists_of (take (i + 1) a) ≡ lists_of (take (i + 1) b)
same_more a b i x y la lb rx ry e so_far = rw (rows_more a i x la rx, rows_more b i y lb ry, e, so_far) refl

row_at : (rows : Rows) (i : ℕ) (row : Vec ℕ Global) → i < length rows → row ≡ get_or rows i row → get_or (lists_of rows) i [] ≡ row.items
row_at rows i row lt read = get_or-map (λ r. r.items) rows i row [] lt ∙ ap (λ (r : Vec ℕ Global). r.items) (sym read)

pub row_same : (a b : Rows) (i : ℕ) (x y : Vec ℕ Global) → i < length a → i < length b → x ≡ get_or a i x → y ≡ get_or b i y → lists_of a ≡ lists_of b → x.items ≡ y.items
row_same a b i x y la lb rx ry e = sym (row_at a i x la rx) ∙ (ap (λ (rows : List (List ℕ)). get_or rows i []) e ∙ row_at b i y lb ry)
