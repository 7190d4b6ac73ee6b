-- Copies of orders, and their fronts.
use Rattle.std.proofs.Common.{◌≡◌, ◌↔◌, ℕ, ◌+◌, ◌<◌, List, [], ◌∷◌, ◌++◌, length, get_or, take, Vec, Global, sym, ap, ◌∙◌, subst}
use Rattle.std.proofs.Math.Seq.{take-append_seam}
use Rattle.std.proofs.lemmas.List.{get_or-map, length-map, map_push, take_more}
use Rattle.shop_base.specs.{Cell.{Cell, entries}, Move.IsPrefix, Vectors.lists_of}

-- an order, as the list of orders is seen
pub list_at : (orders : List (Vec ℕ Global)) (item : Vec ℕ Global) (k : ℕ) → k < length orders → item ≡ get_or orders k item → get_or (lists_of orders) k [] ≡ item.items
list_at orders item k inside stands = let items : Vec ℕ Global → List ℕ = λ v. v.items in get_or-map items orders k item [] inside ∙ ap items (sym stands)

pub copied : (orders copy more : List (Vec ℕ Global)) (row item : Vec ℕ Global) (k : ℕ) → k < length orders → item ≡ get_or orders k item → more ≡ copy ++ row ∷ []
    → row.items ≡ item.items → lists_of copy ≡ take k (lists_of orders) → lists_of more ≡ take (k + 1) (lists_of orders)
copied orders copy more row item k inside stands is same known =
    let items : Vec ℕ Global → List ℕ = λ v. v.items in
    let at : get_or (lists_of orders) k [] ≡ row.items = list_at orders item k inside stands ∙ sym same in
    ap lists_of is ∙ map_push items copy row ∙ ap (λ front. front ++ row.items ∷ []) known
    ∙ sym (take_more (lists_of orders) k [] (subst (λ n. k < n) (sym (length-map orders items)) inside) ∙ ap (λ last. take k (lists_of orders) ++ last ∷ []) at)

-- whether the front of an order that has entered begins the new one, as the list of orders is seen
pub fronts : (c : Cell) (new : List (Vec ℕ Global)) (other : Vec ℕ Global) (xs news : List ℕ) (m n : ℕ) → m < length new → other ≡ get_or new m other → news ≡ other.items
    → n ≡ length (entries c m) → IsPrefix (entries c m) xs → IsPrefix (take n xs) news ↔ IsPrefix (entries c m) (get_or (lists_of new) m [])
fronts c new other xs news m n inside is same count (rest, whole) =
    subst (λ ys. IsPrefix ys news ↔ IsPrefix (entries c m) (get_or (lists_of new) m [])) (sym (ap (λ k. take k xs) count ∙ ap (take (length (entries c m))) whole ∙ take-append_seam (entries c m) rest))
    (subst (λ ys. IsPrefix (entries c m) news ↔ IsPrefix (entries c m) ys) (sym (list_at new other m inside is ∙ sym same)) (λ begins. begins, λ begins. begins))
