-- Sums over the rows of a vector of vectors, one row at a time.
use Rattle.std.proofs.Common.{◌≡◌, ℕ, ◌+◌, ◌<◌, ◌≤◌, List, [], length, get_or, take, sum_by, arith, ap, sym, ◌∙◌, Vec}
use Rattle.std.proofs.lemmas.List.{get_or-map, length-map}
use Rattle.std.proofs.lemmas.List.Sums.{sum_by_more, sum_by_more_le}
use Rattle.std.specs.declared.alloc.Global.{Global}
use Rattle.shop_base.specs.Vectors.{lists_of}

module _ {X : Type 0} (rows : List (Vec X Global)) (i : ℕ) (row : Vec X Global) (inside : i < length rows) (is : row ≡ get_or rows i row) where
  -- the i-th list is the i-th row's
  pub lists_of-at : get_or (lists_of rows) i [] ≡ row.items
  lists_of-at = get_or-map (λ r. r.items) rows i row [] inside ∙ sym (ap (λ (r : Vec X Global). r.items) is)

  -- a sum with one more row
  pub sum_by-lists_more : (f : List X → ℕ) → sum_by f (take (i + 1) (lists_of rows)) ≡ sum_by f (take i (lists_of rows)) + f row.items
  sum_by-lists_more f =
      let within : i < length (lists_of rows) = omega (arith, length-map rows (λ (r : Vec X Global). r.items)) in
      sum_by_more f (lists_of rows) i [] within ∙ ap (λ n. sum_by f (take i (lists_of rows)) + n) (ap f lists_of-at)

  -- the sum so far and one more row are within the whole sum
  pub sum_by-lists_more_le : (f : List X → ℕ) → sum_by f (take i (lists_of rows)) + f row.items ≤ sum_by f (lists_of rows)
  sum_by-lists_more_le f =
      let within : i < length (lists_of rows) = omega (arith, length-map rows (λ (r : Vec X Global). r.items)) in
      omega (arith, sum_by_more_le f (lists_of rows) i [] within, ap f lists_of-at)
