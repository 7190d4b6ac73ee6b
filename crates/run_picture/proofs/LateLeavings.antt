-- The late leavings of the first jobs.
use Rattle.std.proofs.Common.{◌≡◌, ℕ, ◌+◌, List, [], ◌∷◌, ◌++◌, Option, None, slice_index_or, map, sym, ap, ◌∙◌, arith}
use Rattle.std.specs.List.{range_with_len}
use Rattle.std.proofs.lemmas.List.FromFn.{map-range_with_len_more}
use Rattle.shop_base.specs.Plan.{PlannedShop}
use Rattle.run_picture.specs.declared.late_leaving.LateLeaving.{LateLeaving}
use Rattle.run_picture.specs.Late.{late_leaving}

-- that of one more job
pub one_more : (p : PlannedShop) (leavings : List (Option ℕ)) (now new : List (Option LateLeaving)) (j : ℕ) (one : Option LateLeaving)
    → now ≡ map (λ i. late_leaving p i (slice_index_or leavings i None)) (range_with_len 0 j) → one ≡ late_leaving p j (slice_index_or leavings j None) → new ≡ now ++ one ∷ []
    → new ≡ map (λ i. late_leaving p i (slice_index_or leavings i None)) (range_with_len 0 (j + 1))
one_more p leavings now new j one so_far is pushed =
    let of : ℕ → Option LateLeaving = λ i. late_leaving p i (slice_index_or leavings i None) in
    pushed
    ∙ ap (λ (l : List (Option LateLeaving)). l ++ one ∷ []) so_far
    ∙ ap (λ (x : Option LateLeaving). map of (range_with_len 0 j) ++ x ∷ []) is
    ∙ sym (map-range_with_len_more of 0 j j (omega arith))
