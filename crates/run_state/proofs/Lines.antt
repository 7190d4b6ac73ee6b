-- Lines that are written one after another.
use Rattle.std.proofs.Common.{◌≡◌, ℕ, ◌+◌, List, [], ◌∷◌, ◌++◌, sym, ap, ◌∙◌, arith}
use Rattle.std.specs.Prelude.{flat_map}
use Rattle.std.specs.List.{range_with_len}
use Rattle.std.proofs.lemmas.List.{map-id, flat_map_more}
use Rattle.std.proofs.lemmas.List.FromFn.{map-range_with_len_more}

range-more : (n : ℕ) → range_with_len 0 (n + 1) ≡ range_with_len 0 n ++ n ∷ []
range-more n =
    sym (map-id (range_with_len 0 (n + 1))) ∙ map-range_with_len_more (λ x. x) 0 n n (omega arith) ∙ ap (λ (l : List ℕ). l ++ n ∷ []) (map-id (range_with_len 0 n))

-- those of one more number
pub one_more : (lines : ℕ → List ℕ) (start now new : List ℕ) (n : ℕ) → now ≡ start ++ flat_map lines (range_with_len 0 n) → new ≡ now ++ lines n
    → new ≡ start ++ flat_map lines (range_with_len 0 (n + 1))
one_more lines start now new n so_far pushed =
    pushed
    ∙ ap (λ (l : List ℕ). l ++ lines n) so_far
    ∙ flat_map_more lines start (range_with_len 0 n) n
    ∙ ap (λ (l : List ℕ). start ++ flat_map lines l) (sym (range-more n))
