-- Lists in order, with one more at their end.
use Rattle.std.proofs.Common.{List, [], ◌∷◌, ◌++◌, length, All, AllPairs, arith, sym, inl, inr}
use Rattle.std.proofs.lemmas.Bool.{cases_eq}
use Rattle.std.proofs.lemmas.List.{get_or_append_left, get_or_push, length_push}

pub pairs_push : {X : Type 0} (R : X → X → Type 0) (xs : List X) (x : X) → AllPairs R xs → All (λ y. R y x) xs → AllPairs R (xs ++ x ∷ [])
pairs_push R xs x pairs all a b d before inside =
    let long = length_push xs x in
    elim (cases_eq b (length xs)) [
      | inl last ↦ rw (get_or_append_left xs (x ∷ []) d a (omega (arith, before, last)), get_or_push xs x d b (sym last)) (all a d (omega (arith, before, last)))
      | inr other ↦ rw (get_or_append_left xs (x ∷ []) d a (omega (arith, before, inside, long, other)), get_or_append_left xs (x ∷ []) d b (omega (arith, inside, long, other)))
          (pairs a b d before (omega (arith, inside, long, other)))
    ]
