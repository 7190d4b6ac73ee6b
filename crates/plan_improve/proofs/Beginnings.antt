-- What is left of a run, and what is said where no plan is given.
use Rattle.std.proofs.Common.{◌≡◌, ℕ, ◌≤◌, arith, Result, Ok, Err, OnOk, List, [], ◌∷◌, sym, ◌+◌, ◌++◌, map, ap, ◌∙◌}
use Rattle.std.proofs.lemmas.List.FromFn.{map-range_with_len_more}
use Rattle.plan_improve.proofs.Common.{range_with_len}

pub few_rounds : {A E : Type 0} (r : Result A E) (rounds n : ℕ) → rounds ≤ n → OnOk r (rounds ≤ n)
few_rounds (Ok found) rounds n few = few
few_rounds (Err e) rounds n few = tt

-- what a run has left, one job or machine more
pub one_more : {A : Type 0} (f : ℕ → A) (n : ℕ) (now new : List A) (x : A) → now ≡ map f (range_with_len 0 n) → new ≡ now ++ x ∷ [] → x ≡ f n → new ≡ map f (range_with_len 0 (n + 1))
one_more f n now new x before is same =
    is ∙ ap (λ l. l ++ x ∷ []) before ∙ ap (λ y. map f (range_with_len 0 n) ++ y ∷ []) same ∙ sym (map-range_with_len_more f 0 n n (omega arith))
