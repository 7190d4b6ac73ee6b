-- What a crash leaves of an append that was cut short.
use Rattle.std.proofs.Common.{◌≡◌, ℕ, zero, suc, ◌+◌, ◌≤◌, min, List, [], ◌∷◌, ◌++◌, length, take, sym, ap, ◌∙◌, arith}
use Rattle.std.proofs.Math.Seq.{take-append-add}
use Rattle.run_journal.specs.LogFiles.{zeros, IsLeft}

take-min-take : (m n : ℕ) (l : List ℕ) → take m (take n l) ≡ take (min m n) l
take-min-take zero n l = let on : min zero n ≡ zero = omega arith in sym (ap (λ (k : ℕ). take k l) on)
take-min-take (suc m) zero l = let on : min (suc m) zero ≡ zero = omega arith in sym (ap (λ (k : ℕ). take k l) on)
take-min-take (suc m) (suc n) [] = let on : min (suc m) (suc n) ≡ suc (min m n) = omega arith in let none : List ℕ = [] in sym (ap (λ (k : ℕ). take k none) on)
take-min-take (suc m) (suc n) (x ∷ l) = let on : min (suc m) (suc n) ≡ suc (min m n) = omega arith in ap (λ k. x ∷ k) (take-min-take m n l) ∙ sym (ap (λ (k : ℕ). take k (x ∷ l)) on)

-- the first bytes of what is appended, cut anywhere behind the file
pub part_left : (file bytes all left : List ℕ) (n least : ℕ) → all ≡ file ++ take n bytes → length file ≤ least → IsLeft least all left → IsLeft (length file) (file ++ bytes) left
part_left file bytes all left n least is behind front = record {
  count = min front.count (length file + n);
  at_least = omega (arith, behind, front.at_least);
  unwritten = front.unwritten;
  is = front.is ∙ ap (λ l. l ++ zeros front.unwritten) (ap (λ l. take front.count l) (is ∙ sym (take-append-add file bytes n)) ∙ take-min-take front.count (length file + n) (file ++ bytes));
}
