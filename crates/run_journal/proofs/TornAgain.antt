-- What is left of a file with a torn end has a torn end again.
use Rattle.std.proofs.lemmas.{List.nil_from_length, Bool.{and_parts, cases_Bool, eqb-true}}
use Rattle.std.proofs.Math.Seq.{drop-append_seam, take-nil, take-append-add}
use Rattle.std.proofs.Common.{◌≡◌, ℕ, zero, suc, ◌+◌, ◌-◌, ◌≤◌, ◌==◌, ◌&&◌, true, List, [], ◌∷◌, ◌++◌, length, take, drop, inl, inr, refl, sym, ap, ◌∙◌, arith, append_assoc, take-append-drop}
use Rattle.run_journal.specs.{LogFiles.{zeros, IsLeft}, WholeLines.{whole_lines, torn_end}}
use Rattle.run_journal.specs.TornEnds.{without_zeros, is_torn}
use Rattle.run_journal.proofs.{Whole.{left_whole, take_whole}, TornEnds.torn_of}

-- ---- zeros at the end

-- bytes are those without the zeros at their end, and zeros
split : (bytes : List ℕ) → (n : ℕ) × (bytes ≡ without_zeros bytes ++ zeros n)
split [] = (0, refl)
split (byte ∷ bytes) =
    let inner = split bytes in
    elim (cases_Bool (byte == 0 && length (without_zeros bytes) == 0)) [
      | inl none ↦
          let (is_zero, is_none) = and_parts (byte == 0) (length (without_zeros bytes) == 0) none in
          let rest : bytes ≡ zeros inner.0 = inner.1 ∙ ap (λ (l : List ℕ). l ++ zeros inner.0) (nil_from_length (without_zeros bytes) (eqb-true (length (without_zeros bytes)) 0 is_none)) in
          (suc inner.0, rw none (ap (λ (b : ℕ). b ∷ bytes) (eqb-true byte 0 is_zero) ∙ ap (λ (l : List ℕ). 0 ∷ l) rest))
      | inr some ↦ (inner.0, rw some (ap (λ (l : List ℕ). byte ∷ l) inner.1))
    ]

-- the first of zeros, and zeros, are zeros
zeros_alone : (count n m : ℕ) → (k : ℕ) × (take count (zeros n) ++ zeros m ≡ zeros k)
zeros_alone zero n m = (m, refl)
zeros_alone (suc count) zero m = (m, refl)
zeros_alone (suc count) (suc n) m = (let inner = zeros_alone count n m in (suc inner.0, ap (λ (l : List ℕ). 0 ∷ l) inner.1))

-- so the first of bytes with zeros behind them, and zeros, are the first of those bytes, and zeros
front : (bytes : List ℕ) (count n m : ℕ) → (k : ℕ) × (take count (bytes ++ zeros n) ++ zeros m ≡ take count bytes ++ zeros k)
front [] count n m = (let inner = zeros_alone count n m in (inner.0, inner.1 ∙ sym (ap (λ (l : List ℕ). l ++ zeros inner.0) (take-nil count))))
front (byte ∷ bytes) zero n m = (m, refl)
front (byte ∷ bytes) (suc count) n m = (let inner = front bytes count n m in (inner.0, ap (λ (l : List ℕ). byte ∷ l) inner.1))

-- ---- the end

pub torn_again : (file left : List ℕ) (least : ℕ) → length (whole_lines file) ≤ least → IsLeft least file left → is_torn (torn_end file) ≡ true → is_torn (torn_end left) ≡ true
torn_again file left least within is torn =
    let whole = whole_lines file in
    let end = torn_end file in
    let more = is.count - length whole in
    let parts : file ≡ whole ++ end = sym (take-append-drop (length whole) file) ∙ ap (λ (l : List ℕ). l ++ end) (take_whole file) in
    let count : is.count ≡ length whole + more = omega (arith, within, is.at_least) in
    let cut : take is.count file ≡ whole ++ take more end = ap (λ (l : List ℕ). take is.count l) parts ∙ ap (λ (k : ℕ). take k (whole ++ end)) count ∙ take-append-add whole end more in
    let all : left ≡ whole ++ (take more end ++ zeros is.unwritten) = is.is ∙ ap (λ (l : List ℕ). l ++ zeros is.unwritten) cut ∙ append_assoc whole (take more end) (zeros is.unwritten) in
    let behind : torn_end left ≡ take more end ++ zeros is.unwritten =
    ap (λ (l : List ℕ). drop (length l) left) (left_whole file left least within is) ∙ ap (λ (l : List ℕ). drop (length whole) l) all ∙ drop-append_seam whole (take more end ++ zeros is.unwritten) in
    let parted = split end in
    let fewer = front (without_zeros end) more parted.0 is.unwritten in
    ap is_torn (behind ∙ ap (λ (l : List ℕ). take more l ++ zeros is.unwritten) parted.1 ∙ fewer.1) ∙ torn_of (without_zeros end) more fewer.0 torn
