-- What a line begins with, once more of it has come.
use Rattle.std.proofs.Common.{◌≡◌, ℕ, ◌≤◌, Bool, true, false, ◌&&◌, ◌||◌, nat_eq, List, [], ◌∷◌, ◌++◌, length, take}
use Rattle.std.proofs.{Common.{codes, refl, ap, ◌∙◌, arith}, lemmas.List.{take-append-le, length-take}}
use Rattle.std.specs.{List.starts_with, Cmp.Lexicographic.pointwise}
use Rattle.run_journal.specs.LoggedLines.{is_logged}

same_start : (line more word : List ℕ) → length word ≤ length line → starts_with nat_eq (line ++ more) word ≡ starts_with nat_eq line word
same_start line more word within = ap (λ l. pointwise nat_eq word l) (take-append-le (length word) line more within)

as_long : (word xs : List ℕ) → pointwise nat_eq word xs ≡ true → length word ≤ length xs
as_long [] xs is = omega arith
as_long (w ∷ word) [] is = absurd (cc is)
as_long (w ∷ word) (x ∷ xs) is = omega (arith, as_long word xs (second (nat_eq w x) (pointwise nat_eq word xs) is))
  where
    second : (a b : Bool) → a && b ≡ true → b ≡ true
    second true b is = is
    second false b is = absurd (cc is)

long_enough : (line word : List ℕ) → starts_with nat_eq line word ≡ true → length word ≤ length line
long_enough line word is = omega (arith, as_long word (take (length word) line) is, length-take (length word) line)

stays : (line more word : List ℕ) → starts_with nat_eq line word ≡ true → starts_with nat_eq (line ++ more) word ≡ true
stays line more word is = same_start line more word (long_enough line word is) ∙ is

pub any-kept : (a b a' b' : Bool) → (a ≡ true → a' ≡ true) → (b ≡ true → b' ≡ true) → (a || b) ≡ true → (a' || b') ≡ true
any-kept true b a' b' first rest is = ap (λ x. x || b') (first refl)
any-kept false b true b' first rest is = refl
any-kept false b false b' first rest is = rest is

-- a line that a log gets stays one
pub logged-stays : (line more : List ℕ) → is_logged line ≡ true → is_logged (line ++ more) ≡ true
logged-stays line more is =
    any-kept _ _ _ _ (any-kept _ _ _ _ (any-kept _ _ _ _ (stays line more (codes "report ")) (stays line more (codes "order "))) (stays line more (codes "late "))) (stays line more (10 ∷ [])) is

-- seven bytes decide
pub logged-decided : (line more : List ℕ) → 7 ≤ length line → is_logged (line ++ more) ≡ is_logged line
logged-decided line more long =
    let r = same_start line more (codes "report ") (omega (arith, long)) in
    let o = same_start line more (codes "order ") (omega (arith, long)) in
    let l = same_start line more (codes "late ") (omega (arith, long)) in
    let n = same_start line more (10 ∷ []) (omega (arith, long)) in
    four r o l n
  where
    four : {a b c d a' b' c' d' : Bool} → a' ≡ a → b' ≡ b → c' ≡ c → d' ≡ d → (a' || b' || c' || d') ≡ (a || b || c || d)
    four {a} {b} {c} {d} {a'} {b'} {c'} {d'} e f g h =
        ap (λ x. x || b' || c' || d') e ∙ ap (λ x. a || x || c' || d') f ∙ ap (λ x. a || b || x || d') g ∙ ap (λ x. a || b || c || x) h
