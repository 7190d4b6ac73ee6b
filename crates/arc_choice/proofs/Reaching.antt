-- Rows of bits, and what a write to a word of them says.
use Rattle.std.proofs.Common.{◌≡◌, ◌≢◌, ℕ, ◌+◌, ◌*◌, ◌/◌, ◌%◌, ◌<◌, ◌≤◌, ◌↔◌, ◌⊎◌, inl, inr, max, length, get_or, set, arith, sym, ap, ◌∙◌, subst, get_or-set_same, get_or-set_other}
use Rattle.std.specs.Int.{bit_at}
use Rattle.std.specs.Int.RustNames.{bit_or}
use Rattle.std.proofs.lemmas.Bool.{cases_eq}
use Rattle.std.proofs.lemmas.Nat.{mul-add-lt, div-mul-add, mod-mul-add, div_below, div-add-mod'}
use Rattle.std.proofs.lemmas.Nat.Bits.{bit_at_or, bit_at-lt}
use Rattle.arc_choice.specs.Reach.{Order, IsSized, HasBit, Says, Joins, ConnectsOne, Connects, Rises}

place_inside : (o : Order) (a x : ℕ) → IsSized o → a < o.nodes → x < o.words → a * o.words + x < length o.bits
place_inside o a x sized inside within = omega (arith, sized.rows, mul-add-lt a o.words x o.nodes inside within)

pub word_inside : (o : Order) (b : ℕ) → IsSized o → b < o.nodes → b / 64 < o.words
word_inside o b sized inside = div_below b 64 o.words (omega arith) (omega (arith, sized.wide))

same_row : (k a s y x : ℕ) → s < k → x < k → a * k + s ≡ y * k + x → a ≡ y
same_row k a s y x one other same = sym (div-mul-add a k s one) ∙ ap (λ (n : ℕ). n / k) same ∙ div-mul-add y k x other

same_word : (k a s y x : ℕ) → s < k → x < k → a * k + s ≡ y * k + x → s ≡ x
same_word k a s y x one other same = sym (mod-mul-add a k s one) ∙ ap (λ (n : ℕ). n % k) same ∙ mod-mul-add y k x other

either : (a b : ℕ) → max a b ≡ 1 → (a ≡ 1) ⊎ (b ≡ 1)
either a b is = elim (cases_eq a 1) [
  | inl same ↦ inl same
  | inr other ↦ inr (omega (arith, is, other))
]

-- the order with another word at a place
abbrev pub with_word : Order → ℕ → ℕ → Order
with_word o i word = record { nodes = o.nodes; words = o.words; bits = set o.bits i word }

-- whether it is the word that was written
is_there : (a y s x : ℕ) → ((a ≡ y) × (s ≡ x)) ⊎ ((a ≡ y) × (s ≡ x) → ⊥)
is_there a y s x = elim (cases_eq a y) [
  | inl row ↦ elim (cases_eq s x) [
    | inl col ↦ inl (row, col)
    | inr other ↦ inr (λ both. other both.1)
  ]
  | inr other ↦ inr (λ both. other both.0)
]

-- a word of a row is written: what its bits and all others are then
module _ (o : Order) (sized : IsSized o) (y x word : ℕ) (in_y : y < o.nodes) (in_x : x < o.words) where
  at_other : (a b : ℕ) → ((a ≡ y) × (b / 64 ≡ x) → ⊥) → b < o.nodes → get_or (set o.bits (y * o.words + x) word) (a * o.words + b / 64) 0 ≡ get_or o.bits (a * o.words + b / 64) 0
  at_other a b apart in_b = get_or-set_other o.bits (y * o.words + x) (a * o.words + b / 64) word 0
      (λ same. let within = word_inside o b sized in_b in apart (same_row o.words a (b / 64) y x within in_x same, same_word o.words a (b / 64) y x within in_x same))

  at_same : (a b : ℕ) → a ≡ y → b / 64 ≡ x → get_or (set o.bits (y * o.words + x) word) (a * o.words + b / 64) 0 ≡ word
  at_same a b row col = ap (λ (n : ℕ). get_or (set o.bits (y * o.words + x) word) n 0) (let same : a * o.words + b / 64 ≡ y * o.words + x = ap (λ (n : ℕ). n * o.words + b / 64) row ∙ ap (λ (n : ℕ). y * o.words + n) col in same)
      ∙ get_or-set_same o.bits (y * o.words + x) word 0 (place_inside o y x sized in_y in_x)

  -- if a relation says the same as the word there, and as the other words elsewhere, it says what the bits say
  pub written : (T : ℕ → ℕ → Type 0) → ((a b : ℕ) → a < o.nodes → b < o.nodes → a ≡ y → b / 64 ≡ x → (bit_at word (b % 64) ≡ 1) ↔ T a b)
      → ((a b : ℕ) → a < o.nodes → b < o.nodes → ((a ≡ y) × (b / 64 ≡ x) → ⊥) → HasBit o a b ↔ T a b)
      → (a b : ℕ) → a < o.nodes → b < o.nodes → HasBit (with_word o (y * o.words + x) word) a b ↔ T a b
  written T inside outside a b in_a in_b = go (is_there a y (b / 64) x)
    where
      go : ((a ≡ y) × (b / 64 ≡ x)) ⊎ ((a ≡ y) × (b / 64 ≡ x) → ⊥) → HasBit (with_word o (y * o.words + x) word) a b ↔ T a b
      go (inl (row, col)) = subst (λ (n : ℕ). (bit_at n (b % 64) ≡ 1) ↔ T a b) (sym (at_same a b row col)) (inside a b in_a in_b row col)
      go (inr apart) = subst (λ (n : ℕ). (bit_at n (b % 64) ≡ 1) ↔ T a b) (sym (at_other a b apart in_b)) (outside a b in_a in_b apart)

-- of two words joined
joined_bit : (p q i : ℕ) → (bit_at (bit_or p q) i ≡ 1) ↔ ((bit_at p i ≡ 1) ⊎ (bit_at q i ≡ 1))
joined_bit p q i = (λ is. either (bit_at p i) (bit_at q i) (sym (bit_at_or p q i) ∙ is), λ one. back one)
  where
    back : (bit_at p i ≡ 1) ⊎ (bit_at q i ≡ 1) → bit_at (bit_or p q) i ≡ 1
    back (inl is) = omega (arith, bit_at_or p q i, is, bit_at-lt q i)
    back (inr is) = omega (arith, bit_at_or p q i, is, bit_at-lt p i)

module _ (o : Order) (sized : IsSized o) where
  -- a word of one row joined to that of another
  pub joined : (y z x : ℕ) → y < o.nodes → z < o.nodes → x < o.words → (a b : ℕ) → a < o.nodes → b < o.nodes
      → HasBit (with_word o (y * o.words + x) (bit_or (get_or o.bits (y * o.words + x) 0) (get_or o.bits (z * o.words + x) 0))) a b
      ↔ (HasBit o a b ⊎ ((a ≡ y) × (b / 64 ≡ x) × HasBit o z b))
  joined y z x in_y in_z in_x = written o sized y x _ in_y in_x (λ a b. HasBit o a b ⊎ ((a ≡ y) × (b / 64 ≡ x) × HasBit o z b)) inside outside
    where
      inside : (a b : ℕ) → a < o.nodes → b < o.nodes → a ≡ y → b / 64 ≡ x
          → (bit_at (bit_or (get_or o.bits (y * o.words + x) 0) (get_or o.bits (z * o.words + x) 0)) (b % 64) ≡ 1) ↔ (HasBit o a b ⊎ ((a ≡ y) × (b / 64 ≡ x) × HasBit o z b))
      inside a b in_a in_b row col = (λ has. there (bits.0 has), λ some. bits.1 (back some))
        where
          bits : (bit_at (bit_or (get_or o.bits (y * o.words + x) 0) (get_or o.bits (z * o.words + x) 0)) (b % 64) ≡ 1)
              ↔ ((bit_at (get_or o.bits (y * o.words + x) 0) (b % 64) ≡ 1) ⊎ (bit_at (get_or o.bits (z * o.words + x) 0) (b % 64) ≡ 1))
          bits = joined_bit (get_or o.bits (y * o.words + x) 0) (get_or o.bits (z * o.words + x) 0) (b % 64)

          mine : get_or o.bits (a * o.words + b / 64) 0 ≡ get_or o.bits (y * o.words + x) 0
          mine = cc

          theirs : get_or o.bits (z * o.words + b / 64) 0 ≡ get_or o.bits (z * o.words + x) 0
          theirs = cc

          there : (bit_at (get_or o.bits (y * o.words + x) 0) (b % 64) ≡ 1) ⊎ (bit_at (get_or o.bits (z * o.words + x) 0) (b % 64) ≡ 1) → HasBit o a b ⊎ ((a ≡ y) × (b / 64 ≡ x) × HasBit o z b)
          there (inl has) = inl (subst (λ (n : ℕ). bit_at n (b % 64) ≡ 1) (sym mine) has)
          there (inr has) = inr (row, col, subst (λ (n : ℕ). bit_at n (b % 64) ≡ 1) (sym theirs) has)

          back : HasBit o a b ⊎ ((a ≡ y) × (b / 64 ≡ x) × HasBit o z b) → (bit_at (get_or o.bits (y * o.words + x) 0) (b % 64) ≡ 1) ⊎ (bit_at (get_or o.bits (z * o.words + x) 0) (b % 64) ≡ 1)
          back (inl has) = inl (subst (λ (n : ℕ). bit_at n (b % 64) ≡ 1) mine has)
          back (inr (r, k, has)) = inr (subst (λ (n : ℕ). bit_at n (b % 64) ≡ 1) theirs has)

      outside : (a b : ℕ) → a < o.nodes → b < o.nodes → ((a ≡ y) × (b / 64 ≡ x) → ⊥) → HasBit o a b ↔ (HasBit o a b ⊎ ((a ≡ y) × (b / 64 ≡ x) × HasBit o z b))
      outside a b in_a in_b apart = (λ has. inl has, λ some. back some)
        where
          back : HasBit o a b ⊎ ((a ≡ y) × (b / 64 ≡ x) × HasBit o z b) → HasBit o a b
          back (inl has) = has
          back (inr (row, col, has)) = absurd (apart (row, col))

  -- a node's own bit
  pub owned : (v word : ℕ) → v < o.nodes → bit_at word (v % 64) ≡ 1 → ((i : ℕ) → i ≢ v % 64 → bit_at word i ≡ bit_at (get_or o.bits (v * o.words + v / 64) 0) i)
      → (a b : ℕ) → a < o.nodes → b < o.nodes → HasBit (with_word o (v * o.words + v / 64) word) a b ↔ (HasBit o a b ⊎ ((a ≡ v) × (b ≡ v)))
  owned v word in_v own others = written o sized v (v / 64) word in_v (word_inside o v sized in_v) (λ a b. HasBit o a b ⊎ ((a ≡ v) × (b ≡ v))) inside outside
    where
      same_node : (b : ℕ) → b / 64 ≡ v / 64 → b % 64 ≡ v % 64 → b ≡ v
      same_node b col bit = omega (arith, col, bit, div-add-mod' b 64, div-add-mod' v 64)

      inside : (a b : ℕ) → a < o.nodes → b < o.nodes → a ≡ v → b / 64 ≡ v / 64 → (bit_at word (b % 64) ≡ 1) ↔ (HasBit o a b ⊎ ((a ≡ v) × (b ≡ v)))
      inside a b in_a in_b row col = (λ has. there has (cases_eq (b % 64) (v % 64)), λ some. back some (cases_eq (b % 64) (v % 64)))
        where
          mine : get_or o.bits (a * o.words + b / 64) 0 ≡ get_or o.bits (v * o.words + v / 64) 0
          mine = cc

          there : bit_at word (b % 64) ≡ 1 → (b % 64 ≡ v % 64) ⊎ (b % 64 ≢ v % 64) → HasBit o a b ⊎ ((a ≡ v) × (b ≡ v))
          there has (inl bit) = inr (row, same_node b col bit)
          there has (inr other) = inl (subst (λ (n : ℕ). bit_at n (b % 64) ≡ 1) (sym mine) (sym (others (b % 64) other) ∙ has))

          back : HasBit o a b ⊎ ((a ≡ v) × (b ≡ v)) → (b % 64 ≡ v % 64) ⊎ (b % 64 ≢ v % 64) → bit_at word (b % 64) ≡ 1
          back some (inl bit) = subst (λ (i : ℕ). bit_at word i ≡ 1) (sym bit) own
          back (inl has) (inr other) = others (b % 64) other ∙ subst (λ (n : ℕ). bit_at n (b % 64) ≡ 1) mine has
          back (inr (r, same)) (inr other) = absurd (other (ap (λ (n : ℕ). n % 64) same))

      outside : (a b : ℕ) → a < o.nodes → b < o.nodes → ((a ≡ v) × (b / 64 ≡ v / 64) → ⊥) → HasBit o a b ↔ (HasBit o a b ⊎ ((a ≡ v) × (b ≡ v)))
      outside a b in_a in_b apart = (λ has. inl has, λ some. back some)
        where
          back : HasBit o a b ⊎ ((a ≡ v) × (b ≡ v)) → HasBit o a b
          back (inl has) = has
          back (inr (row, same)) = absurd (apart (row, ap (λ (n : ℕ). n / 64) same))

-- the same with names for what the code has read
module _ (o n : Order) (sized : IsSized o) (view : o ≡ n) where
  pub joined_at : (y z x here there p q : ℕ) → y < n.nodes → z < n.nodes → x < n.words → here ≡ y * n.words + x → there ≡ z * n.words + x → p ≡ get_or o.bits here 0 → q ≡ get_or o.bits there 0
      → (a b : ℕ) → a < n.nodes → b < n.nodes → HasBit (with_word o here (bit_or p q)) a b ↔ (HasBit n a b ⊎ ((a ≡ y) × (b / 64 ≡ x) × HasBit n z b))
  joined_at y z x here there p q in_y in_z in_x is_here is_there is_p is_q a b in_a in_b =
      let words : o.words ≡ n.words = ap (λ (m : Order). m.words) view in
      let nodes : o.nodes ≡ n.nodes = ap (λ (m : Order). m.nodes) view in
      let at_here : here ≡ y * o.words + x = is_here ∙ ap (λ (k : ℕ). y * k + x) (sym words) in
      let at_there : there ≡ z * o.words + x = is_there ∙ ap (λ (k : ℕ). z * k + x) (sym words) in
      let same : with_word o here (bit_or p q) ≡ with_word o (y * o.words + x) (bit_or (get_or o.bits (y * o.words + x) 0) (get_or o.bits (z * o.words + x) 0)) = cc in
      subst (λ (m : Order). HasBit (with_word o here (bit_or p q)) a b ↔ (HasBit m a b ⊎ ((a ≡ y) × (b / 64 ≡ x) × HasBit m z b))) view
      (subst (λ (m : Order). HasBit m a b ↔ (HasBit o a b ⊎ ((a ≡ y) × (b / 64 ≡ x) × HasBit o z b))) (sym same)
      (joined o sized y z x (omega (arith, nodes)) (omega (arith, nodes)) (omega (arith, words)) a b (omega (arith, nodes)) (omega (arith, nodes))))

  pub owned_at : (v here p word : ℕ) → v < n.nodes → here ≡ v * n.words + v / 64 → p ≡ get_or o.bits here 0 → bit_at word (v % 64) ≡ 1 → ((i : ℕ) → i ≢ v % 64 → bit_at word i ≡ bit_at p i)
      → (a b : ℕ) → a < n.nodes → b < n.nodes → HasBit (with_word o here word) a b ↔ (HasBit n a b ⊎ ((a ≡ v) × (b ≡ v)))
  owned_at v here p word in_v is_here is_p own others a b in_a in_b =
      let words : o.words ≡ n.words = ap (λ (m : Order). m.words) view in
      let nodes : o.nodes ≡ n.nodes = ap (λ (m : Order). m.nodes) view in
      let at_here : here ≡ v * o.words + v / 64 = is_here ∙ ap (λ (k : ℕ). v * k + v / 64) (sym words) in
      let read : p ≡ get_or o.bits (v * o.words + v / 64) 0 = is_p ∙ ap (λ (i : ℕ). get_or o.bits i 0) at_here in
      subst (λ (m : Order). HasBit (with_word o here word) a b ↔ (HasBit m a b ⊎ ((a ≡ v) × (b ≡ v)))) view
      (subst (λ (i : ℕ). HasBit (with_word o i word) a b ↔ (HasBit o a b ⊎ ((a ≡ v) × (b ≡ v)))) (sym at_here)
      (owned o sized v word (omega (arith, nodes)) own (λ i other. others i other ∙ ap (λ (k : ℕ). bit_at k i) read) a b (omega (arith, nodes)) (omega (arith, nodes))))

-- ---- relations that grow step by step

-- one word more of a row
pub word_more : (k from to x : ℕ) (R S T : ℕ → ℕ → Type 0) → to < k
    → ((a b : ℕ) → a < k → b < k → S a b ↔ (R a b ⊎ ((a ≡ from) × (b / 64 < x) × R to b)))
    → ((a b : ℕ) → a < k → b < k → T a b ↔ (S a b ⊎ ((a ≡ from) × (b / 64 ≡ x) × S to b)))
    → (a b : ℕ) → a < k → b < k → T a b ↔ (R a b ⊎ ((a ≡ from) × (b / 64 < x + 1) × R to b))
word_more k from to x R S T in_to before step a b in_a in_b = (λ t. there ((step a b in_a in_b).0 t), λ some. (step a b in_a in_b).1 (back some))
  where
    row : R to b ⊎ ((to ≡ from) × (b / 64 < x) × R to b) → R to b
    row (inl has) = has
    row (inr (r, c, has)) = has

    old : R a b ⊎ ((a ≡ from) × (b / 64 < x) × R to b) → R a b ⊎ ((a ≡ from) × (b / 64 < x + 1) × R to b)
    old (inl has) = inl has
    old (inr (r, c, has)) = inr (r, omega (arith, c), has)

    there : S a b ⊎ ((a ≡ from) × (b / 64 ≡ x) × S to b) → R a b ⊎ ((a ≡ from) × (b / 64 < x + 1) × R to b)
    there (inl s) = old ((before a b in_a in_b).0 s)
    there (inr (r, c, s)) = inr (r, omega (arith, c), row ((before to b in_to in_b).0 s))

    new : (a ≡ from) → R to b → (b / 64 ≡ x) ⊎ (b / 64 ≢ x) → b / 64 < x + 1 → S a b ⊎ ((a ≡ from) × (b / 64 ≡ x) × S to b)
    new r has (inl here) c = inr (r, here, (before to b in_to in_b).1 (inl has))
    new r has (inr other) c = inl ((before a b in_a in_b).1 (inr (r, omega (arith, c, other), has)))

    back : R a b ⊎ ((a ≡ from) × (b / 64 < x + 1) × R to b) → S a b ⊎ ((a ≡ from) × (b / 64 ≡ x) × S to b)
    back (inl has) = inl ((before a b in_a in_b).1 (inl has))
    back (inr (r, c, has)) = new r has (cases_eq (b / 64) x) c

-- one node more
pub node_more : (k from to v : ℕ) (R S T : ℕ → ℕ → Type 0) → v < k → from < k → to < k
    → ((a b : ℕ) → a < k → b < k → S a b ↔ (R a b ⊎ ((a < v) × R a from × R to b)))
    → ((a b : ℕ) → a < k → b < k → T a b ↔ (S a b ⊎ ((a ≡ v) × S v from × S to b)))
    → (a b : ℕ) → a < k → b < k → T a b ↔ (R a b ⊎ ((a < v + 1) × R a from × R to b))
node_more k from to v R S T in_v in_from in_to before step a b in_a in_b = (λ t. there ((step a b in_a in_b).0 t), λ some. (step a b in_a in_b).1 (back some))
  where
    row : R to b ⊎ ((to < v) × R to from × R to b) → R to b
    row (inl has) = has
    row (inr (c, f, has)) = has

    source : (a ≡ v) → R v from ⊎ ((v < v) × R v from × R to from) → R a from
    source same (inl has) = subst (λ (n : ℕ). R n from) (sym same) has
    source same (inr (c, f, has)) = subst (λ (n : ℕ). R n from) (sym same) f

    old : R a b ⊎ ((a < v) × R a from × R to b) → R a b ⊎ ((a < v + 1) × R a from × R to b)
    old (inl has) = inl has
    old (inr (c, f, has)) = inr (omega (arith, c), f, has)

    there : S a b ⊎ ((a ≡ v) × S v from × S to b) → R a b ⊎ ((a < v + 1) × R a from × R to b)
    there (inl s) = old ((before a b in_a in_b).0 s)
    there (inr (same, f, s)) = inr (omega (arith, same), source same ((before v from in_v in_from).0 f), row ((before to b in_to in_b).0 s))

    new : (a ≡ v) ⊎ (a ≢ v) → a < v + 1 → R a from → R to b → S a b ⊎ ((a ≡ v) × S v from × S to b)
    new (inl same) c f has = inr (same, (before v from in_v in_from).1 (inl (subst (λ (n : ℕ). R n from) same f)), (before to b in_to in_b).1 (inl has))
    new (inr other) c f has = inl ((before a b in_a in_b).1 (inr (omega (arith, c, other), f, has)))

    back : R a b ⊎ ((a < v + 1) × R a from × R to b) → S a b ⊎ ((a ≡ v) × S v from × S to b)
    back (inl has) = inl ((before a b in_a in_b).1 (inl has))
    back (inr (c, f, has)) = new (cases_eq a v) c f has

-- one node more that comes with itself
pub own_more : (k v : ℕ) (S T : ℕ → ℕ → Type 0) → ((a b : ℕ) → a < k → b < k → S a b ↔ ((a < v) × (a ≡ b))) → ((a b : ℕ) → a < k → b < k → T a b ↔ (S a b ⊎ ((a ≡ v) × (b ≡ v))))
    → (a b : ℕ) → a < k → b < k → T a b ↔ ((a < v + 1) × (a ≡ b))
own_more k v S T before step a b in_a in_b = (λ t. there ((step a b in_a in_b).0 t), λ both. (step a b in_a in_b).1 (back both (cases_eq a v)))
  where
    old : (a < v) × (a ≡ b) → (a < v + 1) × (a ≡ b)
    old (c, same) = (omega (arith, c), same)

    there : S a b ⊎ ((a ≡ v) × (b ≡ v)) → (a < v + 1) × (a ≡ b)
    there (inl s) = old ((before a b in_a in_b).0 s)
    there (inr (r, c)) = (omega (arith, r), r ∙ sym c)

    back : (a < v + 1) × (a ≡ b) → (a ≡ v) ⊎ (a ≢ v) → S a b ⊎ ((a ≡ v) × (b ≡ v))
    back (c, same) (inl here) = inr (here, sym same ∙ here)
    back (c, same) (inr other) = inl ((before a b in_a in_b).1 (omega (arith, c, other), same))

-- ---- what is known of moments

-- an order in which more is known
pub rises_connected : (o n : Order) (from to : ℕ) (w : ℕ → ℕ) → n.nodes ≡ o.nodes → from < o.nodes → to < o.nodes
    → ((a b : ℕ) → a < o.nodes → b < o.nodes → HasBit n a b ↔ Connects o from to a b) → w from ≤ w to → Rises o w → Rises n w
rises_connected o n from to w nodes in_from in_to bits later rises a b in_a in_b has = go ((bits a b (omega (arith, nodes, in_a)) (omega (arith, nodes, in_b))).0 has)
  where
    go : Connects o from to a b → w a ≤ w b
    go (inl old) = rises a b (omega (arith, nodes, in_a)) (omega (arith, nodes, in_b)) old
    go (inr (one, other)) = omega (arith, rises a from (omega (arith, nodes, in_a)) in_from one, later, rises to b in_to (omega (arith, nodes, in_b)) other)

-- nodes that come with themselves
pub rises_alone : (o : Order) (k : ℕ) (w : ℕ → ℕ) → o.nodes ≡ k → ((a b : ℕ) → a < k → b < k → HasBit o a b ↔ (a ≡ b)) → Rises o w
rises_alone o k w nodes bits a b in_a in_b has = let same : a ≡ b = (bits a b (omega (arith, nodes, in_a)) (omega (arith, nodes, in_b))).0 has in omega (arith, ap w same)

-- all words of a row
pub whole_row : (o n : Order) (from to x : ℕ) → o.nodes ≤ x * 64
    → ((a b : ℕ) → a < o.nodes → b < o.nodes → HasBit n a b ↔ (HasBit o a b ⊎ ((a ≡ from) × (b / 64 < x) × HasBit o to b)))
    → (a b : ℕ) → a < o.nodes → b < o.nodes → HasBit n a b ↔ (HasBit o a b ⊎ ((a ≡ from) × HasBit o to b))
whole_row o n from to x wide bits a b in_a in_b = (λ has. there ((bits a b in_a in_b).0 has), λ some. (bits a b in_a in_b).1 (back some))
  where
    there : HasBit o a b ⊎ ((a ≡ from) × (b / 64 < x) × HasBit o to b) → HasBit o a b ⊎ ((a ≡ from) × HasBit o to b)
    there (inl has) = inl has
    there (inr (r, c, has)) = inr (r, has)

    back : HasBit o a b ⊎ ((a ≡ from) × HasBit o to b) → HasBit o a b ⊎ ((a ≡ from) × (b / 64 < x) × HasBit o to b)
    back (inl has) = inl has
    back (inr (r, has)) = inr (r, div_below b 64 x (omega arith) (omega (arith, wide, in_b)), has)

-- and all nodes
pub all_nodes : (o n : Order) (from to v : ℕ) → o.nodes ≤ v
    → ((a b : ℕ) → a < o.nodes → b < o.nodes → HasBit n a b ↔ (HasBit o a b ⊎ ((a < v) × HasBit o a from × HasBit o to b)))
    → (a b : ℕ) → a < o.nodes → b < o.nodes → HasBit n a b ↔ Connects o from to a b
all_nodes o n from to v past bits a b in_a in_b = (λ has. there ((bits a b in_a in_b).0 has), λ some. (bits a b in_a in_b).1 (back some))
  where
    there : HasBit o a b ⊎ ((a < v) × HasBit o a from × HasBit o to b) → Connects o from to a b
    there (inl has) = inl has
    there (inr (c, f, has)) = inr (f, has)

    back : Connects o from to a b → HasBit o a b ⊎ ((a < v) × HasBit o a from × HasBit o to b)
    back (inl has) = inl has
    back (inr (f, has)) = inr (omega (arith, past, in_a), f, has)

-- what is joined to a node that comes before
pub connects_one : (o n : Order) (node from to : ℕ) → HasBit o node from → Says o.nodes n (Joins o node to) → Says o.nodes n (ConnectsOne o node from to)
connects_one o n node from to before bits a b in_a in_b = (λ has. there ((bits a b in_a in_b).0 has), λ some. (bits a b in_a in_b).1 (back some))
  where
    there : Joins o node to a b → ConnectsOne o node from to a b
    there (inl has) = inl has
    there (inr (same, has)) = inr (same, before, has)

    back : ConnectsOne o node from to a b → Joins o node to a b
    back (inl has) = inl has
    back (inr (same, f, has)) = inr (same, has)
