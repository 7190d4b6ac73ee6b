-- Texts from their parts.
use native.Mathlib.Numerals.{unary_clauses}
use Rattle.std.proofs.Common.{◌≡◌, ℕ, ◌+◌, ◌<◌, List, [], ◌++◌, Result, Ok, Err, OnOk, arith, refl, sym, ap, ◌∙◌}
use Rattle.std.proofs.lemmas.List.{append-nil, append_assoc}
use Rattle.plan_explain.specs.{Added.Adds, Parts.{AreBoth, AreTextsFrom, no_text, next_text, texts_below}}

-- what is added may be written in another way
pub on_ok_same : {T E : Type 0} (r : Result T E) (new one other : List ℕ) → one ≡ other → OnOk r (new ≡ one) → OnOk r (new ≡ other)
on_ok_same (Ok x) new one other same is = is ∙ same
on_ok_same (Err e) new one other same is = tt

-- four texts before none
pub four_parts : (a b c d : List ℕ) → a ++ (b ++ (c ++ (d ++ []))) ≡ a ++ b ++ c ++ d
four_parts a b c d = ap (λ l. a ++ (b ++ (c ++ l))) (append-nil d) ∙ sym (append_assoc (a ++ b) c d ∙ append_assoc a b (c ++ d))

-- ---- what calls add

-- what is added is a text of which P holds
pub on_ok_adds : {T E : Type 0} (P : List ℕ → Type 0) (r : Result T E) (old new added : List ℕ) → P added → OnOk r (new ≡ old ++ added) → OnOk r (Adds P old new)
on_ok_adds P (Ok x) old new added holds is = (added, holds, is)
on_ok_adds P (Err e) old new added holds is = tt

-- what holds of each text of which P holds
pub on_ok_each : {T E : Type 0} {P Q : List ℕ → Type 0} (r : Result T E) (old new : List ℕ) → ((text : List ℕ) → P text → Q text) → OnOk r (Adds P old new) → OnOk r (Adds Q old new)
on_ok_each (Ok x) old new turn (text, holds, is) = (text, turn text holds, is)
on_ok_each (Err e) old new turn adds = tt

-- two texts are added one after the other
added_twice : (old one two a b : List ℕ) → one ≡ old ++ a → two ≡ one ++ b → two ≡ old ++ (a ++ b)
added_twice old one two a b first second = second ∙ ap (λ l. l ++ b) first ∙ append_assoc old a b

pub both_added : {T E : Type 0} (One Other : List ℕ → Type 0) (r : Result T E) (old mid new : List ℕ) → Adds One old mid → OnOk r (Adds Other mid new) → OnOk r (Adds (AreBoth One Other) old new)
both_added One Other (Ok x) old mid new (first, is, one) (behind, are, two) =
    (first ++ behind, record { first = first; is = is; behind = behind; are = are; both = refl }, added_twice old mid new first behind one two)
both_added One Other (Err e) old mid new first behind = tt

module _ (Is : ℕ → List ℕ → Type 0) (first : ℕ) where
  -- at first there is none
  pub none_added : (text : List ℕ) → Adds (AreTextsFrom Is first first) text text
  none_added text = ([], no_text, sym (append-nil text))

  pub one_more_added : (n : ℕ) (old mid new : List ℕ) → Adds (AreTextsFrom Is first n) old mid → Adds (Is n) mid new → Adds (AreTextsFrom Is first (n + 1)) old new
  one_more_added n old mid new (text, are, written) (more, is, added) = (text ++ more, next_text n text more are is, added_twice old mid new text more written added)

-- one more text is written
pub text_more : (of : ℕ → List ℕ) (old text new : List ℕ) (n : ℕ) → text ≡ old ++ texts_below of n → new ≡ text ++ of n → new ≡ old ++ texts_below of (n + 1)
text_more of old text new n written added = added_twice old text new (texts_below of n) (of n) written added ∙ ap (λ l. old ++ l) (sym more)
  where
    more : texts_below of (n + 1) ≡ texts_below of n ++ of n
    more = simp unary_clauses refl

-- ---- texts of one kind that are texts of another

pub both_map : {One Other First Behind : List ℕ → Type 0} → ((text : List ℕ) → One text → First text) → ((text : List ℕ) → Other text → Behind text)
    → (text : List ℕ) → AreBoth One Other text → AreBoth First Behind text
both_map one other text are = record { first = are.first; is = one are.first are.is; behind = are.behind; are = other are.behind are.are; both = are.both }

pub texts_map : {Is So : ℕ → List ℕ → Type 0} (first last : ℕ) → ((n : ℕ) (text : List ℕ) → n < last → Is n text → So n text) → (text : List ℕ) → AreTextsFrom Is first last text → AreTextsFrom So first last text
texts_map first _ each _ no_text = no_text
texts_map first _ each _ (next_text n text more are is) = next_text n text more (texts_map first n (λ i one below. each i one (omega (arith, below))) text are) (each n more (omega arith) is)
