-- A line, word by word.
use Rattle.std.proofs.Common.{◌≡◌, ℕ, List, [], ◌∷◌, ◌++◌, refl, sym, ap, ◌∙◌, subst}
use Rattle.std.specs.List.{onto_first, join_with_byte}
use Rattle.std.proofs.lemmas.List.Splits.{join_with_byte-slice_split}
use Rattle.text_lines.specs.Numbers.{IsNumberBefore, IsNumeral}
use Rattle.text_lines.specs.Cuts.{HasNone, IsCutAt}
use Rattle.text_lines.proofs.FirstWords.{no_space}
use Rattle.event_lines.specs.Words.{Word, Text, Number, spaced_words, IsRead, AreRead, IsReadAs}
use Rattle.event_lines.specs.FirstWords.{IsFirst, IsNeverFirst}

word_before : (front rest : List ℕ) → HasNone 32 front → spaced_words (front ++ 32 ∷ rest) ≡ front ∷ spaced_words rest
word_before [] rest none = refl
word_before (b ∷ front) rest none = rw none.0 (ap (λ words. onto_first b words) (word_before front rest none.1))

-- the word before the first space
pub words_first : (bytes front rest : List ℕ) → IsCutAt 32 bytes front rest → spaced_words bytes ≡ front ∷ spaced_words rest
words_first bytes front rest cut = ap spaced_words cut.split ∙ word_before front rest cut.before

-- bytes without a space are one word
pub words_one : (bytes : List ℕ) → HasNone 32 bytes → spaced_words bytes ≡ bytes ∷ []
words_one [] none = refl
words_one (b ∷ bytes) none = rw none.0 (ap (λ words. onto_first b words) (words_one bytes none.1))

-- the words of bytes give them back
words_back : (bytes : List ℕ) (words : List (List ℕ)) → spaced_words bytes ≡ words → bytes ≡ join_with_byte 32 words
words_back bytes words same = sym (join_with_byte-slice_split 32 bytes) ∙ ap (join_with_byte 32) same

-- ---- a line of one word, and the first of several

pub alone : (line : List ℕ) (word : Word) → HasNone 32 line → IsRead line word → IsReadAs line (word ∷ [])
alone line word none is = subst (λ (ws : List (List ℕ)). AreRead ws (word ∷ [])) (sym (words_one line none)) (is, tt)

pub alone_number : (most n : ℕ) (line : List ℕ) → IsNumeral most line n → IsReadAs line (Number most n ∷ [])
alone_number most n line is = alone line (Number most n) (no_space line is.digits) is

pub only_of : (line : List ℕ) (word : Word) → IsReadAs line (word ∷ []) → IsRead line word
only_of line word found = go (spaced_words line) refl found
  where
    go : (bytes : List (List ℕ)) → spaced_words line ≡ bytes → AreRead bytes (word ∷ []) → IsRead line word
    go [] is read = absurd read
    go (one ∷ []) is read = subst (λ (b : List ℕ). IsRead b word) (sym (words_back line (one ∷ []) is)) read.0
    go (one ∷ other ∷ others) is read = absurd read.1

-- the bytes of the first word, and those behind the space after it
front_of : (line : List ℕ) (word next : Word) (words : List Word) → IsReadAs line (word ∷ next ∷ words)
    → (front : List ℕ) × (rest : List ℕ) × (line ≡ front ++ 32 ∷ rest) × IsRead front word
front_of line word next words found = go (spaced_words line) refl found
  where
    go : (bytes : List (List ℕ)) → spaced_words line ≡ bytes → AreRead bytes (word ∷ next ∷ words) → (front : List ℕ) × (rest : List ℕ) × (line ≡ front ++ 32 ∷ rest) × IsRead front word
    go [] is read = absurd read
    go (front ∷ []) is read = absurd read.1
    go (front ∷ other ∷ others) is read = (front, join_with_byte 32 (other ∷ others), words_back line (front ∷ other ∷ others) is, read.0)

-- of a text, these are the text itself and the bytes behind it
pub text_first : (line text rest : List ℕ) → spaced_words line ≡ text ∷ spaced_words rest → IsFirst line (Text text) rest
text_first line text rest split = record { front = text; is_read = refl; split = split }

pub text_before : (line text : List ℕ) (next : Word) (words : List Word) → IsReadAs line (Text text ∷ next ∷ words) → (rest : List ℕ) × (line ≡ text ++ 32 ∷ rest)
text_before line text next words found =
    let first = front_of line (Text text) next words found in
    (first.1, first.2 ∙ ap (λ (b : List ℕ). b ++ 32 ∷ first.1) first.3)

-- ---- what stands behind the first word

pub behind : {line rest : List ℕ} {first : Word} (word : Word) (words : List Word) → IsFirst line first rest → IsReadAs line (word ∷ words) → IsReadAs rest words
behind {rest} word words is found = let both : IsRead is.front word × IsReadAs rest words = subst (λ (ws : List (List ℕ)). AreRead ws (word ∷ words)) is.split found in both.1

pub before : {line rest : List ℕ} {word : Word} (words : List Word) → IsFirst line word rest → IsReadAs rest words → IsReadAs line (word ∷ words)
before {word} words is found = subst (λ (ws : List (List ℕ)). AreRead ws (word ∷ words)) (sym is.split) (is.is_read, found)

-- a line begins with one number at most
pub same_first : {line rest : List ℕ} (most n m : ℕ) (words : List Word) → IsFirst line (Number most n) rest → IsReadAs line (Number most m ∷ words) → m ≡ n
same_first {rest} most n m words is found =
    let both : IsNumeral most is.front m × IsReadAs rest words = subst (λ (ws : List (List ℕ)). AreRead ws (Number most m ∷ words)) is.split found in
    both.0.value ∙ sym is.is_read.value

-- ---- numbers before a space

pub first_number : (most n : ℕ) (line rest : List ℕ) → IsNumberBefore most line n rest → IsFirst line (Number most n) rest
first_number most n line rest is = record {
  front = is.word;
  is_read = is.numeral;
  split = words_first line is.word rest (record { before = no_space is.word is.numeral.digits; split = is.split });
}

pub no_number : (most : ℕ) (line : List ℕ) → ((n : ℕ) (rest : List ℕ) → IsNumberBefore most line n rest → ⊥) → IsNeverFirst (λ n. Number most n) line
no_number most line none n next words found =
    let first = front_of line (Number most n) next words found in
    none n first.1 (record { word = first.0; numeral = first.3; split = first.2 })

-- the first word and what stands behind it, or the only word
pub ruleset word_steps = (behind, before, only_of, alone_number)
