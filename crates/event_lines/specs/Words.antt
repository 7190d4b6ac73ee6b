-- The words of a line: how they are written, and how they are read.
use Rattle.std.specs.Prelude.{◌≡◌, ℕ, ◌==◌, List, [], ◌∷◌, ◌++◌, decimal}
use Rattle.std.specs.List.{slice_split}
use Rattle.text_lines.specs.Numbers.{IsNumeral}

-- a word is a text, a number that is read with so many digits at most, or the number of a job, a dot and that of its step
pub data Word : Type 0 where
  Text : List ℕ → Word
  Number : ℕ → ℕ → Word
  JobStep : ℕ → ℕ → Word

-- the number of a job, of a machine or of a cell, and a moment
abbrev pub short : ℕ → Word
short n = Number 9 n

abbrev pub moment : ℕ → Word
moment at = Number 13 at

-- the word as it is written, numbers in decimal without leading zeros
abbrev pub written : Word → List ℕ
written (Text text) = text
written (Number most n) = decimal n
written (JobStep job step) = decimal job ++ 46 ∷ decimal step

-- the words with one space between each two, before a text
abbrev pub words_before : List Word → List ℕ → List ℕ
words_before [] text = text
words_before (word ∷ []) text = written word ++ text
words_before (word ∷ next ∷ words) text = written word ++ 32 ∷ words_before (next ∷ words) text

-- the line of these words: one space between each two, and a line feed at the end
abbrev pub line_of : List Word → List ℕ
line_of words = words_before words (10 ∷ [])

-- the bytes are the number of a job, a dot and the number of its step
pub record IsJobStep (bytes : List ℕ) (job step : ℕ) : Type 0 where
  pub front : List ℕ
  pub back : List ℕ
  pub split : bytes ≡ front ++ 46 ∷ back
  pub is_job : IsNumeral 9 front job
  pub is_step : IsNumeral 9 back step

-- the bytes are read as the word; a number may have leading zeros
abbrev pub IsRead : List ℕ → Word → Type 0
IsRead bytes (Text text) = bytes ≡ text
IsRead bytes (Number most n) = IsNumeral most bytes n
IsRead bytes (JobStep job step) = IsJobStep bytes job step

-- these are read as words, one after another
abbrev pub AreRead : List (List ℕ) → List Word → Type 0
AreRead [] [] = Unit {0}
AreRead [] (word ∷ words) = ⊥
AreRead (bytes ∷ others) [] = ⊥
AreRead (bytes ∷ others) (word ∷ words) = IsRead bytes word × AreRead others words

-- the words of a line, with one space between each two
abbrev pub spaced_words : List ℕ → List (List ℕ)
spaced_words line = slice_split (λ b. b == 32) line

-- the line is read as these words
abbrev pub IsReadAs : List ℕ → List Word → Type 0
IsReadAs line words = AreRead (spaced_words line) words
