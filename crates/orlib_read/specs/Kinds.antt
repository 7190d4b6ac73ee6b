-- The kinds of lines of an instance text (OR-Library, jobshop1).
use Rattle.std.specs.Prelude.{◌≡◌, ℕ, Bool, not, ◌==◌, true, false, List, [], ◌∷◌, ◌++◌, codes, filter}
use Rattle.std.specs.List.{list_all, flat_map}
use Rattle.shop_base.specs.declared.shop.Step.{Step}
use Rattle.text_lines.specs.Lines.{NumberedLine, lines_of, numbered_from}
use Rattle.orlib_read.specs.declared.named.Sizes.{Sizes}
use Rattle.orlib_read.specs.Words.{words_of, AreNumbers}

-- `+`
abbrev pub is_plus : ℕ → Bool
is_plus b = b == 43

-- a filler line: its words, if it has any, consist of `+` alone
abbrev pub is_filler : List ℕ → Bool
is_filler line = list_all (list_all is_plus) (words_of line)

-- a line that isn't filler
abbrev pub is_unfilled : NumberedLine → Bool
is_unfilled line = not (is_filler line.bytes)

-- the lines of a text that aren't filler, numbered from a number on
abbrev pub unfilled_from : ℕ → List ℕ → List NumberedLine
unfilled_from number text = filter is_unfilled (numbered_from number (lines_of text))

-- the lines of a text that aren't filler, with their numbers from 1
abbrev pub unfilled_lines : List ℕ → List NumberedLine
unfilled_lines text = unfilled_from 1 text

-- the line of these bytes, as the first of a text
abbrev pub first_line : List ℕ → NumberedLine
first_line bytes = record { number = 1; bytes = bytes }

-- an instance line: the word `instance`, and the name of an instance
abbrev pub IsInstanceLine : NumberedLine → List ℕ → Type 0
IsInstanceLine line name = words_of line.bytes ≡ codes "instance" ∷ name ∷ []

-- an instance line, whatever its name
abbrev pub IsAnyInstanceLine : NumberedLine → Type 0
IsAnyInstanceLine line = (name : List ℕ) × IsInstanceLine line name

-- any other line
abbrev pub IsOtherLine : NumberedLine → Type 0
IsOtherLine line = (name : List ℕ) → IsInstanceLine line name → ⊥

-- the words are the numbers of jobs and machines, with the word for recirculation behind them or without
abbrev pub IsSized : List (List ℕ) → ℕ → ℕ → Bool → Type 0
IsSized words jobs machines false = AreNumbers words (jobs ∷ machines ∷ [])
IsSized words jobs machines true = (numbers : List (List ℕ)) × (words ≡ numbers ++ (codes "recrc" ∷ [])) × AreNumbers numbers (jobs ∷ machines ∷ [])

-- the size line: exactly two numbers, of jobs and of machines
abbrev pub IsSizeLine : NumberedLine → ℕ → ℕ → Type 0
IsSizeLine line jobs machines = AreNumbers (words_of line.bytes) (jobs ∷ machines ∷ [])

-- the size line behind a description: the same, and behind it the word for recirculation (Pinedo, Scheduling: recrc), if the shop has it
abbrev pub IsSizeLineOf : NumberedLine → Sizes → Type 0
IsSizeLineOf line sizes = IsSized (words_of line.bytes) sizes.jobs sizes.machines sizes.recirculates

-- the machine and the nominal time of each step, in route order
abbrev pub numbers_of : List Step → List ℕ
numbers_of route = flat_map (λ step. step.machine ∷ step.nominal ∷ []) route

-- a job line: pairs of machine and nominal time
abbrev pub IsJobLine : NumberedLine → List Step → Type 0
IsJobLine line route = AreNumbers (words_of line.bytes) (numbers_of route)

-- a description is any line that is neither an instance line nor a size line
pub record IsDescription (line : NumberedLine) : Type 0 where
  pub no_instance_line : IsOtherLine line
  pub no_size_line : (jobs machines : ℕ) → IsSizeLine line jobs machines → ⊥
