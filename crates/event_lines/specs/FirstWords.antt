-- The words of a line, read from the front.
use Rattle.std.specs.Prelude.{◌≡◌, ℕ, List, [], ◌∷◌, Option, MatchOption}
use Rattle.std.specs.Borrow.{Bor}
use Rattle.event_lines.specs.Words.{Word, JobStep, moment, spaced_words, IsRead, IsReadAs}

-- the line begins with this word, and these bytes stand behind the space after it
pub record IsFirst (line : List ℕ) (word : Word) (rest : List ℕ) : Type 0 where
  pub front : List ℕ
  pub is_read : IsRead front word
  pub split : spaced_words line ≡ front ∷ spaced_words rest

-- no word of this form stands before others
abbrev pub IsNeverFirst : {T : Type 0} → (T → Word) → List ℕ → Type 0
IsNeverFirst {T} form line = (x : T) (next : Word) (words : List Word) → IsReadAs line (form x ∷ next ∷ words) → ⊥

-- what was found are the first word, which has this form, and the bytes behind it; where nothing was found none stands before others
abbrev pub TakesFirst : {T : Type 0} → (T → Word) → List ℕ → Option (T × Bor (List ℕ)) → Type 0
TakesFirst form line found = MatchOption found (IsNeverFirst form line) (λ pair. IsFirst line (form pair.0) pair.1.now)

-- the line is this one word
abbrev pub IsOnly : {T : Type 0} → (T → Word) → List ℕ → T → Type 0
IsOnly form line x = IsReadAs line (form x ∷ [])

-- the line isn't a job's step and a moment
abbrev pub IsNoStepAndMoment : List ℕ → Type 0
IsNoStepAndMoment line = (job step at : ℕ) → IsReadAs line (JobStep job step ∷ moment at ∷ []) → ⊥
