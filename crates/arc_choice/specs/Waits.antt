-- What branches that wait say of the moments that answer a question.
use Rattle.std.specs.Prelude.{ℕ, ◌<◌, ◌⊎◌, List, [], ◌∷◌, length, Option, MatchOption}
use Rattle.arc_choice.specs.declared.question.Question.{Question}
use Rattle.arc_choice.specs.declared.branch.Branch.{Branch}
use Rattle.arc_choice.specs.declared.exploring.Waiting.{Waiting}
use Rattle.arc_choice.specs.Choices.{Keeps, Answers, side_of}
use Rattle.arc_choice.specs.Branches.{IsBranch, IsWithin}

module _ (q : Question) where
  -- a branch of this question waits, with a side of one of its pairs
  pub record IsWaiting (x : Waiting) : Type 0 where
    pub branch : IsBranch q x.branch
    pub pair : x.side.pair < length q.pairs.items

  -- each of these is
  abbrev pub AreWaiting : List Waiting → Type 0
  AreWaiting [] = Unit {0}
  AreWaiting (x ∷ xs) = IsWaiting x × AreWaiting xs

  -- the moments are among those of the branch, and keep the side
  pub record IsWithinOne (x : Waiting) (w : ℕ → ℕ) : Type 0 where
    pub within : IsWithin q x.branch w
    pub keeps : Keeps w (side_of q x.side.pair x.side.one)

  -- they are so of some that waits
  abbrev pub IsWithinSome : List Waiting → (ℕ → ℕ) → Type 0
  IsWithinSome [] w = ⊥
  IsWithinSome (x ∷ xs) w = IsWithinOne x w ⊎ IsWithinSome xs w

  -- a branch and those that wait stand for all that waited
  pub record Goes (branch : Branch) (old new : List Waiting) : Type 0 where
    pub is : IsBranch q branch
    pub waiting : AreWaiting new
    pub keeps : (w : ℕ → ℕ) → Answers q w → IsWithinSome old w → IsWithin q branch w ⊎ IsWithinSome new w

  -- nothing answers the question among what waits
  abbrev pub HasNoneIn : List Waiting → Type 0
  HasNoneIn waiting = (w : ℕ → ℕ) → Answers q w → IsWithinSome waiting w → ⊥

  -- what waits now stands for the branch and all that waited
  pub record Splits (branch : Branch) (old new : List Waiting) : Type 0 where
    pub waiting : AreWaiting new
    pub keeps : (w : ℕ → ℕ) → Answers q w → IsWithin q branch w ⊎ IsWithinSome old w → IsWithinSome new w

-- where there is no such branch, nothing that waited has answers
abbrev pub IsNextBranch : Question → List Waiting → List Waiting → Option Branch → Type 0
IsNextBranch q old new result = MatchOption result (HasNoneIn q old) (λ branch. Goes q branch old new)
