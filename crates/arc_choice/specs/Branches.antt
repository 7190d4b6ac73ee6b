-- What a branch of the search says of the moments that answer a question.
use Rattle.std.specs.Prelude.{ℕ, ◌≡◌, ◌<◌, ◌≤◌, Bool, if◌then◌else◌, List, length, slice_index, slice_index_or}
use Rattle.std.specs.Prelude.{Option, IfSome, MatchOption, Result, MatchResult}
use Rattle.arc_choice.specs.declared.question.Arc.{Arc}
use Rattle.arc_choice.specs.declared.question.Pair.{Pair}
use Rattle.arc_choice.specs.declared.question.Question.{Question}
use Rattle.arc_choice.specs.declared.question.Side.{Side}
use Rattle.arc_choice.specs.declared.branch.Branch.{Branch}
use Rattle.arc_choice.specs.declared.branch.Decision.{Decision}
use Rattle.arc_choice.specs.declared.branch.Decision.TheVariants.{Open, One, Other}
use Rattle.arc_choice.specs.declared.rules.Clash.{Clash}
use Rattle.arc_choice.specs.Choices.{Keeps, Answers, IsArc, IsImpossible, IsSoundQuestion, nodes, pair_at, side_of}
use Rattle.arc_choice.specs.Reach.{Rises}

-- no node comes before its head
abbrev pub AreHeads : List ℕ → (ℕ → ℕ) → Type 0
AreHeads heads w = (v : ℕ) → v < length heads → slice_index heads v ≤ w v

-- no node comes after its latest moment
abbrev pub AreLatest : List ℕ → (ℕ → ℕ) → Type 0
AreLatest latest w = (v : ℕ) → v < length latest → w v ≤ slice_index latest v

-- the decided side of the pair is kept, if one is decided
abbrev pub KeepsDecision : (ℕ → ℕ) → Pair → Decision → Type 0
KeepsDecision w pair Open = Unit {0}
KeepsDecision w pair One = Keeps w pair.one
KeepsDecision w pair Other = Keeps w pair.other

-- what is decided of pair p
abbrev pub decision_at : Branch → ℕ → Decision
decision_at b p = slice_index_or b.decisions.items p Open

-- the decision for a side
abbrev pub decision_for : Bool → Decision
decision_for one = if one then One else Other

module _ (q : Question) where
  -- the branch is one of this question, which can be searched
  pub record IsBranch (b : Branch) : Type 0 where
    pub sound : IsSoundQuestion q
    pub heads : length b.state.heads.items ≡ nodes q
    pub latest : length b.state.latest.items ≡ nodes q
    pub reach : b.reach.nodes ≡ nodes q
    pub decisions : length b.decisions.items ≡ length q.pairs.items

  -- the moments are among those of the branch
  pub record IsWithin (b : Branch) (w : ℕ → ℕ) : Type 0 where
    pub heads : AreHeads b.state.heads.items w
    pub latest : AreLatest b.state.latest.items w
    pub reach : Rises b.reach w
    pub decisions : (p : ℕ) → p < length q.pairs.items → KeepsDecision w (pair_at q p) (decision_at b p)

-- all answers of the question are among those of the branch
abbrev pub HasAll : Question → Branch → Type 0
HasAll q b = (w : ℕ → ℕ) → Answers q w → IsWithin q b w

-- a branch with all answers of the question or, where there is none, it has none
abbrev pub IsRoot : Question → Option Branch → Type 0
IsRoot q result = MatchOption result (IsImpossible q) (λ b. IsBranch q b × HasAll q b)

-- one branch is another but for the pairs that are open
pub record IsCopy (b c : Branch) : Type 0 where
  pub heads : c.state.heads.items ≡ b.state.heads.items
  pub latest : c.state.latest.items ≡ b.state.latest.items
  pub reach : c.reach ≡ b.reach
  pub decisions : c.decisions.items ≡ b.decisions.items

-- nothing is asked of the moments
abbrev pub Always : (ℕ → ℕ) → Type 0
Always w = Unit {0}

module _ (P : (ℕ → ℕ) → Type 0) (q : Question) where
  -- the branch has become another, and has lost no answers of which P holds
  pub record Narrows (old new : Branch) : Type 0 where
    pub branch : IsBranch q new
    pub keeps : (w : ℕ → ℕ) → Answers q w → P w → IsWithin q old w → IsWithin q new w

  -- it has no answers of which P holds
  abbrev pub HasNone : Branch → Type 0
  HasNone b = (w : ℕ → ℕ) → Answers q w → P w → IsWithin q b w → ⊥

  -- the one or, at a clash, the other
  abbrev pub Propagates : {A : Type 0} → Branch → Branch → Result A Clash → Type 0
  Propagates old new result = MatchResult result (λ _. Narrows old new) (λ _. HasNone old)

-- each answer of the branch keeps the side
pub record IsForced (q : Question) (b : Branch) (side : Side) : Type 0 where
  pub pair : side.pair < length q.pairs.items
  pub keeps : (w : ℕ → ℕ) → Answers q w → IsWithin q b w → Keeps w (side_of q side.pair side.one)

-- the arc is one that each answer of the branch keeps
pub record IsHeld (q : Question) (b : Branch) (arc : Arc) : Type 0 where
  pub is : IsArc (nodes q) arc
  pub keeps : (w : ℕ → ℕ) → Answers q w → IsWithin q b w → Keeps w arc

-- it is so of the side that is named, if one is; at a clash the branch has no answers
abbrev pub Forces : Question → Branch → Result (Option Side) Clash → Type 0
Forces q b result = MatchResult result (λ side. IfSome side (IsForced q b)) (λ _. HasNone Always q b)
