-- The turns of the planners, round by round and in each round in order, and the first of them whose proposal is accepted.
use Rattle.std.specs.Prelude.{◌≡◌, ℕ, ◌<◌, List, None, Some, ◌⊎◌, length, slice_get}
use Rattle.shop_base.specs.Shop.{JobShop}
use Rattle.plan_seek.specs.Orders.{Proposal}
use Rattle.plan_seek.specs.Tasks.{PlanTask, with_order, IsAccepted}

-- a round, and the place of a proposer in their list
pub record Turn : Type 0 where
  pub round : ℕ
  pub proposer : ℕ

-- a turn of so many rounds and proposers
pub record IsTurn (rounds proposers : ℕ) (turn : Turn) : Type 0 where
  pub within_rounds : turn.round < rounds
  pub within_list : turn.proposer < proposers

-- turns come round by round, and in each round in the order of the list
abbrev pub ComesSooner : Turn → Turn → Type 0
ComesSooner one other = (one.round < other.round) ⊎ ((one.round ≡ other.round) × (one.proposer < other.proposer))

-- the turn of a proposer in a round
abbrev pub turn_of : ℕ → ℕ → Turn
turn_of round proposer = record { round = round; proposer = proposer }

-- what may be proposed at each turn
abbrev pub Proposals : Type 1
Proposals = Turn → Proposal → Type 0

-- the proposer whose turn it is may make the proposal in that round
pub record MayPropose {B : Type 0} (may : B → ℕ → Proposal → Type 0) (proposers : List B) (turn : Turn) (proposal : Proposal) : Type 0 where
  pub who : B
  pub stands : slice_get proposers turn.proposer ≡ Some who
  pub given : may who turn.round proposal

-- a search for a plan: its task, how many proposers are asked in each round, and what may be proposed at each turn
pub record PlanSearch : Type 1 where
  pub task : PlanTask
  pub proposers : ℕ
  pub may : Proposals

-- the search for a plan for this task by these proposers, by what each of them may propose
abbrev pub search_by : {B : Type 0} → (B → JobShop → ℕ → Proposal → Type 0) → List B → PlanTask → PlanSearch
search_by may proposers t = record { task = t; proposers = length proposers; may = MayPropose (λ b. may b t.shop) proposers }

-- the proposal isn't accepted: there is none, or the plan with these orders isn't accepted
abbrev pub IsInVain : PlanTask → Proposal → Type 0
IsInVain t None = Unit {0}
IsInVain t (Some order) = IsAccepted (with_order t order) → ⊥

-- a proposal that may be made and isn't accepted
pub record MayFail (t : PlanTask) (may : Proposal → Type 0) : Type 0 where
  pub proposal : Proposal
  pub given : may proposal
  pub in_vain : IsInVain t proposal

-- these orders may be proposed at some turn, and at each turn before it a proposal may be made that isn't accepted
pub record IsFirstFound (s : PlanSearch) (rounds : ℕ) (order : List (List ℕ)) : Type 0 where
  pub turn : Turn
  pub inside : IsTurn rounds s.proposers turn
  pub given : s.may turn (Some order)
  pub before : (earlier : Turn) → IsTurn rounds s.proposers earlier → ComesSooner earlier turn → MayFail s.task (s.may earlier)

-- at each turn a proposal may be made that isn't accepted
abbrev pub EachMayFail : PlanSearch → ℕ → Type 0
EachMayFail s rounds = (turn : Turn) → IsTurn rounds s.proposers turn → MayFail s.task (s.may turn)

-- within one round: at each turn before this many proposers a proposal may be made that isn't accepted
abbrev pub EachInRound : PlanSearch → ℕ → ℕ → Type 0
EachInRound s round n = (k : ℕ) → k < n → MayFail s.task (s.may (turn_of round k))
