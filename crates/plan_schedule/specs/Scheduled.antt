-- The schedules of verdicts.
use Rattle.std.specs.Prelude.{◌≡◌, ℕ, List, [], Option, None, Some}
use Rattle.shop_base.specs.{declared.node.Node.Node, Plan.PlannedShop, Cell.Cell, Graph.IsNode, Ahead.IsAhead, Deadlines.AreDeadlines}
use Rattle.people_names.specs.NameBooks.{NameBook}
use Rattle.plan_verifier.specs.declared.verdict.Judged.{Judged}
use Rattle.plan_verifier.specs.declared.verdict.Judged.TheVariants.{Accepted, Refused}
use Rattle.plan_verifier.specs.{declared.verdict.Why.TheVariants.Cycle, declared.verdict.Why.TheVariants.Late, Rest.IsGreatestAhead}
use Rattle.plan_explain.specs.{FirstLines.IsFirstLine, Parts.AreBoth}
use Rattle.plan_schedule.specs.ScheduleLines.{AreScheduleLines}

-- each node of an accepted plan has its deadline
abbrev pub AreInTime : PlannedShop → Cell → (Node → Option ℕ) → Type 0
AreInTime p c due = (dues : Node → ℕ) × AreDeadlines p c dues × ((v : Node) → due v ≡ Some (dues v))

-- no node of a late one has one
abbrev pub HaveNoDeadlines : (Node → Option ℕ) → Type 0
HaveNoDeadlines due = (v : Node) → due v ≡ None

-- of each node ahead the greatest length of a path ahead to it; of those of the start they are the moments of the exact run
abbrev pub AreEarliest : PlannedShop → Cell → ℕ → (Node → ℕ) → Type 0
AreEarliest p c t moments = (v : Node) → IsNode p v → IsAhead c v → IsGreatestAhead p c t v (moments v)

module _ (names : NameBook) (p : PlannedShop) (c : Cell) (t : ℕ) where
  -- the lines by the earliest moments, with deadlines such as these
  pub record AreLinesBy (AreDues : (Node → Option ℕ) → Type 0) (lines : List ℕ) : Type 0 where
    pub moments : Node → ℕ
    pub earliest : AreEarliest p c t moments
    pub due : Node → Option ℕ
    pub deadlines : AreDues due
    pub are : AreScheduleLines names p c t moments due lines

  -- behind the first line of a verdict: with deadlines where it is accepted, without where it is late; none where there is a cycle, as then there are no moments
  abbrev pub AreVerdictLines : Judged → List ℕ → Type 0
  AreVerdictLines (Accepted times) lines = AreLinesBy (AreInTime p c) lines
  AreVerdictLines (Refused (Cycle nodes)) lines = lines ≡ []
  AreVerdictLines (Refused (Late job leaves chain times)) lines = AreLinesBy HaveNoDeadlines lines

  -- the schedule of a verdict: its first line, and then those behind it
  abbrev pub IsScheduled : Judged → List ℕ → Type 0
  IsScheduled verdict = AreBoth (IsFirstLine p c t verdict) (AreVerdictLines verdict)
