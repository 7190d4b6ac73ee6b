-- Below which moment no accepted plan has the value of an objective.
use Rattle.std.specs.Prelude.{ℕ, ◌≤◌, List}
use Rattle.plan_seek.specs.Tasks.{with_order}
use Rattle.plan_decide.specs.declared.aim.Objective.{Objective}
use Rattle.plan_decide.specs.Cases.{Case, IsAcceptedFromPast, HasValue}

-- no plan that is accepted with these numbers, whatever its orders, has a value below n
abbrev pub IsLeastValue : Case → Objective → ℕ → Type 0
IsLeastValue t objective n = (order : List (List ℕ)) (value : ℕ) → IsAcceptedFromPast t.past (with_order t.task order) → HasValue t.past objective (with_order t.task order) value → n ≤ value
