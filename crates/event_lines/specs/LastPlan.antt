-- The last line of a plan among lines.
use Rattle.std.specs.Prelude.{◌⊎◌, ℕ, List, [], ◌∷◌}
use Rattle.event_lines.specs.declared.run_digits.RunDigits.{RunDigits}
use Rattle.event_lines.specs.RunDigits.{IsPlanLine}

-- none of the lines is the line of a plan
abbrev pub AreNoPlans : List (List ℕ) → Type 0
AreNoPlans [] = Unit {0}
AreNoPlans (line ∷ lines) = ((digits : RunDigits) → IsPlanLine line digits → ⊥) × AreNoPlans lines

-- the last line of a plan among them has these digits
abbrev pub IsLastPlan : List (List ℕ) → RunDigits → Type 0
IsLastPlan [] digits = ⊥
IsLastPlan (line ∷ lines) digits = (IsPlanLine line digits × AreNoPlans lines) ⊎ IsLastPlan lines digits
