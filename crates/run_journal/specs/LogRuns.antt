-- What the whole lines of a log record of its run.
use Rattle.std.specs.Prelude.{◌≡◌, ◌⊎◌, ℕ, List, [], ◌∷◌, ◌++◌}
use Rattle.text_lines.specs.Lines.{lines_of}
use Rattle.cell_tables.specs.declared.entry.Entry.{Entry}
use Rattle.event_lines.specs.{declared.run_digits.RunDigits.RunDigits, EventLines.IsEntryLine}
use Rattle.event_lines.specs.{RunDigits.IsPlanLine, RunDigits.plan_line, LastPlan.AreNoPlans, LastPlan.IsLastPlan}
use Rattle.run_journal.specs.declared.log_run.LogRun.{LogRun}
use Rattle.run_journal.specs.declared.log_run.LogRun.TheVariants.{Unbegun, Unnamed, Named}

-- the line has the form of a report, of an order or of the line of a plan
abbrev pub IsOfRun : List ℕ → Type 0
IsOfRun line = ((entry : Entry) × IsEntryLine line entry) ⊎ ((digits : RunDigits) × IsPlanLine line digits)

-- a run has begun where one of its lines is such
abbrev pub HasBegun : List (List ℕ) → Type 0
HasBegun [] = ⊥
HasBegun (line ∷ lines) = IsOfRun line ⊎ HasBegun lines

-- what lines record of a run: that it hasn't begun, that no line says by which plan, or which does last
abbrev pub IsLogRunOf : List (List ℕ) → LogRun → Type 0
IsLogRunOf lines Unbegun = HasBegun lines → ⊥
IsLogRunOf lines Unnamed = HasBegun lines × AreNoPlans lines
IsLogRunOf lines (Named digits) = IsLastPlan lines digits

-- whole lines, and behind them the line of a plan, unless it is their last line of a plan
abbrev pub IsNamedFor : RunDigits → List ℕ → List ℕ → Type 0
IsNamedFor digits lines base = (IsLastPlan (lines_of lines) digits × (base ≡ lines)) ⊎ ((IsLastPlan (lines_of lines) digits → ⊥) × (base ≡ lines ++ plan_line digits))

-- these, or not yet
abbrev pub IsNamedOrNot : RunDigits → List ℕ → List ℕ → Type 0
IsNamedOrNot digits lines base = (base ≡ lines) ⊎ IsNamedFor digits lines base
