-- What a crash leaves of a log that was written to before an output was.
use Rattle.std.specs.Prelude.{◌≡◌, ℕ, List, ◌++◌, length}
use Rattle.text_lines.specs.Lines.{lines_of}
use Rattle.event_lines.specs.declared.run_digits.RunDigits.{RunDigits}
use Rattle.event_lines.specs.LastPlan.{IsLastPlan}
use Rattle.run_journal.specs.{LogFiles.IsLeft, WholeLines.whole_lines, LoggedLines.logged}

-- these are whole lines of what a log gets of a text, from its first one on, and among them are all that it gets of what was shown
pub record AreLinesOf (text shown lines : List ℕ) : Type 0 where
  pub behind : List ℕ
  pub first : whole_lines (logged text) ≡ lines ++ behind
  pub more : List ℕ
  pub has_shown : lines ≡ whole_lines (logged shown) ++ more

-- a log held whole lines; of what was shown since, and of what is pending, it got what a log gets, and of what is pending perhaps only the first. Whatever a crash leaves, its whole lines are those that it held and such lines
abbrev pub ACrashKeepsWhatWasShown : Type 0
ACrashKeepsWhatWasShown = (base shown pending left : List ℕ) → whole_lines base ≡ base → IsLeft (length (base ++ logged shown)) (base ++ logged (shown ++ pending)) left
    → (lines : List ℕ) × (whole_lines left ≡ base ++ lines) × AreLinesOf (shown ++ pending) shown lines

-- whole lines name a plan last; of what a log gets behind them no line is that of a plan. Whatever a crash leaves names the same plan last
abbrev pub ACrashKeepsThePlan : Type 0
ACrashKeepsThePlan = (digits : RunDigits) (base shown pending left : List ℕ) → whole_lines base ≡ base → IsLastPlan (lines_of base) digits
    → IsLeft (length (base ++ logged shown)) (base ++ logged (shown ++ pending)) left → IsLastPlan (lines_of (whole_lines left)) digits
