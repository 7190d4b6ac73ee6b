-- A log and an output whose bytes are known.
use Rattle.std.specs.Prelude.{◌≡◌, ℕ, List, ◌++◌}
use Rattle.run_journal.specs.LoggedLines.{logged}

-- behind the start the output shows a text, and behind the base the log has what it gets of that
pub record HasWhatIsShown (base start log output : List ℕ) : Type 0 where
  pub shown : List ℕ
  pub output_is : output ≡ start ++ shown
  pub log_is : log ≡ base ++ logged shown
