-- Where a run is of which something is asked.
use Rattle.std.specs.Prelude.{◌≡◌, ℕ, List, [], Option, None, Some, Result, Ok, Err}
use Rattle.shop_base.specs.{Plan.PlannedShop, Cell.start}
use Rattle.text_lines.specs.Lines.{ended_lines}
use Rattle.run_log.specs.Present.{IsRunAt}
use Rattle.people_names.specs.NameBooks.{NameBook}
use Rattle.plan_verifier.specs.{Accepted.IsAcceptable, Verdicts.IsReason}
use Rattle.plan_verifier.specs.declared.verdict.Judged.{Judged}
use Rattle.plan_verifier.specs.declared.verdict.Judged.TheVariants.{Accepted, Refused}
use Rattle.command_answers.specs.declared.answer.Answer.{Answer}
use Rattle.command_answers.specs.declared.known_rests.KnownRest.{KnownRest}
use Rattle.command_answers.specs.Rests.{IsRunRefused}

-- the verdict is that on the whole plan
abbrev pub IsPlanVerdict : PlannedShop → Judged → Type 0
IsPlanVerdict p (Accepted times) = IsAcceptable p
IsPlanVerdict p (Refused why) = IsReason p why

-- the run hasn't begun, and this is said of its plan
pub record IsAtStart (p : PlannedShop) (said : Judged) (s : KnownRest) : Type 0 where
  pub cell : s.rest.cell ≡ start p
  pub present : s.rest.present ≡ 0
  pub entries : s.entries.items ≡ []
  pub at : s.at ≡ None
  pub verdict : s.verdict ≡ said

-- without a log the run hasn't begun, and the verdict is that on the plan; else it is where the whole lines of the log lead
abbrev pub IsKnownAt : Option ℕ → PlannedShop → Option (List ℕ) → KnownRest → Type 0
IsKnownAt at p None s = IsAtStart p s.verdict s × IsPlanVerdict p s.verdict
IsKnownAt at p (Some log) s = IsRunAt (ended_lines log) at p s.rest.cell s.entries.items s.rest.present × (s.at ≡ at)

-- a run of this plan is there, and these are the names
pub record IsKnownRest (at : Option ℕ) (p : PlannedShop) (names : NameBook) (log : Option (List ℕ)) (s : KnownRest) : Type 0 where
  pub named : s.names ≡ names
  pub plan : s.rest.plan ≡ p
  pub there : IsKnownAt at p log s

-- it is found, or there is the line that says why the log leads nowhere
abbrev pub IsFoundRest : Option ℕ → PlannedShop → NameBook → Option (List ℕ) → Result KnownRest Answer → Type 0
IsFoundRest at p names log (Ok s) = IsKnownRest at p names log s
IsFoundRest at p names None (Err line) = ⊥
IsFoundRest at p names (Some log) (Err line) = IsRunRefused at (ended_lines log) p line

-- it isn't found, but there is such a line
abbrev pub IsInstead : (Answer → Type 0) → Result KnownRest Answer → Type 0
IsInstead Is (Ok s) = ⊥
IsInstead Is (Err line) = Is line
