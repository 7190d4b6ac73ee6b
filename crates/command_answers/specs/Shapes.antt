-- The line that answers `shape`.
use Rattle.std.specs.Prelude.{◌≡◌, ℕ, List, ◌++◌, ◌⊎◌, Result, Ok, Err, codes, decimal}
use Rattle.shop_base.specs.declared.shape_fault.ShapeFault.{ShapeFault}
use Rattle.shop_base.specs.declared.shape_fault.ShapeFault.TheVariants.{ReleaseCount, BudgetCount, OrderCount, CleanCount, ReleaseTooLarge, BudgetTooLarge, CleanTooLarge, JobOutOfRange, NotOnRoute, JobTwice, JobMissing}
use Rattle.shop_base.specs.Plan.{PlannedShop, IsWellShaped}
use Rattle.shop_base.specs.ShapeFault.{IsFirstShapeFault}
use Rattle.command_answers.specs.declared.answer.Answer.{Answer}

-- a well-shaped plan itself, or the first fault of its shape
abbrev pub IsShapedOrNot : PlannedShop → Result PlannedShop ShapeFault → Type 0
IsShapedOrNot p (Ok shaped) = (shaped ≡ p) × IsWellShaped p
IsShapedOrNot p (Err fault) = IsFirstShapeFault p fault

-- the line of a plan that is well shaped for its shop
pub record IsShapedLine (p : PlannedShop) (answer : Answer) : Type 0 where
  pub well_shaped : IsWellShaped p
  pub line : answer.text.items ≡ codes "shaped\n"
  pub good : answer.status ≡ 0

-- words and a number
abbrev pub one_fact : List ℕ → ℕ → List ℕ
one_fact word number = word ++ decimal number

-- words, a number, more words and another number
abbrev pub two_facts : List ℕ → ℕ → List ℕ → ℕ → List ℕ
two_facts word number next other = word ++ decimal number ++ next ++ decimal other

-- a fault in words: its name, and where it is
abbrev pub shape_fault_words : ShapeFault → List ℕ
shape_fault_words ReleaseCount = codes "ReleaseCount"
shape_fault_words BudgetCount = codes "BudgetCount"
shape_fault_words OrderCount = codes "OrderCount"
shape_fault_words CleanCount = codes "CleanCount"
shape_fault_words (ReleaseTooLarge job) = one_fact (codes "ReleaseTooLarge job ") job
shape_fault_words (BudgetTooLarge job) = one_fact (codes "BudgetTooLarge job ") job
shape_fault_words (CleanTooLarge machine) = one_fact (codes "CleanTooLarge machine ") machine
shape_fault_words (JobOutOfRange machine place) = two_facts (codes "JobOutOfRange machine ") machine (codes " place ") place
shape_fault_words (NotOnRoute machine place) = two_facts (codes "NotOnRoute machine ") machine (codes " place ") place
shape_fault_words (JobTwice machine place) = two_facts (codes "JobTwice machine ") machine (codes " place ") place
shape_fault_words (JobMissing machine job) = two_facts (codes "JobMissing machine ") machine (codes " job ") job

-- a line with the words of a fault behind these, which refuses
pub record IsLineOfFault (what : List ℕ) (fault : ShapeFault) (answer : Answer) : Type 0 where
  pub line : answer.text.items ≡ what ++ shape_fault_words fault ++ codes "\n"
  pub refused : answer.status ≡ 1

-- the line of a plan that isn't well shaped, with its fault
abbrev pub IsRefusedLine : ShapeFault → Answer → Type 0
IsRefusedLine fault answer = IsLineOfFault (codes "not shaped ") fault answer

-- the line of a plan that isn't well shaped for its shop
pub record IsNotShapedLine (p : PlannedShop) (answer : Answer) : Type 0 where
  pub fault : ShapeFault
  pub first : IsFirstShapeFault p fault
  pub line : IsRefusedLine fault answer

-- the line of a plan's shape
abbrev pub IsShapeLine : PlannedShop → Answer → Type 0
IsShapeLine p answer = IsShapedLine p answer ⊎ IsNotShapedLine p answer

-- the line of a plan that was found well shaped, or of one with this fault
abbrev pub IsFoundLine : Result PlannedShop ShapeFault → Answer → Type 0
IsFoundLine (Ok shaped) answer = (answer.text.items ≡ codes "shaped\n") × (answer.status ≡ 0)
IsFoundLine (Err fault) answer = IsRefusedLine fault answer
