-- The answers of the command `improve` of the rest of a run.
use Rattle.std.specs.Prelude.{◌≡◌, ◌≤◌, ◌⊎◌, ℕ, List, Option, Some, None, Result, Ok, Err, codes}
use Rattle.shop_base.specs.declared.node.Node.{Node}
use Rattle.shop_base.specs.Plan.{PlannedShop, IsWellShaped}
use Rattle.shop_base.specs.Cell.{Cell}
use Rattle.alt_graph.specs.Evidence.{IsCycle}
use Rattle.alt_graph.specs.Solved.{HasCycle}
use Rattle.cell_tables.specs.Reordered.{IsReordered}
use Rattle.run_log.specs.Audits.{ParseAsRun}
use Rattle.text_lines.specs.Lines.{ended_lines}
use Rattle.plan_text.specs.declared.plan_fault.PlanFault.TheVariants.{NotReadBack}
use Rattle.plan_text.specs.Lines.{plan_lines}
use Rattle.plan_text.specs.Documents.{IsPlanText}
use Rattle.plan_explain.specs.FirstLines.{cycle_line}
use Rattle.plan_seek.specs.declared.search.TheConstants.{MAX_ROUNDS}
use Rattle.plan_improve.specs.Settings.{rest_from}
use Rattle.plan_verifier.specs.declared.verdict.Judged.{Judged}
use Rattle.plan_verifier.specs.declared.verdict.Judged.TheVariants.{Accepted, Refused}
use Rattle.plan_verifier.specs.declared.verdict.Why.TheVariants.{Cycle, Late}
use Rattle.plan_verifier.specs.RestVerdicts.{IsAcceptableAhead}
use Rattle.plan_improve.specs.declared.improve_fault.ImproveFault.{ImproveFault}
use Rattle.plan_improve.specs.declared.improve_fault.ImproveFault.TheVariants.{TooManyRounds, Memory as OutOfMemory}
use Rattle.plan_improve.specs.declared.{improved.Improved.Improved, not_improved.NotImproved.NotImproved}
use Rattle.plan_improve.specs.Improved.{HasNoBegin, IsFound, IsNeverWorse}
use Rattle.command_answers.specs.declared.answer.Answer.{Answer}
use Rattle.command_answers.specs.declared.command_fault.CommandFault.{CommandFault}
use Rattle.command_answers.specs.declared.command_fault.CommandFault.TheVariants.{Plan, Memory}
use Rattle.command_answers.specs.Documents.{IsDocumentOf, IsDocumentAnswer}
use Rattle.command_answers.specs.Improving.{IsBestAnswer, IsTooManyLine, SearchBy}
use Rattle.command_answers.specs.Rests.{RecordsRun, IsRunRefused}
use Rattle.command_answers.specs.Steps.{IsOrMemory}

-- the best plan that is met for the rest of the run that these lines record, from its cell and a present moment on: only the orders may differ, the lines record a run of it, no cycle, never worse for the rest than the one with which the search begins, exactly what the questions make of that, and its rest is accepted if the start's is
pub record IsBestRest (made : SearchBy) (lines : List (List ℕ)) (c : Cell) (t : ℕ) (start best : PlannedShop) : Type 0 where
  pub same : IsReordered start best
  pub kept : ParseAsRun best lines
  pub acyclic : HasCycle best → ⊥
  pub never_worse : IsNeverWorse (rest_from c t) start best
  pub found : IsFound (rest_from c t) (made (rest_from c t)) start best
  pub stays_accepted : IsAcceptableAhead start c t → IsAcceptableAhead best c t

-- the status distinguishes an accepted rest from one of which a job is late
abbrev pub IsRestStatus : PlannedShop → Cell → ℕ → ℕ → Type 0
IsRestStatus best c t status = (IsAcceptableAhead best c t × (status ≡ 0)) ⊎ ((IsAcceptableAhead best c t → ⊥) × (status ≡ 1))

module _ (made : SearchBy) (lines : List (List ℕ)) (start : PlannedShop) (c : Cell) (t : ℕ) where
  -- the text of the best plan for the rest
  pub record IsBestRestText (answer : Answer) : Type 0 where
    pub best : PlannedShop
    pub is : IsBestRest made lines c t start best
    pub text : IsDocumentOf best.plan answer.status answer
    pub status : IsRestStatus best c t answer.status

  -- the best plan has a text that isn't read as this plan
  pub record IsBestRestUnreadable : Type 0 where
    pub best : PlannedShop
    pub is : IsBestRest made lines c t start best
    pub unreadable : IsPlanText (plan_lines best.plan) best.plan → ⊥

-- `refused cycle n0 n1 ..`
abbrev pub IsLineOfCycle : List Node → Answer → Type 0
IsLineOfCycle nodes answer = (answer.text.items ≡ cycle_line nodes) × (answer.status ≡ 1)

-- the line of a plan with a cycle, where a job has arrived
pub record IsRestCycle (start : PlannedShop) (c : Cell) (t : ℕ) (answer : Answer) : Type 0 where
  pub none : HasNoBegin (rest_from c t) start
  pub nodes : List Node
  pub cycle : IsCycle start nodes
  pub line : IsLineOfCycle nodes answer

-- what is answered after at most as many rounds as may be asked for: the text of the best plan; or a line, of a cycle, of the log's first fault, or of a moment that is past
abbrev pub IsRestFound : SearchBy → Option ℕ → List (List ℕ) → PlannedShop → Answer → Type 0
IsRestFound made at lines start answer =
    RecordsRun (λ c entries t. IsBestRestText made lines start c t answer ⊎ IsRestCycle start c t answer) at lines start ⊎ IsRunRefused at lines start answer

-- what is answered of a plan that is well shaped: that, or the line of too many rounds; that the text isn't read as the best plan; or that memory ran out
abbrev pub IsRestAnswer : SearchBy → Option ℕ → ℕ → List (List ℕ) → PlannedShop → Result Answer CommandFault → Type 0
IsRestAnswer made at rounds lines start (Ok answer) = ((rounds ≤ MAX_ROUNDS) × IsRestFound made at lines start answer) ⊎ IsTooManyLine rounds answer
IsRestAnswer made at rounds lines start (Err Memory) = Unit {0}
IsRestAnswer made at rounds lines start (Err (Plan fault)) =
    (fault ≡ NotReadBack) × (rounds ≤ MAX_ROUNDS) × RecordsRun (λ c entries t. IsBestRestUnreadable made lines start c t) at lines start
IsRestAnswer made at rounds lines start (Err other) = ⊥

-- what is answered where a run is: so of its log, or before it has begun of the whole plan
abbrev pub IsBetterAnswer : SearchBy → ℕ → Option ℕ → PlannedShop → Option (List ℕ) → Result Answer CommandFault → Type 0
IsBetterAnswer made rounds at start None = IsBestAnswer made rounds start
IsBetterAnswer made rounds at start (Some log) = IsRestAnswer made at rounds (ended_lines log) start

-- what is answered of a plan with the verdict on its rest: its text, or the line of a cycle
abbrev pub IsJudgedAnswer : PlannedShop → Judged → Result Answer CommandFault → Type 0
IsJudgedAnswer best (Accepted times) outcome = IsDocumentAnswer best.plan 0 outcome
IsJudgedAnswer best (Refused (Cycle nodes)) outcome = IsOrMemory (IsLineOfCycle nodes.items) outcome
IsJudgedAnswer best (Refused (Late job leaves chain times)) outcome = IsDocumentAnswer best.plan 1 outcome

-- the fault of a command that the search's is, if memory ran out
abbrev pub improve_command_fault : ImproveFault → Option CommandFault
improve_command_fault OutOfMemory = Some Memory
improve_command_fault fault = None

-- what is answered where no plan is given
abbrev pub IsUnfoundAnswer : ImproveFault → Result Answer CommandFault → Type 0
IsUnfoundAnswer TooManyRounds outcome = IsOrMemory (λ answer. (answer.text.items ≡ codes "too many rounds\n") × (answer.status ≡ 1)) outcome
IsUnfoundAnswer OutOfMemory outcome = outcome ≡ Err Memory

-- what is answered where a search has ended so
abbrev pub IsSearchAnswer : Result Improved NotImproved → Result Answer CommandFault → Type 0
IsSearchAnswer (Ok found) outcome = IsWellShaped found.shaped × IsJudgedAnswer found.shaped found.verdict outcome
IsSearchAnswer (Err refused) outcome = IsUnfoundAnswer refused.fault outcome
